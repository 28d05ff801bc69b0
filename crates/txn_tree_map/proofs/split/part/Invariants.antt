use Rattle.txn_tree_map.proofs.Common.{◌≡◌, None, Begins, LeadsTo, WritesWithin, ReadsWithin, IsParted, IsSplitOwn, IsSplitSeen}
use Rattle.txn_tree_map.proofs.split.part.Given as goal

abbrev pub invariant-loop : goal.invariant-loop
invariant-loop g l =
    let words = g.W.Words in
    record {
      shape : words.shape l.w ≡ words.shape l.fn.w;
      origin : words.origin l.w ≡ words.origin l.fn.w;
      stop : words.stop l.w ≡ None;
      sound : words.is_sound l.w;
      begins : Begins (words.trace l.fn.w) (words.trace l.w);
      reads : ReadsWithin words g.W.Shape.Shape l.fn.w l.w (IsSplitSeen l.map l.key l.block l.name);
      own : WritesWithin words g.W.Shape.Shape l.fn.w l.w (IsSplitOwn l.map l.key l.block l.name);
      parted : LeadsTo words g.W.Shape.Shape l.fn.w l.w (IsParted l.map l.key l.block l.name l.counter l.ends.smaller l.ends.greater l.ends.rest);
    }
