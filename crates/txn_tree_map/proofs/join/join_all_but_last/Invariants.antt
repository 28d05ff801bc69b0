use Rattle.txn_tree_map.proofs.Common.{◌≡◌, None, Begins, LeadsTo, WritesWithin, ReadsWithin, IsJoined, IsJoinOwn, IsJoinSeen}
use Rattle.txn_tree_map.proofs.join.join_all_but_last.Given as goal

abbrev pub invariant-loop : goal.invariant-loop
invariant-loop g l =
    let words = g.W.Words in
    record {
      shape : words.shape l.w ≡ words.shape l.fn.w;
      origin : words.origin l.w ≡ words.origin l.fn.w;
      stop : words.stop l.w ≡ None;
      sound : words.is_sound l.w;
      begins : Begins (words.trace l.fn.w) (words.trace l.w);
      reads : ReadsWithin words g.W.Shape.Shape l.fn.w l.w (IsJoinSeen l.map l.hole l.left l.right);
      own : WritesWithin words g.W.Shape.Shape l.fn.w l.w (IsJoinOwn l.map l.hole l.left l.right);
      joined : LeadsTo words g.W.Shape.Shape l.fn.w l.w (IsJoined l.map l.hole l.left l.right l.counter l.gap.place l.gap.left l.gap.right);
    }
