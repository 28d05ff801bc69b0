use Rattle.txn_hash_map.proofs.Common.{◌≡◌, None, Looks, IsLink}
use Rattle.txn_hash_map.proofs.Passed.{IsPassed}
use Rattle.txn_hash_map.proofs.find.find.Given as goal

abbrev pub invariant-loop : goal.invariant-loop
invariant-loop g l =
    let words = g.W.Words in
    record {
      shape : words.shape l.w ≡ words.shape l.fn.w;
      origin : words.origin l.w ≡ words.origin l.fn.w;
      stop : words.stop l.w ≡ None;
      sound : words.is_sound l.w;
      looks : Looks (g.W.Shape.Shape.word_count (words.shape l.fn.w)) (g.W.Shape.Shape.good (words.shape l.fn.w))
          (words.trace l.fn.w) (words.trace l.w) (IsLink l.map l.key) (IsPassed l.map l.key l.place l.counter);
    }
