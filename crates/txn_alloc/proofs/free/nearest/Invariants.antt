use Rattle.txn_alloc.proofs.Common.{◌≡◌, None, Looks}
use Rattle.txn_alloc.proofs.FreeLists.Takings.{AreEmpty, IsHeadWithin}
use Rattle.txn_alloc.proofs.free.nearest.Given as goal

-- so many lists were looked at, and all of them are empty
abbrev pub invariant-loop-passed : goal.invariant-loop-passed
invariant-loop-passed g l =
    let words = g.W.Words in
    record {
      shape : words.shape l.w ≡ words.shape l.fn.w;
      origin : words.origin l.w ≡ words.origin l.fn.w;
      stop : words.stop l.w ≡ None;
      sound : words.is_sound l.w;
      looks : Looks (g.W.Shape.Shape.word_count (words.shape l.fn.w)) (g.W.Shape.Shape.good (words.shape l.fn.w))
          (words.trace l.fn.w) (words.trace l.w) (IsHeadWithin l.arena l.near l.passed) (AreEmpty l.arena l.near l.passed);
    }
