use Rattle.txn_tree_map.proofs.Common.{◌≡◌, ◌≤◌, ◌*◌, ◌^◌, ℕ, List, None, after, Fits, AppendsReads, InEachState, Looks, MayReadRange, tree_part, IsAnyWord}
use Rattle.txn_tree_map.proofs.Common.{IsWalk}
use Rattle.txn_tree_map.proofs.Summed.{IsSummed}
use Rattle.txn_tree_map.proofs.sum.sum_along.Given as goal

abbrev pub invariant-loop : goal.invariant-loop
invariant-loop g l =
    let words = g.W.Words in
    record {
      shape : words.shape l.w ≡ words.shape l.fn.w;
      origin : words.origin l.w ≡ words.origin l.fn.w;
      stop : words.stop l.w ≡ None;
      sound : words.is_sound l.w;
      from : l.low ≤ l.least;
      bound : l.total ≤ l.counter * 2 ^ 64;
      looks : Looks (g.W.Shape.Shape.word_count (words.shape l.fn.w)) (g.W.Shape.Shape.good (words.shape l.fn.w))
          (words.trace l.fn.w) (words.trace l.w) IsAnyWord (IsSummed l.map l.low l.high l.least l.counter l.total);
      reads : (s : List ℕ) → Fits (g.W.Shape.Shape.word_count (words.shape l.fn.w)) (g.W.Shape.Shape.good (words.shape l.fn.w)) (words.trace l.w) s
          → AppendsReads (words.trace l.fn.w) (words.trace l.w)
          (MayReadRange (tree_part l.map) l.low l.high (after (words.trace l.fn.w) s) (after (words.trace l.w) s));
      walk : InEachState words g.W.Shape.Shape l.w (IsWalk l.map l.walk l.least 0);
    }
