-- Records are printed in the order of the index.
use Rattle.record_text.proofs.Common.{ℕ, List, [], ◌∷◌, map, arith, below_all, is_sorted, below_first, below_rest, sorted_first, sorted_rest, index_cmp}
use Rattle.std.proofs.Common.{T, All}
use Rattle.std.proofs.lemmas.List.Elements.{All-nil, All-cons}
use Rattle.std.proofs.lemmas.List.Kept.{AllPairs-cons}
use Rattle.record_text.specs.Output.{AreByRank, IsBefore, Printed}

-- an entry of the index, as it is printed
abbrev printed : (ℕ × ℕ) × ℕ → Printed
printed e = (e.0.1, e.0.0, e.1)

-- what is below all keys goes before all their records
before_all : (first : (ℕ × ℕ) × ℕ) (es : List ((ℕ × ℕ) × ℕ)) → T (below_all index_cmp first.0 es) → All (IsBefore (printed first)) (map printed es)
before_all first [] below = All-nil (IsBefore (printed first))
before_all first (e ∷ es) below = All-cons (IsBefore (printed first)) (printed e) (map printed es) (below_first index_cmp first.0 e es below)
    (before_all first es (below_rest index_cmp first.0 e es below))

pub printed_by_rank : (es : List ((ℕ × ℕ) × ℕ)) → T (is_sorted index_cmp es) → AreByRank (map printed es)
printed_by_rank [] sorted = λ i j d before within. absurd (omega arith)
printed_by_rank (e ∷ es) sorted = AllPairs-cons IsBefore (printed e) (map printed es) (before_all e es (sorted_first index_cmp e es sorted))
    (printed_by_rank es (sorted_rest index_cmp e es sorted))
