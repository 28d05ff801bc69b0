use Rattle.word_table.proofs.Common.{[], ◌∷◌, ◌++◌, vec_len, IsGathered}
use Rattle.word_table.proofs.closing.join_passes.Given as goal

-- the seat has taken all passes but those that are left
abbrev pub invariant-loop-pass : goal.invariant-loop-pass
invariant-loop-pass g l = IsGathered l.table.table_id (l.fn.passes.items ++ l.fn.first ∷ []) l.passes.items l.seat.table_id l.seat.me

abbrev pub decreases-loop-pass : goal.decreases-loop-pass
decreases-loop-pass g l = vec_len l.passes
