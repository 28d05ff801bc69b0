-- A verdict's two parts.
use Rattle.std.specs.Prelude.{Bool, true, false}
use Rattle.txn_words.specs.declared.job.Verdict.{Verdict}
use Rattle.txn_words.specs.declared.job.Verdict.TheVariants.{Keep, Revert}

-- whether the writes count
abbrev pub is_kept : {A : Type 0} → Verdict A → Bool
is_kept (Keep answer) = true
is_kept (Revert answer) = false

-- what the job answers, kept or not
abbrev pub answer_of : {A : Type 0} → Verdict A → A
answer_of (Keep answer) = answer
answer_of (Revert answer) = answer
