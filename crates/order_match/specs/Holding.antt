-- A lock that is asked for to write.
use Rattle.std.specs.Prelude.{ℕ}
use Rattle.history_model.specs.Traces.{Trace, Begins}
use Rattle.txn_words.specs.declared.words.Words.{Ghosts as AnyWords}
use Rattle.txn_words.specs.Steps.{EndsWithWrite}

-- a call wrote the word at this place first of all
pub record WritesFirst {W S O : Type 0} (words : AnyWords W S O) (a : ℕ) (old new : W) : Type 0 where
  pub value : ℕ
  pub written : Trace
  pub ends : EndsWithWrite (words.trace old) written a value
  pub begins : Begins written (words.trace new)
