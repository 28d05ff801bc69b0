-- A command that runs the text of a store by workers, whatever the store, and what it prints.
use Rattle.std.specs.Prelude.{ℕ, List, Option}
use Rattle.std.specs.Io.KnownBytes.{Appends}

-- the words are this command, with some number of workers, the bytes are the text of some input, and this holds of both
pub record OfInput {Input : Type 0} (IsCommand : List (List ℕ) → ℕ → Type 0) (Spells : List ℕ → Input → Type 0)
    (words : List (List ℕ)) (bytes : List ℕ) (P : Input → ℕ → Type 0) : Type 0 where
  pub workers : ℕ
  pub command : IsCommand words workers
  pub input : Input
  pub spelled : Spells bytes input
  pub holds : P input workers

-- one whole text was printed, of which this holds
pub record PrintsText (P : List ℕ → Type 0) (before now : Option (List ℕ)) : Type 0 where
  pub text : List ℕ
  pub output : P text
  pub printed : Appends before now text
