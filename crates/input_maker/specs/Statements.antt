-- What the law of generated inputs says.
use Rattle.std.specs.Prelude.{ℕ, ◌*◌, ◌≤◌, length}
use Rattle.books_model.specs.Ranges.{IsWithin}
use Rattle.script_reader.specs.declared.limits.TheConstants.{MOST_CALLERS, MOST_INPUT_BYTES, MOST_SCRIPTS}
use Rattle.script_reader.specs.Grammar.{Spells}
use Rattle.input_maker.specs.declared.limits.TheConstants.{GREATEST_SEED}
use Rattle.input_maker.specs.Made.{made_input, made_input_text}

-- a seed, how many callers there are, and how many scripts each of them has
pub record AreForMake (seed callers scripts : ℕ) : Type 0 where
  pub seed_range : seed ≤ GREATEST_SEED
  pub callers_range : IsWithin 1 MOST_CALLERS callers
  pub scripts_range : IsWithin 1 MOST_SCRIPTS scripts
  pub few : callers * scripts ≤ MOST_SCRIPTS

-- each generated text is the text of an input
abbrev pub MadeInputsAreInputs : Type 0
MadeInputsAreInputs = (seed callers scripts : ℕ) → AreForMake seed callers scripts
    → Spells (made_input_text seed callers scripts) (made_input seed callers scripts)

-- and it is small enough to be read
abbrev pub MadeInputsFit : Type 0
MadeInputsFit =
    (seed callers scripts : ℕ) → AreForMake seed callers scripts
    → length (made_input_text seed callers scripts) ≤ MOST_INPUT_BYTES
