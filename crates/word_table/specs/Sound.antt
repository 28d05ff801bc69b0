-- What holds of a table between any two steps, and how it begins.
use Rattle.std.specs.Prelude.{ℕ, zero, suc, List, [], ◌∷◌, ◌++◌, replicate}
use Rattle.history_model.specs.declared.view.View.{View}
use Rattle.history_model.specs.Fitting.{IsGood}
use Rattle.history_model.specs.Table.{value_word}
use Rattle.locks_rule.specs.Locks.{LocksHold}
use Rattle.values_rule.specs.Versions.{ValuesHold}
use Rattle.stamps_rule.specs.Stamps.{StampsHold}
use Rattle.word_table.specs.declared.rule.Ground.{Ground}
use Rattle.word_table.specs.Versions.{VersionsBounded}

-- for n seats and the words base that the memory began with, of which some lists are good
pub record IsSound (good : List ℕ → Type 0) (n : ℕ) (base words : List ℕ) (views : List View) : Type 0 where
  pub locks : LocksHold n base words views
  pub values : ValuesHold good n base words views
  pub stamps : StampsHold n words views
  pub versions : VersionsBounded n words views

-- the same, for a table that was made with this ground; word_count and good are those of its shape
abbrev pub GroundHolds : {S : Type 0} → (S → ℕ) → (S → List ℕ → Type 0) → Ground S → List ℕ → List View → Type 0
GroundHolds word_count good made = IsSound (IsGood (word_count made.shape) (good made.shape)) made.seats made.base.items

-- the words at the start: the base, and 0 in all words before it
abbrev pub opening_words : ℕ → List ℕ → List ℕ
opening_words n base = replicate (value_word n 0) 0 ++ base

-- the m numbers from j on
abbrev pub numbers : ℕ → ℕ → List ℕ
numbers j zero = []
numbers j (suc m) = j ∷ numbers (suc j) m
