-- The table as it begins: no call was begun, and the memory is the base.
use Rattle.std.specs.Prelude.{◌≡◌, ℕ, ◌<◌, false, List, [], length, Some, slice_get, slice_index}
use Rattle.history_model.specs.declared.TheConstants.{LOCKS}
use Rattle.history_model.specs.declared.view.View.{View}
use Rattle.history_model.specs.declared.view.Phase.TheVariants.{Idle}
use Rattle.history_model.specs.Table.{Knows, serial_word, calls_word, commits_word, version_word}
use Rattle.locks_rule.specs.Locks.{LocksHold}
use Rattle.values_rule.specs.Values.{table_value}
use Rattle.values_rule.specs.Versions.{ValuesHold}

-- a view whose seats made no call yet
pub record IsUnused (v : View) : Type 0 where
  pub phase : v.phase ≡ Idle
  pub joined : v.joined ≡ false
  pub seen : v.seen ≡ []
  pub call : v.call ≡ 0
  pub undo : v.undo ≡ []
  pub uses : v.uses ≡ []
  pub owed : v.owed ≡ []

-- no call was begun and no version was raised, and the memory is the base
pub record IsUntouched (n : ℕ) (base words : List ℕ) (views : List View) : Type 0 where
  pub serial : slice_index words serial_word ≡ 0
  pub calls : (j : ℕ) → j < n → slice_index words (calls_word n j) ≡ 0
  pub commits : (j : ℕ) → j < n → slice_index words (commits_word n j) ≡ 0
  pub versions : (k : ℕ) → k < LOCKS → slice_index words (version_word n k) ≡ 0
  pub values : (a : ℕ) → a < length base → slice_get base a ≡ Some (table_value n words a)
  pub unused : (id : ℕ) (v : View) → Knows views id v → IsUnused v

-- the value invariant holds of it, if the base is good
abbrev pub OpeningHolds : (List ℕ → Type 0) → Type 0
OpeningHolds good =
    (n : ℕ) (base words : List ℕ) (views : List View)
    → LocksHold n base words views → good base → IsUntouched n base words views → ValuesHold good n base words views
