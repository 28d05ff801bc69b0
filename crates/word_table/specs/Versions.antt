-- Versions of locks: what an attempt found, the steps on them, and that none is above the number of calls.
use Rattle.std.specs.Prelude.{◌≡◌, ℕ, ◌+◌, ◌<◌, ◌≤◌, true, List, [], map, slice_index}
use Rattle.history_model.specs.declared.TheConstants.{LOCKS}
use Rattle.history_model.specs.declared.view.View.{View}
use Rattle.history_model.specs.Counts.{is_open, calls_sum, open_count}
use Rattle.history_model.specs.Legal.{IsIn}
use Rattle.history_model.specs.Sets.{has}
use Rattle.history_model.specs.Table.{Knows, version_word}
use Rattle.history_model.specs.Views.{HasClaim}
use Rattle.locks_rule.specs.Versions.{MayStoreVersion}

-- the locks whose versions an attempt found
abbrev pub locks_found : List (ℕ × ℕ) → List ℕ
locks_found uses = map (λ u. u.0) uses

-- the attempt has a use of lock k
abbrev pub HasUseOf : View → ℕ → Type 0
HasUseOf v k = has k (locks_found v.uses) ≡ true

-- 1 more than the version x is stored, while the claim on lock k stands
pub record MayRaiseVersion (j k x : ℕ) (v : View) : Type 0 where
  pub stores : MayStoreVersion j k x v
  pub claim : HasClaim v k

-- no version is above the number of calls that were begun and are no longer open, and one that is owed is below it: so 1
-- more than a version fits a word
pub record VersionsBounded (n : ℕ) (words : List ℕ) (views : List View) : Type 0 where
  pub ended : ℕ
  pub counted : ended + open_count views ≤ calls_sum n words
  pub words_below : (k : ℕ) → k < LOCKS → slice_index words (version_word n k) ≤ ended
  pub uses_below : (id k x : ℕ) (v : View) → Knows views id v → IsIn (k, x) v.uses → x ≤ ended
  pub owed_below : (id k x : ℕ) (v : View) → Knows views id v → has k v.owed ≡ true → IsIn (k, x) v.uses → x < ended
  -- a call that has no entry yet owes nothing
  pub open_owes_none : (id : ℕ) (v : View) → Knows views id v → is_open v.phase ≡ true → v.owed ≡ []
