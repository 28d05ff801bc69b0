-- What holds of values, entries and views between any two steps, for n seats and the words base that the memory began with:
-- the value invariant, in its parts.
use Rattle.std.specs.Prelude.{◌≡◌, ℕ, true, List, slice_index}
use Rattle.history_model.specs.declared.item.Item.{Item}
use Rattle.history_model.specs.declared.view.View.{View}
use Rattle.history_model.specs.declared.view.Phase.TheVariants.{Releasing}
use Rattle.history_model.specs.Arrangements.{IsArrangement}
use Rattle.history_model.specs.Counts.{is_attempt}
use Rattle.history_model.specs.Items.{AgreeWithVersions}
use Rattle.history_model.specs.Legal.{IsIn}
use Rattle.history_model.specs.Locks.{lock_of_word}
use Rattle.history_model.specs.Sets.{has}
use Rattle.history_model.specs.Table.{Knows, serial_word}
use Rattle.history_model.specs.Traces.{Touches}
use Rattle.history_model.specs.Views.{HasWriteGrant, IsGranted}
use Rattle.values_rule.specs.Values.{UndoRestores, TraceCurrent}
use Rattle.values_rule.specs.History.{version_at, items_of, next_version, now_of}
use Rattle.values_rule.specs.Records.{RecordsClosed, CallsCounted, FloorAndAbandoned}

-- the items agree with the versions of the locks, and some order of them is an arrangement
pub record ItemsArranged (good : List ℕ → Type 0) (n : ℕ) (base words : List ℕ) (views : List View) : Type 0 where
  pub agree : AgreeWithVersions good base (next_version n words views) (items_of views)
  pub order : List Item
  pub arranged : IsArrangement (items_of views) order

-- a lock that is owed is held for writing by a call that has its entry, and its version is the one that the call found
pub record OwedHeld (n : ℕ) (words : List ℕ) (views : List View) : Type 0 where
  pub held : (id k : ℕ) (v : View) → Knows views id v → has k v.owed ≡ true
      → (v.phase ≡ Releasing) × HasWriteGrant v k × IsIn (k, version_at n words k) v.uses

-- an attempt uses locks that it holds, each at the version that it has next, and all locks of words that it touched
pub record UsesCurrent (n : ℕ) (words : List ℕ) (views : List View) : Type 0 where
  pub granted : (id k x : ℕ) (v : View) → Knows views id v → is_attempt v.phase ≡ true → IsIn (k, x) v.uses
      → IsGranted v k × (x ≡ next_version n words views k)
  pub once : (id k x y : ℕ) (v : View) → Knows views id v → IsIn (k, x) v.uses → IsIn (k, y) v.uses → x ≡ y
  pub covered : (id a : ℕ) (v : View) → Knows views id v → is_attempt v.phase ≡ true → Touches v.trace a
      → (x : ℕ) × IsIn (lock_of_word a, x) v.uses

-- the value invariant: no word counts the entries, and `now` is what all that was committed leaves
pub record ValuesHold (good : List ℕ → Type 0) (n : ℕ) (base words : List ℕ) (views : List View) : Type 0 where
  pub serial : slice_index words serial_word ≡ 0
  pub records : RecordsClosed n views
  pub calls : CallsCounted n words views
  pub items : ItemsArranged good n base words views
  pub owed : OwedHeld n words views
  pub uses : UsesCurrent n words views
  pub undo : UndoRestores n base (now_of n base words views) words views
  pub trace : TraceCurrent n base (now_of n base words views) words views
  pub floor : FloorAndAbandoned n views
