-- What a closed table is seen as, what is said of its records, and which passes it takes to close one.
use Rattle.std.specs.Prelude.{◌≡◌, ◌↔◌, ℕ, ◌<◌, ◌==◌, ◌&&◌, ◌||◌, Bool, false, List, [], ◌∷◌, length, Some, slice_get}
use Rattle.atomic_table.specs.Seated.{TableId}
use Rattle.std.specs.List.{count_by, flat_map}
use Rattle.history_model.specs.declared.entry.Entry.{Entry}
use Rattle.history_model.specs.declared.item.Item.{Item}
use Rattle.history_model.specs.declared.item.LockUse.{LockUse}
use Rattle.history_model.specs.Arrangements.{IsArrangement}
use Rattle.history_model.specs.Items.{AgreeWithVersions, replay_items}
use Rattle.history_model.specs.declared.view.Phase.TheVariants.{Idle}
use Rattle.history_model.specs.Legal.{IsIn}
use Rattle.values_rule.specs.Closing.{IsPlaced}
use Rattle.values_rule.specs.History.{items_of_entry}
use Rattle.values_rule.specs.Records.{IsApart, AreCauses, Knew}
use Rattle.word_table.specs.Copies.{PassView}

-- a closed table: the words that it began with, how many seats it had, which words are good, the records of all that was
-- committed, and the words that it left
pub record ClosedView (S : Type 0) : Type 0 where
  pub base : List ℕ
  pub seats : ℕ
  pub shape : S
  pub records : List Entry
  pub words : List ℕ

-- the items of its records: each with the attempts of its call that gave way
abbrev pub items_of_closed : {S : Type 0} → ClosedView S → List Item
items_of_closed closed = flat_map items_of_entry closed.records

-- whether one of the uses wrote lock k
unfoldable pub wrote_lock : ℕ → List LockUse → Bool
wrote_lock k [] = false
wrote_lock k (u ∷ us) = (u.lock == k && u.wrote) || wrote_lock k us

-- how many of the records wrote it, which is its version in the end
abbrev pub writes_of : List Entry → ℕ → ℕ
writes_of records k = count_by (λ (e : Entry). wrote_lock k e.uses) records

-- the items agree with the versions that the locks have in the end, and have an arrangement
pub record IsCoherent {S : Type 0} (good : List ℕ → Type 0) (closed : ClosedView S) : Type 0 where
  pub agree : AgreeWithVersions good closed.base (writes_of closed.records) (items_of_closed closed)
  pub order : List Item
  pub arranged : IsArrangement (items_of_closed closed) order

-- each arrangement of the items is a legal history: each item stands at a legal place, and the words are what it leaves
pub record IsLegalInEachOrder {S : Type 0} (good : List ℕ → Type 0) (closed : ClosedView S) : Type 0 where
  pub placed : (order : List Item) → IsArrangement (items_of_closed closed) order → (p : ℕ) (x : Item) → slice_get order p ≡ Some x
      → IsPlaced good closed.seats closed.base order p x
  pub words : (order : List Item) → IsArrangement (items_of_closed closed) order → closed.words ≡ replay_items closed.base order

-- the records, each once and one for a call: each knew its caller's earlier ones, its floor is how many it knew, and its
-- causes are other seats with earlier timestamps, whose attempts stand behind that floor
pub record AreRecords {S : Type 0} (closed : ClosedView S) : Type 0 where
  pub apart : IsApart closed.records
  pub one : (e x : Entry) → IsIn e closed.records → IsIn x closed.records → e.who ≡ x.who → e.call ≡ x.call → e ≡ x
  pub knew_own : (e x : Entry) → IsIn e closed.records → IsIn x closed.records → x.who ≡ e.who → x.call < e.call → Knew e x
  pub floors : (e : Entry) → IsIn e closed.records
      → (known : List Entry) × IsApart known × ((x : Entry) → IsIn x known ↔ (IsIn x closed.records × Knew e x)) × (length known ≡ e.floor)
  pub causes : (e : Entry) → IsIn e closed.records → AreCauses closed.seats e.who e.stamp e.floor e.abandoned

-- all passes of a table, each between calls
pub record AreAllPasses (table : TableId) (seats : ℕ) (passes : List PassView) : Type 0 where
  pub of_table : (pass : PassView) → IsIn pass passes → pass.table ≡ table
  pub idle : (pass : PassView) → IsIn pass passes → pass.view.phase ≡ Idle
  pub all : (j : ℕ) → j < seats → (pass : PassView) × IsIn pass passes × (pass.view.who ≡ j ∷ [])

-- these are the entries that the passes had seen
abbrev pub AreSeenBy : List PassView → List Entry → Type 0
AreSeenBy passes entries = (e : Entry) → IsIn e entries ↔ ((pass : PassView) × (IsIn pass passes × IsIn e pass.view.seen))
