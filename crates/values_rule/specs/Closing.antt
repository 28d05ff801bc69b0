-- What follows from the value invariant: every arrangement of the items is a legal history, and what one view that has
-- all numbers says of the memory.
use Rattle.std.specs.Prelude.{◌≡◌, ℕ, ◌+◌, ◌<◌, true, false, List, length, slice_get, take, Some}
use Rattle.std.specs.List.{flat_map}
use Rattle.history_model.specs.declared.item.Item.{Item}
use Rattle.history_model.specs.declared.view.View.{View}
use Rattle.history_model.specs.declared.view.Phase.TheVariants.{Idle}
use Rattle.history_model.specs.Arrangements.{IsArrangement, WasSeenBefore}
use Rattle.history_model.specs.Counts.{is_attempt}
use Rattle.history_model.specs.Items.{AgreeWithVersions, replay_items}
use Rattle.history_model.specs.Legal.{IsIn}
use Rattle.history_model.specs.Sets.{has}
use Rattle.history_model.specs.Table.{Knows}
use Rattle.history_model.specs.Traces.{IsLegalTrace}
use Rattle.locks_rule.specs.Locks.{LocksHold}
use Rattle.values_rule.specs.Undone.{memory_of, undone_by}
use Rattle.values_rule.specs.Values.{table_value}
use Rattle.values_rule.specs.History.{version_at, items_of_entry, items_of}
use Rattle.values_rule.specs.Versions.{ValuesHold}

-- an item at place p: its trace is legal there, and good words are left; an entry stands behind its caller's earlier
-- entries and behind all that its pass had seen, and an attempt that gave way behind these and before its call's entry
pub record IsPlaced (good : List ℕ → Type 0) (n : ℕ) (base : List ℕ) (order : List Item) (p : ℕ)
    (x : Item) : Type 0 where
  pub legal : IsLegalTrace x.trace (replay_items base (take p order))
  pub leaves_good : good (replay_items base (take (p + 1) order))
  pub by_seat : x.who < n
  pub after_own : x.entry ≡ true → (q : ℕ) (y : Item) → q < p → slice_get order q ≡ Some y
      → y.entry ≡ true → y.who ≡ x.who → y.call < x.call
  pub after_seen : (y : Item) → IsIn y order → WasSeenBefore y x
      → (q : ℕ) × (q < p) × (slice_get order q ≡ Some y)
  pub before_own : x.entry ≡ false → (y : Item) → IsIn y order → y.entry ≡ true → y.who ≡ x.who → y.call ≡ x.call
      → (q : ℕ) × (p < q) × (slice_get order q ≡ Some y)

-- what is said in every state of every arrangement of the items
abbrev pub OfEveryArrangement : (List ℕ → Type 0) → (ℕ → List ℕ → List View → List Item → Type 0) → Type 0
OfEveryArrangement good Says =
    (n : ℕ) (base words : List ℕ) (views : List View) (order : List Item)
    → LocksHold n base words views → ValuesHold good n base words views → IsArrangement (items_of views) order
    → Says n base views order

-- each of its items stands at a legal place
abbrev pub ArePlaced : (List ℕ → Type 0) → ℕ → List ℕ → List View → List Item → Type 0
ArePlaced good n base views order = (p : ℕ) (x : Item) → slice_get order p ≡ Some x → IsPlaced good n base order p x

-- all of it leaves good words
abbrev pub LeavesGoodWords : (List ℕ → Type 0) → ℕ → List ℕ → List View → List Item → Type 0
LeavesGoodWords good n base views order = good (replay_items base order)

-- what an attempt has done is legal behind all of it
abbrev pub AttemptsAreLegal : ℕ → List ℕ → List View → List Item → Type 0
AttemptsAreLegal n base views order =
    (id : ℕ) (v : View) → Knows views id v → is_attempt v.phase ≡ true → IsLegalTrace v.trace (replay_items base order)

-- the memory with all unfinished writes taken back is what every arrangement leaves of the base
abbrev pub UndoingRestores : (List ℕ → Type 0) → Type 0
UndoingRestores good =
    (n : ℕ) (base words : List ℕ) (views : List View) (order : List Item)
    → LocksHold n base words views → ValuesHold good n base words views → IsArrangement (items_of views) order
    → undone_by views (memory_of n words) ≡ replay_items base order

-- what is said in every state of a view between calls that has all numbers
abbrev pub OfOneForAll : (List ℕ → Type 0) → (ℕ → List ℕ → List ℕ → View → Type 0) → Type 0
OfOneForAll good Says =
    (n : ℕ) (base words : List ℕ) (views : List View) (id : ℕ) (v : View)
    → LocksHold n base words views → ValuesHold good n base words views
    → Knows views id v → v.phase ≡ Idle → ((j : ℕ) → j < n → has j v.who ≡ true)
    → Says n base words v

-- the items of its entries agree with the versions in the table
abbrev pub AgreeWithTable : (List ℕ → Type 0) → ℕ → List ℕ → List ℕ → View → Type 0
AgreeWithTable good n base words v = AgreeWithVersions good base (version_at n words) (flat_map items_of_entry v.seen)

-- they have an arrangement
abbrev pub HasArrangement : ℕ → List ℕ → List ℕ → View → Type 0
HasArrangement n base words v = (order : List Item) × IsArrangement (flat_map items_of_entry v.seen) order

-- the memory is what each of their arrangements leaves of the base
abbrev pub MemoryIsLeft : ℕ → List ℕ → List ℕ → View → Type 0
MemoryIsLeft n base words v =
    (order : List Item) → IsArrangement (flat_map items_of_entry v.seen) order
    → (a : ℕ) → a < length base → slice_get (replay_items base order) a ≡ Some (table_value n words a)
