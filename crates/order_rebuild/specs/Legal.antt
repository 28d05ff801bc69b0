-- The entries of a history in the order of their calls.
use Rattle.std.specs.Prelude.{◌≡◌, ◌↔◌, ℕ, Bool, true, List, slice_get, slice_index_or, map, length, Some, ◌<◌}
use Rattle.history_model.specs.declared.item.Item.{Item}
use Rattle.history_model.specs.declared.item.LockUse.{LockUse}
use Rattle.history_model.specs.Items.{HasUse, AgreeWithVersions, LegalOrder, IsNewest, replay_items}
use Rattle.history_model.specs.Legal.{IsIn}
use Rattle.history_model.specs.Arrangements.{IsArrangement, WasSeenBefore}
use Rattle.history_model.specs.declared.placed.Spot.{Spot}
use Rattle.order_rebuild.specs.Order.{IsOrder, Orderable}

-- the same uses, in any order
abbrev pub SameUses : List LockUse → List LockUse → Type 0
SameUses us vs = (k v : ℕ) (wrote : Bool) → HasUse us k v wrote ↔ HasUse vs k v wrote

-- each call beside its entry, and every entry beside one call
pub record AreEntries (list : List Spot) (items entries : List Item) : Type 0 where
  pub count : length entries ≡ length list
  pub is_entry : (p : ℕ) (x : Item) → slice_get entries p ≡ Some x → IsIn x items
  pub all : (x : Item) → IsIn x items → x.entry ≡ true → IsIn x entries
  pub apart : (p q : ℕ) (x : Item) → slice_get entries p ≡ Some x → slice_get entries q ≡ Some x → p ≡ q
  pub uses : (p : ℕ) (s : Spot) (x : Item) → slice_get list p ≡ Some s → slice_get entries p ≡ Some x
      → SameUses x.uses s.uses

-- the entries at the places, in their order
abbrev pub entries_at : Item → List Item → List ℕ → List Item
entries_at d entries out = map (λ p. slice_index_or entries p d) out

abbrev pub OrderIsLegal : (List ℕ → Type 0) → Type 0
OrderIsLegal good =
    (base : List ℕ) (next : ℕ → ℕ) (items entries : List Item) (list : List Spot) (out : List ℕ) (d : Item)
    → AgreeWithVersions good base next items → AreEntries list items entries → IsOrder list out
    → LegalOrder good base (entries_at d entries out)
    × IsNewest base next items (replay_items base (entries_at d entries out))

-- calls whose entries have an arrangement can be put in order, if each call's pass had seen its caller's earlier calls
abbrev pub ArrangedIsOrderable : Type 0
ArrangedIsOrderable =
    (items entries order : List Item) (list : List Spot) → IsArrangement items order → AreEntries list items entries
    → ((p q : ℕ) (x y : Spot) → slice_get list p ≡ Some x → slice_get list q ≡ Some y → x.caller ≡ y.caller
    → x.index ≡ y.index → p ≡ q)
    → ((p q : ℕ) (x y : Spot) (i j : Item) → slice_get list p ≡ Some x → slice_get list q ≡ Some y
    → slice_get entries p ≡ Some i → slice_get entries q ≡ Some j → x.caller ≡ y.caller → x.index < y.index
    → WasSeenBefore i j)
    → Orderable list
