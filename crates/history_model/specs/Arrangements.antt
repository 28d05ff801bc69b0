-- Arrangements of the items: by their uses, by the attempts of a call, and by what passes had seen.
use Rattle.std.specs.Prelude.{◌≡◌, ◌↔◌, ℕ, suc, ◌<◌, ◌≤◌, ◌⊎◌, Bool, true, List, [], ◌∷◌, slice_get, slice_index, Some, if◌then◌else◌}
use Rattle.history_model.specs.declared.item.Item.{Item}
use Rattle.history_model.specs.Traces.{last_written}
use Rattle.history_model.specs.Items.{Uses, UsedBefore, IsItem, LegalOnValues, StaysGood, value_at}
use Rattle.history_model.specs.Locks.{lock_of_word}
use Rattle.history_model.specs.Legal.{IsIn}

-- x is an earlier item of the call of y
abbrev pub IsEarlierAttempt : Item → Item → Type 0
IsEarlierAttempt x y = (x.who ≡ y.who) × (x.call ≡ y.call) × (x.turn < y.turn)

-- x is an entry that the pass of y had seen when the call of y began
abbrev pub WasSeenBefore : Item → Item → Type 0
WasSeenBefore x y = (x.entry ≡ true) × (x.call ≤ slice_index y.knew x.who)

-- x has to stand before y
abbrev pub ComesBefore : Item → Item → Type 0
ComesBefore x y = UsedBefore x.uses y.uses ⊎ (IsEarlierAttempt x y ⊎ WasSeenBefore x y)

-- each item once, and none comes before one that stands earlier
pub record IsArrangement (items order : List Item) : Type 0 where
  pub same : (x : Item) → IsIn x order ↔ IsIn x items
  pub no_repeat : (i j : ℕ) (x : Item) → slice_get order i ≡ Some x → slice_get order j ≡ Some x → i ≡ j
  pub in_order : (i j : ℕ) (x y : Item) → slice_get order i ≡ Some x → slice_get order j ≡ Some y → i < j
      → ComesBefore y x → ⊥

-- x comes before none of the items: its versions are current, it is the newest of its call, and no pass had seen it
pub record ComesLast (next : ℕ → ℕ) (items : List Item) (x : Item) : Type 0 where
  pub current : (k v : ℕ) (b : Bool) → Uses x k v b → v ≡ next k
  pub newest : (y : Item) → IsIn y items → y.who ≡ x.who → y.call ≡ x.call → y.turn < x.turn
  pub unseen : (y : Item) → IsIn y items → x.entry ≡ true → slice_index y.knew x.who < x.call

-- x may be put at the end
pub record MayStandLast (good : List ℕ → Type 0) (base : List ℕ) (next : ℕ → ℕ) (items : List Item)
    (x : Item) : Type 0 where
  pub formed : IsItem x
  pub last : ComesLast next items x
  pub legal : LegalOnValues base items x
  pub stays_good : StaysGood good base x

-- `more` has the items and x
abbrev pub Adds : Item → List Item → List Item → Type 0
Adds x items more = (z : Item) → IsIn z more ↔ (IsIn z items ⊎ (z ≡ x))

-- each lock that x wrote has its next version then, and the others stay
abbrev pub RaisesVersions : Item → (ℕ → ℕ) → (ℕ → ℕ) → Type 0
RaisesVersions x next raised = (k : ℕ)
    → (((v : ℕ) × Uses x k v true) × (raised k ≡ suc (next k)))
    ⊎ (((v : ℕ) → Uses x k v true → ⊥) × (raised k ≡ next k))

-- then the newest value of each word is what x wrote there, or the newest before x
abbrev pub WritesNewest : List ℕ → Item → (ℕ → ℕ) → (ℕ → ℕ) → List Item → List Item → Type 0
WritesNewest base x next raised items more = (a : ℕ) → value_at base more a (raised (lock_of_word a))
    ≡ (if x.kept then last_written x.trace a (value_at base items a (next (lock_of_word a)))
    else value_at base items a (next (lock_of_word a)))

-- the values up to the present version stay
abbrev pub KeepsValues : List ℕ → (ℕ → ℕ) → List Item → List Item → Type 0
KeepsValues base next items more =
    (a v : ℕ) → v ≤ next (lock_of_word a) → value_at base more a v ≡ value_at base items a v

-- `less` has the items that pass the test
abbrev pub Drops : (Item → Bool) → List Item → List Item → Type 0
Drops keep items less = (z : Item) → IsIn z less ↔ (IsIn z items × (keep z ≡ true))

-- the items that pass the test, in their order
unfoldable pub passing : (Item → Bool) → List Item → List Item
passing keep [] = []
passing keep (x ∷ xs) = if keep x then x ∷ passing keep xs else passing keep xs
