-- Items of a history, the order of their uses, and the values of a word by version.
use Rattle.std.specs.Prelude.{◌≡◌, ◌↔◌, ℕ, zero, suc, ◌+◌, ◌<◌, ◌≤◌, ◌⊎◌, Bool, true, false, ◌||◌, ◌&&◌, ◌==◌, List, [], ◌∷◌, length, map, slice_get}
use Rattle.std.specs.Prelude.{slice_index, take, Option, Some, None, if◌then◌else◌}
use Rattle.history_model.specs.declared.item.Item.{Item}
use Rattle.history_model.specs.declared.item.LockUse.{LockUse}
use Rattle.history_model.specs.Traces.{after, IsLegalTrace, last_written, Writes, Touches}
use Rattle.history_model.specs.Locks.{lock_of_word}
use Rattle.history_model.specs.Legal.{IsIn}
use Rattle.history_model.specs.Histories.{Effect, replay_effects}

-- one of the uses is of lock k at version v, with a write there or with none
abbrev pub HasUse : List LockUse → ℕ → ℕ → Bool → Type 0
HasUse us k v wrote = (i : ℕ) × (slice_get us i ≡ Some (record { lock = k; version = v; wrote = wrote }))

-- the item has such a use
abbrev pub Uses : Item → ℕ → ℕ → Bool → Type 0
Uses x k v wrote = HasUse x.uses k v wrote

-- whoever has the first uses comes before whoever has the second: both use a lock, the first at a lower version,
-- or at the same one if the first only read and the second wrote
pub record UsedBefore (us vs : List LockUse) : Type 0 where
  pub lock : ℕ
  pub found : ℕ
  pub other : ℕ
  pub wrote : Bool
  pub other_wrote : Bool
  pub uses : HasUse us lock found wrote
  pub other_uses : HasUse vs lock other other_wrote
  pub earlier : (found < other) ⊎ ((found ≡ other) × (wrote ≡ false) × (other_wrote ≡ true))

-- whether one of the uses wrote lock k at version v
unfoldable pub wrote_at : ℕ → ℕ → List LockUse → Bool
wrote_at k v [] = false
wrote_at k v (u ∷ us) = (u.lock == k && u.version == v && u.wrote) || wrote_at k v us

-- the first item that wrote lock k at version v
unfoldable pub writer_at : ℕ → ℕ → List Item → Option Item
writer_at k v [] = None
writer_at k v (x ∷ xs) = if wrote_at k v x.uses then Some x else writer_at k v xs

-- the value of word a after this writer, if it was v before
abbrev pub value_left : Option Item → ℕ → ℕ → ℕ
value_left None a v = v
value_left (Some x) a v = last_written x.trace a v

-- the word a at a version of its lock
unfoldable pub value_at : List ℕ → List Item → ℕ → ℕ → ℕ
value_at base items a zero = slice_index base a
value_at base items a (suc v) = value_left (writer_at (lock_of_word a) v items) a (value_at base items a v)

-- the list has the value of each word that the item uses, at the version at which it uses its lock
abbrev pub HasValues : List ℕ → List Item → Item → List ℕ → Type 0
HasValues base items x s =
    (a v : ℕ) (wrote : Bool) → a < length base → Uses x (lock_of_word a) v wrote
    → slice_get s a ≡ Some (value_at base items a v)

-- what an item's uses say of its trace
pub record IsItem (x : Item) : Type 0 where
  pub one_each : (k v w : ℕ) (b c : Bool) → Uses x k v b → Uses x k w c → (v ≡ w) × (b ≡ c)
  pub covered : (a : ℕ) → Touches x.trace a → (v : ℕ) × (b : Bool) × Uses x (lock_of_word a) v b
  pub wrote : (k v : ℕ) (b : Bool) → Uses x k v b
      → (b ≡ true) ↔ ((x.kept ≡ true) × ((a : ℕ) × (lock_of_word a ≡ k) × Writes x.trace a))
  pub kept_entry : x.kept ≡ true → x.entry ≡ true

-- the item's trace is legal on every list that has the values that it uses
abbrev pub LegalOnValues : List ℕ → List Item → Item → Type 0
LegalOnValues base items x = (s : List ℕ) → length s ≡ length base → HasValues base items x s → IsLegalTrace x.trace s

-- a kept item leaves a good list on every good list on which its trace is legal
abbrev pub StaysGood : (List ℕ → Type 0) → List ℕ → Item → Type 0
StaysGood good base x =
    x.kept ≡ true → (s : List ℕ) → length s ≡ length base → good s → IsLegalTrace x.trace s → good (after x.trace s)

-- the base and the items agree with the versions that the locks have now, `next k` of lock k:
-- each version below was written once, and each item read the values of the versions that it used
pub record AgreeWithVersions (good : List ℕ → Type 0) (base : List ℕ) (next : ℕ → ℕ) (items : List Item) : Type 0 where
  pub base_good : good base
  pub formed : (x : Item) → IsIn x items → IsItem x
  pub below : (x : Item) (k v : ℕ) → IsIn x items → Uses x k v true → v < next k
  pub whole : (k v : ℕ) → v < next k → (x : Item) × IsIn x items × Uses x k v true
  pub once : (x y : Item) (k v : ℕ) → IsIn x items → IsIn y items → Uses x k v true → Uses y k v true → x ≡ y
  pub at_most : (x : Item) (k v : ℕ) (wrote : Bool) → IsIn x items → Uses x k v wrote → v ≤ next k
  pub legal : (x : Item) → IsIn x items → LegalOnValues base items x
  pub stays_good : (x : Item) → IsIn x items → StaysGood good base x

-- the list is of items, has every entry, none twice, and no item comes by its uses before one that stands earlier
pub record KeepsUses (items order : List Item) : Type 0 where
  pub of_items : (x : Item) → IsIn x order → IsIn x items
  pub has_entries : (x : Item) → IsIn x items → x.entry ≡ true → IsIn x order
  pub no_repeat : (i j : ℕ) (x : Item) → slice_get order i ≡ Some x → slice_get order j ≡ Some x → i ≡ j
  pub in_order : (i j : ℕ) (x y : Item) → slice_get order i ≡ Some x → slice_get order j ≡ Some y → i < j
      → UsedBefore y.uses x.uses → ⊥

-- what the item comes to for the words
abbrev pub item_effect : Item → Effect
item_effect x = record { kept = x.kept; trace = x.trace }

-- the words that the items leave, one after another, of those that they begin with
abbrev pub replay_items : List ℕ → List Item → List ℕ
replay_items base items = replay_effects base (map item_effect items)

-- each trace is legal where it stands, and leaves a good list
abbrev pub LegalOrder : (List ℕ → Type 0) → List ℕ → List Item → Type 0
LegalOrder good base order = (p : ℕ) (x : Item) → slice_get order p ≡ Some x
    → IsLegalTrace x.trace (replay_items base (take p order)) × good (replay_items base (take (p + 1) order))

-- the list has the newest value of each word
abbrev pub IsNewest : List ℕ → (ℕ → ℕ) → List Item → List ℕ → Type 0
IsNewest base next items s =
    (a : ℕ) → a < length base → slice_get s a ≡ Some (value_at base items a (next (lock_of_word a)))
