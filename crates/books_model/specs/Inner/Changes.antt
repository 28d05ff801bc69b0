-- Changes of a map, gathered beside it, and how they are put into it.
use Rattle.std.specs.Prelude.{◌≡◌, ℕ, ◌≤◌, ◌+◌, ◌++◌, List, [], ◌∷◌, drop, length, Option, Some, None, IsSome, is_some, unwrap_or, if◌then◌else◌, nat_le, ◌&&◌}
use Rattle.std.specs.Prelude.{sum_by}
use Rattle.std.specs.declared.cmp.Ordering.{Ordering}
use Rattle.std.specs.Map.{lookup}
use Rattle.std.specs.BTreeMap.{is_at, IsOrdered}
use Rattle.std.specs.Ordering.{nat_cmp}
use Rattle.std.specs.FinMap as map
use Rattle.books_model.specs.declared.overlay.Change.{Change}
use Rattle.books_model.specs.declared.overlay.Changes.{Changes}
use Rattle.books_model.specs.Books.{ClearingBooks}

-- a map with a value at a key, or with none there
abbrev pub set_at : {K X : Type 0} {R : K → K → Ordering} → map.FinMap R X → K → Option X → map.FinMap R X
set_at m k None = map.remove m k
set_at m k (Some v) = map.insert m k v

-- a map with changes put in, the first entry's last
abbrev pub changed : {K : Type 0} {R : K → K → Ordering} → map.FinMap R ℕ → List (K × Change) → map.FinMap R ℕ
changed m [] = m
changed m (e ∷ es) = set_at (changed m es) e.0 e.1.now

-- what is changed at a key
abbrev pub change_at : {K : Type 0} → (K → K → Ordering) → List (K × Change) → K → Option Change
change_at R es k = lookup (is_at (R k)) es

-- the value that a change gives a key that had none
abbrev pub new_value : Change → Option ℕ
new_value change = if is_some change.before then None else change.now

-- each change knows what its key had before
abbrev pub KnowBefore : {K : Type 0} {R : K → K → Ordering} → map.FinMap R ℕ → List (K × Change) → Type 0
KnowBefore {K} {R} m es = (k : K) (change : Change) → change_at R es k ≡ Some change → change.before ≡ map.get m k

-- each key that changes give a value is a key of the map, so that putting them in takes no memory
abbrev pub HasRoomFor : {K : Type 0} {R : K → K → Ordering} → map.FinMap R ℕ → List (K × Change) → Type 0
HasRoomFor {K} {R} m es =
    (k : K) (change : Change) → change_at R es k ≡ Some change → IsSome change.now → IsSome (map.get m k)

-- a map in which room was made: what the map had before stands, and only keys of changes are new
pub record IsRoomier {K : Type 0} {R : K → K → Ordering} (es : List (K × Change)) (before after : map.FinMap R ℕ)
    : Type 0 where
  pub kept : (k : K) → IsSome (map.get before k) → map.get after k ≡ map.get before k
  pub others : (k : K) → change_at R es k ≡ None → map.get after k ≡ map.get before k

-- what the accounts from one number to another had before changes, as far as they are changed
abbrev pub before_between : List (ℕ × Change) → ℕ → ℕ → ℕ
before_between es a b = sum_by (λ e. if nat_le a e.0 && nat_le e.0 b then unwrap_or e.1.before 0 else 0) es

-- what they have after the changes
abbrev pub now_between : List (ℕ × Change) → ℕ → ℕ → ℕ
now_between es a b = sum_by (λ e. if nat_le a e.0 && nat_le e.0 b then unwrap_or e.1.now 0 else 0) es

-- books with the changes of a script put in
abbrev pub changed_books : ClearingBooks → Changes → ClearingBooks
changed_books books c = record books {
  accounts = changed books.accounts c.accounts.entries;
  positions = changed books.positions c.positions.entries;
  prices = changed books.prices c.prices.entries;
  calls = drop c.taken (books.calls ++ c.added.items);
}

-- changes that were gathered for these books
pub record AreChangesOf (books : ClearingBooks) (c : Changes) : Type 0 where
  pub ordered : IsOrdered nat_cmp c.accounts
  pub accounts : KnowBefore books.accounts c.accounts.entries
  pub positions : KnowBefore books.positions c.positions.entries
  pub prices : KnowBefore books.prices c.prices.entries
  pub taken : c.taken ≤ length books.calls + length c.added.items

-- changes that are the same
pub record IsCopyOf (c copy : Changes) : Type 0 where
  pub accounts : copy.accounts.entries ≡ c.accounts.entries
  pub positions : copy.positions.entries ≡ c.positions.entries
  pub prices : copy.prices.entries ≡ c.prices.entries
  pub taken : copy.taken ≡ c.taken
  pub added : copy.added.items ≡ c.added.items
