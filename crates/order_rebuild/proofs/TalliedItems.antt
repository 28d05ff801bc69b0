-- Versions followed and readers tallied: what of each lock's uses is placed, and what that says of a list once all are.
use Rattle.order_rebuild.proofs.Common.{if◌then◌else◌, flag, LockUse, Spot, IsRising, is_at}
use Rattle.std.specs.Prelude.{◌≡◌, ℕ, ◌+◌, ◌*◌, ◌<◌, ◌≤◌, Bool, true, false, List, [], ◌∷◌, slice_get, Some}
use Rattle.order_rebuild.proofs.UseCounts.{count_uses, count_all}

-- it is a use of lock k at this version that only read
abbrev pub is_reader : ℕ → ℕ → LockUse → Bool
is_reader k version u = is_at k (version * 2) u

-- how many uses of this kind the items have that are placed
unfoldable pub placed_of : (LockUse → Bool) → List Spot → List Bool → ℕ
placed_of f [] left = 0
placed_of f (s ∷ list) [] = 0
placed_of f (s ∷ list) (b ∷ left) = (if b then 0 else count_uses f s.uses) + placed_of f list left

-- an item that is placed wrote lock k at this version
pub record IsWritten (list : List Spot) (left : List Bool) (k version : ℕ) : Type 0 where
  pub p : ℕ
  pub j : ℕ
  pub s : Spot
  pub u : LockUse
  pub at : slice_get list p ≡ Some s
  pub use_at : slice_get s.uses j ≡ Some u
  pub mark : slice_get left p ≡ Some false
  pub lock : u.lock ≡ k
  pub found : u.version ≡ version
  pub wrote : u.wrote ≡ true

-- two uses that wrote a lock at one version are of one item
abbrev pub IsOnce : List Spot → (ℕ → Type 0) → Type 0
IsOnce list of = (p q i j : ℕ) (x y : Spot) (u w : LockUse) → of p → of q → slice_get list p ≡ Some x → slice_get list q ≡ Some y
    → slice_get x.uses i ≡ Some u → slice_get y.uses j ≡ Some w → u.wrote ≡ true → w.wrote ≡ true
    → u.lock ≡ w.lock → u.version ≡ w.version → p ≡ q

-- what is placed, by each lock's version and how many of its readers are left; `rows` says how many there are, and
-- nothing is known of it but that it agrees with what is placed
pub record AreTallied (list : List Spot) (left : List Bool) (rows : ℕ → ℕ → ℕ) (version readers : ℕ → ℕ) : Type 0 where
  pub rising : (p : ℕ) (s : Spot) → slice_get list p ≡ Some s → slice_get left p ≡ Some false → IsRising s.uses
  pub passed : (p j : ℕ) (s : Spot) (u : LockUse) → slice_get list p ≡ Some s → slice_get s.uses j ≡ Some u
      → slice_get left p ≡ Some false → u.version + flag u.wrote ≤ version u.lock
  pub written : (k w : ℕ) → w < version k → IsWritten list left k w
  pub once : IsOnce list (λ p. slice_get left p ≡ Some false)
  pub spent : (k w : ℕ) → w < version k → rows k w ≡ placed_of (is_reader k w) list left
  pub now : (k : ℕ) → rows k (version k) ≡ readers k + placed_of (is_reader k (version k)) list left

-- each version below a use's was written by one item, and of each version that was written the rows have its readers
pub record IsTallied (list : List Spot) (rows : ℕ → ℕ → ℕ) : Type 0 where
  pub rising : (p : ℕ) (s : Spot) → slice_get list p ≡ Some s → IsRising s.uses
  pub once : IsOnce list (λ p. (s : Spot) × (slice_get list p ≡ Some s))
  pub whole : (p j w : ℕ) (s : Spot) (u : LockUse) → slice_get list p ≡ Some s → slice_get s.uses j ≡ Some u → w < u.version
      → (q : ℕ) × (i : ℕ) × (y : Spot) × (v : LockUse) × (slice_get list q ≡ Some y) × (slice_get y.uses i ≡ Some v)
      × (v.lock ≡ u.lock) × (v.version ≡ w) × (v.wrote ≡ true)
  pub counts : (p j : ℕ) (s : Spot) (u : LockUse) → slice_get list p ≡ Some s → slice_get s.uses j ≡ Some u → u.wrote ≡ true
      → rows u.lock u.version ≡ count_all (is_reader u.lock u.version) list
