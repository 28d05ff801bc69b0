-- The free blocks of an arena, as a set, and the lists that hold them.
-- A word that names a block holds its number plus 1; 0 names none. Only `HasList`, `FreeListsHold` and `IsHeadFor` know
-- how the lists go; all else speaks of the set.
use Rattle.std.specs.Prelude.{◌≡◌, ℕ, ◌+◌, ◌-◌, ◌*◌, ◌%◌, ◌^◌, ◌<◌, ◌≤◌, ◌⊎◌, true, false, List, [], ◌∷◌, Option, Some, None, length, slice_get, nat_eq}
use Rattle.std.specs.List.{IsDistinct}
use Rattle.std.specs.Ordering.{nat_cmp}
use Rattle.std.specs.FinSet as set
use Rattle.txn_alloc.specs.declared.arena.Arena.{Arena}
use Rattle.txn_alloc.specs.declared.arena.TheConstants.{HEADS}

-- the first word of block b
abbrev pub block_at : Arena → ℕ → ℕ
block_at arena b = arena.first + 4 * b

-- a is the head of a list of free blocks
pub record IsHead (arena : Arena) (a : ℕ) : Type 0 where
  pub low : arena.heads ≤ a
  pub high : a < arena.heads + HEADS

-- a is one of the four words of block b
pub record IsInBlock (arena : Arena) (b a : ℕ) : Type 0 where
  pub low : block_at arena b ≤ a
  pub high : a < block_at arena b + 4

-- the head of the list of a number: blocks hang by their numbers, modulo the number of lists
abbrev pub head_of : Arena → ℕ → ℕ
head_of arena number = arena.heads + number % HEADS

-- a is the head of the list that block b hangs in while it is free
abbrev pub IsHeadFor : Arena → ℕ → ℕ → Type 0
IsHeadFor arena b a = a ≡ head_of arena b

-- a is the head for block b, or the block's first word, which names the next block while it is free
abbrev pub IsHeadOrFirst : Arena → ℕ → ℕ → Type 0
IsHeadOrFirst arena b a = IsHeadFor arena b a ⊎ (a ≡ block_at arena b)

-- how many lists further than that of a number the list of block b stands, if the first follows the last
abbrev pub steps_to : ℕ → ℕ → ℕ
steps_to near b = (b + HEADS - near % HEADS) % HEADS

-- a is one of the heads from that of a number round to that of block b
abbrev pub IsHeadTo : Arena → ℕ → ℕ → ℕ → Type 0
IsHeadTo arena near b a = (i : ℕ) × (i ≤ steps_to near b) × (a ≡ head_of arena (near + i))

-- block b stands at the head of its list, and the lists from that of a number up to it are empty
pub record IsNearest (arena : Arena) (near b : ℕ) (words : List ℕ) : Type 0 where
  pub there : slice_get words (head_of arena b) ≡ Some (b + 1)
  pub empty : (i : ℕ) → i < steps_to near b → slice_get words (head_of arena (near + i)) ≡ Some 0

-- the word that a take may write, by the block that it takes
abbrev pub IsWrittenByTake : Arena → Option ℕ → ℕ → Type 0
IsWrittenByTake arena None a = ⊥
IsWrittenByTake arena (Some b) a = IsHeadFor arena b a

-- the words that a take near a number may read: if it takes none, the heads, and else the heads round to the block's own,
-- and the block's first word
abbrev pub IsReadByTake : Arena → ℕ → Option ℕ → ℕ → Type 0
IsReadByTake arena near None a = IsHead arena a
IsReadByTake arena near (Some b) a = IsHeadTo arena near b a ⊎ (a ≡ block_at arena b)

-- all four words of each block, and the heads, are words of the list, and no head is in a block; a place has 64 bits
pub record IsLaidOut (arena : Arena) (words : List ℕ) : Type 0 where
  pub places : length words ≤ 2 ^ 64
  pub blocks : (b : ℕ) → b < arena.blocks → block_at arena b + 4 ≤ length words
  pub heads : arena.heads + HEADS ≤ length words
  pub outside : (b a : ℕ) → b < arena.blocks → IsInBlock arena b a → ¬ IsHead arena a

-- the list whose head is the word at this place goes through these blocks, each of whose first words heads the rest
abbrev pub HasList : Arena → List ℕ → ℕ → List ℕ → Type 0
HasList arena words place [] = slice_get words place ≡ Some 0
HasList arena words place (b ∷ bs) =
    (slice_get words place ≡ Some (b + 1)) × (b < arena.blocks) × HasList arena words (block_at arena b) bs

-- list h goes through blocks whose number is h modulo the number of lists, each once, and of those through all that are free
pub record FreeListHolds (arena : Arena) (words : List ℕ) (free : set.FinSet nat_cmp) (h : ℕ) : Type 0 where
  pub order : List ℕ
  pub list : HasList arena words (arena.heads + h) order
  pub once : IsDistinct nat_eq order
  pub own : (b : ℕ) → set.contains (set.from_list {R = nat_cmp} order) b ≡ true → b % HEADS ≡ h
  pub all : (b : ℕ) → b % HEADS ≡ h → set.contains free b ≡ set.contains (set.from_list {R = nat_cmp} order) b

-- exactly these blocks are free: each stands in the list of its number
pub record FreeListsHold (arena : Arena) (words : List ℕ) (free : set.FinSet nat_cmp) : Type 0 where
  pub laid_out : IsLaidOut arena words
  pub lists : (h : ℕ) → h < HEADS → FreeListHolds arena words free h

-- the free lists hold some set of blocks
abbrev pub IsInOrder : Arena → List ℕ → Type 0
IsInOrder arena words = (free : set.FinSet nat_cmp) × FreeListsHold arena words free

-- no block is free
abbrev pub HasNone : Arena → List ℕ → Type 0
HasNone arena words = FreeListsHold arena words set.empty

-- block b is in no list
abbrev pub Lacks : Arena → ℕ → List ℕ → Type 0
Lacks arena b words = (free : set.FinSet nat_cmp) → FreeListsHold arena words free → set.contains free b ≡ false

-- block b was free, and is free no more; the others are as they were
pub record TakesBlock (arena : Arena) (b : ℕ) (old new : List ℕ) (free : set.FinSet nat_cmp) : Type 0 where
  pub was_free : set.contains free b ≡ true
  pub left : FreeListsHold arena new (set.remove free b)

-- from state to state: a block is taken, or none, and then nothing changes
abbrev pub Takes : Arena → Option ℕ → List ℕ → List ℕ → Type 0
Takes arena None old new = new ≡ old
Takes arena (Some b) old new =
    (free : set.FinSet nat_cmp) → FreeListsHold arena old free → TakesBlock arena b old new free

-- from state to state: block b is free too
abbrev pub Gives : Arena → ℕ → List ℕ → List ℕ → Type 0
Gives arena b old new =
    (free : set.FinSet nat_cmp) → FreeListsHold arena old free → FreeListsHold arena new (set.insert free b)
