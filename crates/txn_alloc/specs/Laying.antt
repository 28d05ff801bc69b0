-- A laying of free blocks into their lists: the words that it writes, which blocks come into which list, and a list that rises.
use Rattle.std.specs.Prelude.{◌≡◌, ℕ, ◌+◌, ◌%◌, ◌<◌, ◌≤◌, ◌⊎◌, ◌==◌, true, if◌then◌else◌, List, [], ◌∷◌}
use Rattle.std.specs.List.{range_with_len}
use Rattle.std.specs.List.Sorted.{IsStrictlyIncreasing}
use Rattle.std.specs.Ordering.{nat_cmp}
use Rattle.std.specs.FinSet as set
use Rattle.txn_alloc.specs.declared.arena.Arena.{Arena}
use Rattle.txn_alloc.specs.declared.arena.TheConstants.{HEADS}
use Rattle.txn_alloc.specs.FreeLists.{block_at, IsHead, HasList}

-- a is one of so many words in a row
pub record IsInRow (first count a : ℕ) : Type 0 where
  pub low : first ≤ a
  pub high : a < first + count

-- all blocks of an arena, rising
abbrev pub all_blocks : Arena → List ℕ
all_blocks arena = range_with_len 0 arena.blocks

-- b is one of these blocks
abbrev pub IsAmong : List ℕ → ℕ → Type 0
IsAmong blocks b = set.contains (set.from_list {R = nat_cmp} blocks) b ≡ true

-- a is a head, or the first word of one of these blocks
abbrev pub IsWrittenByLaying : Arena → List ℕ → ℕ → Type 0
IsWrittenByLaying arena blocks a = IsHead arena a ⊎ ((b : ℕ) × IsAmong blocks b × (a ≡ block_at arena b))

-- those of the blocks that hang in list h, in their order
abbrev pub of_list : ℕ → List ℕ → List ℕ
of_list h [] = []
of_list h (b ∷ bs) = if b % HEADS == h then b ∷ of_list h bs else of_list h bs

-- each list goes through all blocks of its number, rising
abbrev pub HasAllRising : Arena → List ℕ → Type 0
HasAllRising arena words = (h : ℕ) → h < HEADS → HasList arena words (arena.heads + h) (of_list h (all_blocks arena))

-- list h goes through its blocks by rising number
pub record HasRisingList (arena : Arena) (words : List ℕ) (h : ℕ) : Type 0 where
  pub order : List ℕ
  pub list : HasList arena words (arena.heads + h) order
  pub rises : IsStrictlyIncreasing order
