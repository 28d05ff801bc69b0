-- What the laws of free blocks say.
use Rattle.std.specs.Prelude.{◌≡◌, ◌≢◌, ℕ, ◌<◌, ◌≤◌, true, false, List, [], ◌∷◌, Option, length, slice_get, sum_by, count_by}
use Rattle.std.specs.Ordering.{nat_cmp}
use Rattle.std.specs.FinSet as set
use Rattle.txn_alloc.specs.declared.arena.Arena.{Arena}
use Rattle.txn_alloc.specs.FreeLists.{IsHead, IsInBlock, FreeListsHold, IsInOrder, Lacks, Takes, Gives}
use Rattle.txn_alloc.specs.Blocks.{times_among}

-- in one word list the free blocks are one set
abbrev pub OneFreeSet : Type 0
OneFreeSet =
    (arena : Arena) (words : List ℕ) (free other : set.FinSet nat_cmp)
    → FreeListsHold arena words free → FreeListsHold arena words other → free ≡ other

-- lists of as many words, with the same heads and the same words in the free blocks, have the same free blocks
abbrev pub FreeListsStand : Type 0
FreeListsStand =
    (arena : Arena) (old new : List ℕ) (free : set.FinSet nat_cmp)
    → FreeListsHold arena old free
    → length new ≡ length old
    → ((a : ℕ) → IsHead arena a → slice_get new a ≡ slice_get old a)
    → ((b a : ℕ) → set.contains free b ≡ true → IsInBlock arena b a → slice_get new a ≡ slice_get old a)
    → FreeListsHold arena new free

-- what is in no list is in none after a block was taken, or none
abbrev pub LacksTaken : Type 0
LacksTaken =
    (arena : Arena) (block : Option ℕ) (c : ℕ) (old new : List ℕ)
    → IsInOrder arena old → Takes arena block old new → Lacks arena c old → Lacks arena c new

-- what is in no list is in none after another block was given back
abbrev pub LacksGiven : Type 0
LacksGiven =
    (arena : Arena) (b c : ℕ) (old new : List ℕ)
    → IsInOrder arena old → Gives arena b old new → c ≢ b → Lacks arena c old → Lacks arena c new

-- sets of blocks below a number, of which each block below it is in exactly one, have lengths that sum to the number
abbrev pub LengthsSum : Type 0
LengthsSum =
    (n : ℕ) (sets : List (set.FinSet nat_cmp))
    → ((b : ℕ) → b < n → count_by (λ s. set.contains s b) sets ≡ 1)
    → ((b : ℕ) → n ≤ b → count_by (λ s. set.contains s b) sets ≡ 0)
    → sum_by (λ s. set.len s) sets ≡ n

-- a block that goes from one set to another is in as many of the two as before, and so is every other
abbrev pub MovedBlock : Type 0
MovedBlock = (used free : set.FinSet nat_cmp) (c : ℕ) → set.contains used c ≡ false → set.contains free c ≡ true → (b : ℕ)
    → times_among b (set.insert used c ∷ set.remove free c ∷ []) ≡ times_among b (used ∷ free ∷ [])
