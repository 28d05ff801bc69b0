-- Cells whose keys rise: their parts, and that a key and a block stand once among them.
use Rattle.txn_tree_map.proofs.Common.{◌≡◌, ◌≢◌, ℕ, ◌<◌, ◌≤◌, List, [], ◌∷◌, ◌++◌, Some, None, ◌∙◌, arith, AllByRecursion, Arena, Cell, value_of, all_append}
use Rattle.txn_tree_map.proofs.Common.{all_first, all_last, all_map, times_in, IsAbove, IsRising, IsBelow}
use Rattle.txn_alloc.specs.EntryMaps.{HasKeysOnce}
use Rattle.txn_alloc.proofs.Maps.Cells.{value_none, value_past, value_first}
use Rattle.txn_alloc.proofs.Maps.Counting.{AreKeyed, keyed_once}

pub above_more : (j k : ℕ) (cs : List Cell) → j ≤ k → IsAbove k cs → IsAbove j cs
above_more j k cs le h = all_map (λ c. k < c.key) (λ c. j < c.key) cs (λ c m. omega arith) h

pub below_more : (j k : ℕ) (cs : List Cell) → j ≤ k → IsBelow j cs → IsBelow k cs
below_more j k cs le h = all_map (λ c. c.key < j) (λ c. c.key < k) cs (λ c m. omega arith) h

pub above_other : (k : ℕ) (cs : List Cell) → IsAbove k cs → AllByRecursion (λ c. c.key ≢ k) cs
above_other k cs h = all_map (λ c. k < c.key) (λ c. c.key ≢ k) cs (λ c m e. omega arith) h

pub below_other : (k : ℕ) (cs : List Cell) → IsBelow k cs → AllByRecursion (λ c. c.key ≢ k) cs
below_other k cs h = all_map (λ c. c.key < k) (λ c. c.key ≢ k) cs (λ c m e. omega arith) h

-- parts of rising cells
pub rising_last : (xs ys : List Cell) → IsRising (xs ++ ys) → IsRising ys
rising_last [] ys h = h
rising_last (x ∷ xs) ys h = rising_last xs ys h.1

pub rising_first : (xs ys : List Cell) → IsRising (xs ++ ys) → IsRising xs
rising_first [] ys h = tt
rising_first (x ∷ xs) ys h = (all_first (λ d. x.key < d.key) xs ys h.0, rising_first xs ys h.1)

pub rising_below : (xs ys : List Cell) (c : Cell) → IsRising (xs ++ c ∷ ys) → IsBelow c.key xs
rising_below [] ys c h = tt
rising_below (x ∷ xs) ys c h = ((all_last (λ d. x.key < d.key) xs (c ∷ ys) h.0).0, rising_below xs ys c h.1)

pub rising_above : (xs ys : List Cell) (c : Cell) → IsRising (xs ++ c ∷ ys) → IsAbove c.key ys
rising_above xs ys c h = (rising_last xs (c ∷ ys) h).0

-- a cell more, in its place
pub rising_put : (xs ys : List Cell) (c : Cell) → IsRising (xs ++ ys) → IsBelow c.key xs → IsAbove c.key ys → IsRising (xs ++ c ∷ ys)
rising_put [] ys c h below above = (above, h)
rising_put (x ∷ xs) ys c h below above = (
  all_append (λ d. x.key < d.key) xs (c ∷ ys) (all_first (λ d. x.key < d.key) xs ys h.0) (below.0, above_more x.key c.key ys (omega (arith, below.0)) above),
  rising_put xs ys c h.1 below.1 above,
)

-- some cells less
pub rising_cut : (xs ys zs : List Cell) → IsRising (xs ++ (ys ++ zs)) → IsRising (xs ++ zs)
rising_cut [] ys zs h = rising_last ys zs h
rising_cut (x ∷ xs) ys zs h = (
  all_append (λ d. x.key < d.key) xs zs (all_first (λ d. x.key < d.key) xs (ys ++ zs) h.0)
      (all_last (λ d. x.key < d.key) ys zs (all_last (λ d. x.key < d.key) xs (ys ++ zs) h.0)),
  rising_cut xs ys zs h.1,
)

-- what rising cells say of the key of one of them
pub value_there : (key : ℕ) (xs ys : List Cell) (c : Cell) → c.key ≡ key → IsBelow key xs → value_of key (xs ++ c ∷ ys) ≡ Some c.value
value_there key xs ys c e below = value_past key xs (c ∷ ys) (value_none key xs (below_other key xs below)) ∙ value_first key c ys e

-- what cells say of a key between them
pub value_between : (key : ℕ) (xs ys : List Cell) → IsBelow key xs → IsAbove key ys → value_of key (xs ++ ys) ≡ None
value_between key xs ys below above = value_none key (xs ++ ys) (all_append (λ c. c.key ≢ key) xs ys (below_other key xs below) (above_other key ys above))

-- keys that rise stand once
pub rising_keys : (cs : List Cell) → IsRising cs → HasKeysOnce cs
rising_keys [] h = tt
rising_keys (c ∷ cs) h = (value_none c.key cs (above_other c.key cs h.0), rising_keys cs h.1)

-- and so do their blocks
pub rising_once : (arena : Arena) (s : List ℕ) (b : ℕ) (cs : List Cell) → AreKeyed arena s cs → IsRising cs → times_in b cs ≤ 1
rising_once arena s b cs keys rising = keyed_once arena s b cs keys (rising_keys cs rising)
