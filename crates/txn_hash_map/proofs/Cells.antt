-- Chains of cells in one word list.
use Rattle.txn_hash_map.proofs.Common.{◌≡◌, ◌≢◌, ℕ, ◌+◌, ◌*◌, ◌/◌, ◌^◌, ◌<◌, ◌≤◌, ◌⊎◌, inl, inr, true, false, List, [], ◌∷◌, ◌++◌, length, slice_get, Some}
use Rattle.txn_hash_map.proofs.Common.{None, refl, sym, ap, ◌∙◌, subst, arith, rules, true≢false, dite, ℕ_discrete, AllByRecursion, same_Some, Arena, block_at}
use Rattle.txn_hash_map.proofs.Common.{value_first, value_later, has_first, has_later, AreKeyed, keyed_once, BUCKETS, Cell, value_of, has_block, HasKeysOnce}
use Rattle.txn_hash_map.proofs.Common.{HasChain, HasKeysIn, place_after}
use Rattle.std.proofs.Common.{◌%◌}
use Rattle.txn_alloc.proofs.Maps.Cells.{has_not, one_here}
use Rattle.txn_alloc.proofs.Maps.Counting.{length_below}
use Rattle.txn_alloc.specs.declared.spread.TheConstants.{MULTIPLIER}
use Rattle.txn_hash_map.specs.Chains.{bucket_of}
use Rattle.std.proofs.lemmas.Nat.{shr_below}

top_below : (x : ℕ) → x % 2 ^ 64 / 2 ^ 56 < 256
top_below x = let low : x % 2 ^ 64 < 2 ^ (8 + 56) = omega arith in shr_below (x % 2 ^ 64) 8 56 low

-- there are 256 buckets
pub bucket_below : (key : ℕ) → bucket_of key < BUCKETS
unfolding bucket_of
bucket_below key = top_below (key * MULTIPLIER)

same_cell : (c d : Cell) → c.block ≡ d.block → c.key ≡ d.key → c.value ≡ d.value → c ≡ d
same_cell c d p q r = λ i. record { block = p i; key = q i; value = r i }

-- a place heads one chain
pub one_chain : (arena : Arena) (s : List ℕ) (p q : ℕ) (cs ds : List Cell) → slice_get s p ≡ slice_get s q
    → HasChain arena s p cs → HasChain arena s q ds → cs ≡ ds
one_chain arena s p q [] [] e h k = refl
one_chain arena s p q [] (d ∷ ds) e h k = let z : 0 ≡ d.block + 1 = same_Some 0 (d.block + 1) (sym h ∙ e ∙ k.0) in absurd (omega arith)
one_chain arena s p q (c ∷ cs) [] e h k = let z : 0 ≡ c.block + 1 = same_Some 0 (c.block + 1) (sym k ∙ sym e ∙ h.0) in absurd (omega arith)
one_chain arena s p q (c ∷ cs) (d ∷ ds) e h k =
    let z : c.block + 1 ≡ d.block + 1 = same_Some (c.block + 1) (d.block + 1) (sym h.0 ∙ e ∙ k.0) in
    let same : c.block ≡ d.block = omega arith in
    let at : (j : ℕ) → slice_get s (block_at arena c.block + j) ≡ slice_get s (block_at arena d.block + j) =
    λ j. ap (λ b. slice_get s (block_at arena b + j)) same in
    let keys : c.key ≡ d.key = same_Some c.key d.key (sym h.2 ∙ ap (λ b. slice_get s (block_at arena b)) same ∙ k.2) in
    let values : c.value ≡ d.value = same_Some c.value d.value (sym h.3 ∙ at 1 ∙ k.3) in
    ap (λ x. x ∷ cs) (same_cell c d same keys values)
    ∙ ap (λ xs. d ∷ xs) (one_chain arena s (block_at arena c.block + 2) (block_at arena d.block + 2) cs ds (at 2) h.4 k.4)

-- a chain from a place on
pub chain_rest : (arena : Arena) (s : List ℕ) (p : ℕ) (front rest : List Cell) → HasChain arena s p (front ++ rest)
    → HasChain arena s (place_after arena p front) rest
chain_rest arena s p [] rest h = h
chain_rest arena s p (c ∷ front) rest h = chain_rest arena s (block_at arena c.block + 2) front rest h.4

pub place_after_more : (arena : Arena) (p : ℕ) (front : List Cell) (c : Cell) → place_after arena p (front ++ c ∷ []) ≡ block_at arena c.block + 2
place_after_more arena p [] c = refl
place_after_more arena p (d ∷ front) c = place_after_more arena (block_at arena d.block + 2) front c

-- the first word of a block of a chain is a key that its cells have
pub block_key : (arena : Arena) (s : List ℕ) (p b k : ℕ) (cs : List Cell) → HasChain arena s p cs
    → has_block b cs ≡ true → slice_get s (block_at arena b) ≡ Some k → value_of k cs ≢ None
block_key arena s p b k [] h m e = absurd (true≢false (sym m))
block_key arena s p b k (c ∷ cs) h m e = dite (ℕ_discrete c.block b)
    (λ same.
    let is_key : c.key ≡ k = same_Some c.key k (sym h.2 ∙ ap (λ d. slice_get s (block_at arena d)) same ∙ e) in
    λ none. absurd (cc (value_first k c cs is_key)))
    (λ other.
    let there : has_block b cs ≡ true = grind rules in
    let rest : value_of k cs ≢ None = block_key arena s (block_at arena c.block + 2) b k cs h.4 there e in
    λ none. dite (ℕ_discrete c.key k) (λ is_key. absurd (cc (value_first k c cs is_key))) (λ is_other. rest (sym (value_later k c cs is_other) ∙ none)))

-- a chain's blocks are the arena's
pub block_below : (arena : Arena) (s : List ℕ) (p b : ℕ) (cs : List Cell) → HasChain arena s p cs → has_block b cs ≡ true → b < arena.blocks
block_below arena s p b [] h m = absurd (true≢false (sym m))
block_below arena s p b (c ∷ cs) h m = dite (ℕ_discrete c.block b)
    (λ same. subst (λ (d : ℕ). d < arena.blocks) same h.1)
    (λ other. block_below arena s (block_at arena c.block + 2) b cs h.4 (let there : has_block b cs ≡ true = grind rules in there))

-- and each of its cells is in one of them
chain_blocks : (arena : Arena) (s : List ℕ) (p : ℕ) (cs : List Cell) → HasChain arena s p cs → AllByRecursion (λ c. c.block < arena.blocks) cs
chain_blocks arena s p [] h = tt
chain_blocks arena s p (c ∷ cs) h = (h.1, chain_blocks arena s (block_at arena c.block + 2) cs h.4)

-- each cell of a chain has its key in its block
pub chain_keyed : (arena : Arena) (s : List ℕ) (p : ℕ) (cs : List Cell) → HasChain arena s p cs → AreKeyed arena s cs
chain_keyed arena s p [] h = tt
chain_keyed arena s p (c ∷ cs) h = (h.2, chain_keyed arena s (block_at arena c.block + 2) cs h.4)

-- so a cell's block is in none of the others
pub block_once : (arena : Arena) (s : List ℕ) (p : ℕ) (c : Cell) (cs : List Cell) → HasChain arena s p (c ∷ cs)
    → HasKeysOnce (c ∷ cs) → has_block c.block cs ≡ false
block_once arena s p c cs h once =
    has_not c.block cs (omega (arith, one_here c.block c refl, keyed_once arena s c.block (c ∷ cs) (chain_keyed arena s p (c ∷ cs) h) once))

-- and a chain is no longer than the arena has blocks
pub chain_short : (arena : Arena) (s : List ℕ) (p : ℕ) (cs : List Cell) → HasChain arena s p cs → HasKeysOnce cs → length cs ≤ arena.blocks
chain_short arena s p cs h once = length_below arena.blocks cs (λ b. keyed_once arena s b cs (chain_keyed arena s p cs h) once) (chain_blocks arena s p cs h)

-- a key of these cells has their bucket
pub key_own : (i k : ℕ) (cs : List Cell) → HasKeysIn i cs → value_of k cs ≢ None → bucket_of k ≡ i
key_own i k [] h m = absurd (m refl)
key_own i k (c ∷ cs) h m = dite (ℕ_discrete c.key k)
    (λ same. subst (λ d. bucket_of d ≡ i) same h.0)
    (λ other. key_own i k cs h.1 (λ none. m (value_later k c cs other ∙ none)))

-- the place after cells is the first, or the third word of one's block
pub place_kind : (arena : Arena) (s : List ℕ) (q : ℕ) (front rest : List Cell) → HasChain arena s q (front ++ rest)
    → (place_after arena q front ≡ q) ⊎ ((e : ℕ) × (has_block e (front ++ rest) ≡ true) × (place_after arena q front ≡ block_at arena e + 2))
place_kind arena s q [] rest h = inl refl
place_kind arena s q (c ∷ front) rest h = elim (place_kind arena s (block_at arena c.block + 2) front rest h.4) [
  | inl e ↦ inr (c.block, has_first c (front ++ rest), e)
  | inr k ↦ inr (k.0, has_later k.0 c (front ++ rest) k.1, k.2)
]
