-- How many blocks a map uses: the cells of all buckets in one list.
use Rattle.txn_hash_map.proofs.Common.{◌≡◌, ◌≢◌, ℕ, ◌+◌, ◌<◌, ◌≤◌, ◌⊎◌, inl, inr, true, List, [], ◌∷◌, ◌++◌, slice_get, Some, None, refl, sym, ap, ◌∙◌, arith}
use Rattle.txn_hash_map.proofs.Common.{true≢false, dite, ℕ_discrete, AllByRecursion, block_at, Cell, Entries, Blocks, value_of, has_block, HasKeysOnce}
use Rattle.txn_hash_map.proofs.Common.{value_first, value_later, value_past, first_block, later_block, has_later, AreKeyed, keyed_once, ChainMap, BUCKETS}
use Rattle.txn_hash_map.proofs.Common.{HasChain, HasKeysIn, bucket_of, ChainsHold}
use Rattle.std.proofs.Common.{zero, suc, Option}
use Rattle.txn_alloc.proofs.Maps.Cells.{all_append, all_map}
use Rattle.txn_alloc.proofs.Maps.Counting.{len_cells, len_blocks}
use Rattle.txn_hash_map.proofs.Cells.{bucket_below, key_own, chain_keyed}
use Rattle.txn_hash_map.proofs.OneMap.{both}
use Rattle.std.specs.FinSet as set
use Rattle.std.specs.FinMap as entry_map

-- the cells of the buckets below a number
gathered : ℕ → (ℕ → List Cell) → List Cell
gathered zero cells = []
gathered (suc n) cells = gathered n cells ++ cells n

value_front : (key : ℕ) (xs ys : List Cell) → value_of key ys ≡ None → value_of key (xs ++ ys) ≡ value_of key xs
value_front key [] ys none = none
value_front key (c ∷ xs) ys none = dite (ℕ_discrete c.key key)
    (λ e. value_first key c (xs ++ ys) e ∙ sym (value_first key c xs e))
    (λ ne. value_later key c (xs ++ ys) ne ∙ value_front key xs ys none ∙ sym (value_later key c xs ne))

has_left : (b : ℕ) (xs ys : List Cell) → has_block b xs ≡ true → has_block b (xs ++ ys) ≡ true
has_left b [] ys h = absurd (true≢false (sym h))
has_left b (c ∷ xs) ys h = dite (ℕ_discrete c.block b)
    (first_block b c (xs ++ ys))
    (λ ne. later_block b c (xs ++ ys) ne ∙ has_left b xs ys (sym (later_block b c xs ne) ∙ h))

has_right : (b : ℕ) (xs ys : List Cell) → has_block b ys ≡ true → has_block b (xs ++ ys) ≡ true
has_right b [] ys h = h
has_right b (c ∷ xs) ys h = has_later b c (xs ++ ys) (has_right b xs ys h)

has_either : (b : ℕ) (xs ys : List Cell) → has_block b (xs ++ ys) ≡ true → (has_block b xs ≡ true) ⊎ (has_block b ys ≡ true)
has_either b [] ys h = inr h
has_either b (c ∷ xs) ys h = dite (ℕ_discrete c.block b)
    (λ e. inl (first_block b c xs e))
    (λ ne. elim (has_either b xs ys (sym (later_block b c (xs ++ ys) ne) ∙ h)) [ inl k ↦ inl (has_later b c xs k) | inr k ↦ inr k ])

once_append : (xs ys : List Cell) → HasKeysOnce xs → HasKeysOnce ys → AllByRecursion (λ c. value_of c.key ys ≡ None) xs → HasKeysOnce (xs ++ ys)
once_append [] ys h k apart = k
once_append (c ∷ xs) ys h k apart = (value_past c.key xs ys h.0 ∙ apart.0, once_append xs ys h.1 k apart.1)

own_buckets : (n i : ℕ) (cs : List Cell) → i < n → HasKeysIn i cs → AllByRecursion (λ c. bucket_of c.key < n) cs
own_buckets n i [] lt h = tt
own_buckets n i (c ∷ cs) lt h = (omega (arith, h.0), own_buckets n i cs lt h.1)

pub some_or_none : (o : Option ℕ) → (o ≡ None) ⊎ (o ≢ None)
some_or_none None = inl refl
some_or_none (Some x) = inr (λ e. cc)

-- a key of another bucket is in none of these cells
pub absent_in : (i k : ℕ) (cs : List Cell) → HasKeysIn i cs → bucket_of k ≢ i → value_of k cs ≡ None
absent_in i k cs own ne = elim (some_or_none (value_of k cs)) [ inl e ↦ e | inr m ↦ absurd (ne (key_own i k cs own m)) ]

module _ (map : ChainMap) (s : List ℕ) (cells : ℕ → List Cell) where
  keyed : (n : ℕ) → ((i : ℕ) → i < n → HasChain map.arena s (map.buckets + i) (cells i)) → AreKeyed map.arena s (gathered n cells)
  unfolding gathered
  keyed zero chain = tt
  keyed (suc n) chain =
      all_append (λ c. slice_get s (block_at map.arena c.block) ≡ Some c.key) (gathered n cells) (cells n)
      (keyed n (λ i lt. chain i (omega arith))) (chain_keyed map.arena s (map.buckets + n) (cells n) (chain n (omega arith)))

module _ (cells : ℕ → List Cell) where
  buckets_below : (n : ℕ) → ((i : ℕ) → i < n → HasKeysIn i (cells i)) → AllByRecursion (λ c. bucket_of c.key < n) (gathered n cells)
  unfolding gathered
  buckets_below zero own = tt
  buckets_below (suc n) own =
      all_append (λ c. bucket_of c.key < suc n) (gathered n cells) (cells n)
      (all_map (λ c. bucket_of c.key < n) (λ c. bucket_of c.key < suc n) (gathered n cells) (λ c lt. omega arith)
      (buckets_below n (λ i lt. own i (omega arith))))
      (own_buckets (suc n) n (cells n) (omega arith) (own n (omega arith)))

  once_all : (n : ℕ) → ((i : ℕ) → i < n → HasKeysIn i (cells i)) → ((i : ℕ) → i < n → HasKeysOnce (cells i)) → HasKeysOnce (gathered n cells)
  unfolding gathered
  once_all zero own once = tt
  once_all (suc n) own once =
      let own_n : (i : ℕ) → i < n → HasKeysIn i (cells i) = λ i lt. own i (omega arith) in
      once_append (gathered n cells) (cells n) (once_all n own_n (λ i lt. once i (omega arith))) (once n (omega arith))
      (all_map (λ c. bucket_of c.key < n) (λ c. value_of c.key (cells n) ≡ None) (gathered n cells)
      (λ c lt. absent_in n c.key (cells n) (own n (omega arith)) (λ e. absurd (omega arith))) (buckets_below n own_n))

  value_above : (n key : ℕ) → ((i : ℕ) → i < n → HasKeysIn i (cells i)) → n ≤ bucket_of key → value_of key (gathered n cells) ≡ None
  unfolding gathered
  value_above zero key own le = refl
  value_above (suc n) key own le =
      value_past key (gathered n cells) (cells n) (value_above n key (λ i lt. own i (omega arith))
      (omega arith)) ∙ absent_in n key (cells n) (own n (omega arith)) (λ e. absurd (omega arith))

  -- what they say of a key is what its own bucket says
  value_all : (n key : ℕ) → ((i : ℕ) → i < n → HasKeysIn i (cells i)) → bucket_of key < n
      → value_of key (gathered n cells) ≡ value_of key (cells (bucket_of key))
  unfolding gathered
  value_all zero key own lt = absurd (omega arith)
  value_all (suc n) key own lt = dite (ℕ_discrete (bucket_of key) n)
      (λ e. value_past key (gathered n cells) (cells n) (value_above n key (λ i k. own i (omega arith))
      (omega arith)) ∙ ap (λ i. value_of key (cells i)) (sym e))
      (λ ne. value_front key (gathered n cells) (cells n) (absent_in n key (cells n) (own n (omega arith)) ne)
      ∙ value_all n key (λ i k. own i (omega arith)) (omega arith))

  -- and a block of one bucket is one of theirs
  has_in : (n i b : ℕ) → i < n → has_block b (cells i) ≡ true → has_block b (gathered n cells) ≡ true
  unfolding gathered
  has_in zero i b lt h = absurd (omega arith)
  has_in (suc n) i b lt h = dite (ℕ_discrete i n)
      (λ e. has_right b (gathered n cells) (cells n) (ap (λ j. has_block b (cells j)) (sym e) ∙ h))
      (λ ne. has_left b (gathered n cells) (cells n) (has_in n i b (omega arith) h))

  has_out : (n b : ℕ) → has_block b (gathered n cells) ≡ true → (i : ℕ) × (i < n) × (has_block b (cells i) ≡ true)
  unfolding gathered
  has_out zero b h = absurd (true≢false (sym h))
  has_out (suc n) b h = elim (has_either b (gathered n cells) (cells n) h) [
    | inl k ↦ let q = has_out n b k in (q.0, omega (arith, q.1), q.2)
    | inr k ↦ (n, omega arith, k)
  ]

pub as_many_blocks : (map : ChainMap) (s : List ℕ) (f : Entries) (u : Blocks) → ChainsHold map s f u → set.len u ≡ entry_map.len f
as_many_blocks map s f u h = at BUCKETS h.chain h.own h.once bucket_below h.used_in h.in_used
  where
    at : (n : ℕ) → ((i : ℕ) → i < n → HasChain map.arena s (map.buckets + i) (h.cells i))
        → ((i : ℕ) → i < n → HasKeysIn i (h.cells i)) → ((i : ℕ) → i < n → HasKeysOnce (h.cells i)) → ((key : ℕ) → bucket_of key < n)
        → ((b : ℕ) → set.contains u b ≡ true → (i : ℕ) × (i < n) × (has_block b (h.cells i) ≡ true))
        → ((b i : ℕ) → i < n → has_block b (h.cells i) ≡ true → set.contains u b ≡ true) → set.len u ≡ entry_map.len f
    at n chain own once below used_in in_used =
        let cs : List Cell = gathered n h.cells in
        let keys : HasKeysOnce cs = once_all h.cells n own once in
        len_blocks cs u
        (λ b. both (set.contains u b) (has_block b cs) (λ m. let q = used_in b m in has_in h.cells n q.0 b q.1 q.2)
        (λ m. let q = has_out h.cells n b m in in_used b q.0 q.1 q.2))
        (λ b. keyed_once map.arena s b cs (keyed map s h.cells n chain) keys)
        ∙ sym (len_cells cs f (λ key. h.entries_are key ∙ sym (value_all h.cells n key own (below key))) keys)
