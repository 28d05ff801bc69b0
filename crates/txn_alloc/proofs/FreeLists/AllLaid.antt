-- All blocks of an arena, laid by rising number.
use Rattle.txn_alloc.proofs.Common.{◌≡◌, ◌≢◌, ℕ, zero, suc, ◌+◌, ◌<◌, ◌⊎◌, inl, inr, false, List, ◌++◌, drop, get_or, length, slice_get, slice_set, Some}
use Rattle.txn_alloc.proofs.Common.{nat_eq, sym, ap, subst, ◌∙◌, arith, rules, All, AllByRecursion, IsDistinct-cons, KeepsOthers, Arena, block_at, head_of}
use Rattle.txn_alloc.proofs.Common.{IsHead, IsInBlock, IsLaidOut, all_blocks, IsWrittenByLaying}
use Rattle.std.proofs.Common.{take, zero-add}
use Rattle.std.specs.List.{IsDistinct, range_with_len}
use Rattle.std.proofs.Math.Seq.{take-append_seam}
use Rattle.std.proofs.lemmas.List.{drop_all}
use Rattle.std.proofs.lemmas.List.FromFn.{length-range_with_len, get_or-range_with_len}
use Rattle.history_model.specs.Fitting.{IsGood}
use Rattle.txn_alloc.proofs.FreeLists.Laid.{IsLaidFrom, laid_none, laid_back, among_all}

pub all_below : (n : ℕ) → All (λ b. b < n) (range_with_len 0 n)
all_below n i d lt =
    let there : i < n = omega (arith, length-range_with_len 0 n) in
    omega (arith, get_or-range_with_len 0 n i d there)

above_differ : (c a n : ℕ) → c < a → AllByRecursion (λ y. nat_eq c y ≡ false) (range_with_len a n)
above_differ c a zero lt = tt
above_differ c a (suc n) lt = (let ne : c ≢ a = λ e. omega arith in grind (rules, ne), above_differ c (a + 1) n (omega arith))

pub all_once : (a n : ℕ) → IsDistinct nat_eq (range_with_len a n)
unfolding IsDistinct
all_once a zero = tt
all_once a (suc n) = IsDistinct-cons nat_eq a (range_with_len (a + 1) n) (above_differ a (a + 1) n (omega arith)) (all_once (a + 1) n)

-- at first none is laid
pub all_laid_none : {arena : Arena} {first : List ℕ} → IsLaidOut arena first → {words : List ℕ} → KeepsOthers (IsHead arena) first words
    → ((a : ℕ) → IsHead arena a → slice_get words a ≡ Some 0)
    → IsLaidFrom arena (all_blocks arena) first (drop arena.blocks (all_blocks arena)) words
all_laid_none {arena} {first} laid {words} kept none =
    subst (λ l. IsLaidFrom arena (all_blocks arena) first l words)
    (sym (drop_all arena.blocks (all_blocks arena) (omega (arith, length-range_with_len 0 arena.blocks))))
    (laid_none arena (all_blocks arena) first laid kept none)

-- a block is put in front, if those above it are laid
pub all_laid_back : {arena : Arena} {first : List ℕ} → IsLaidOut arena first → {words : List ℕ} (b : ℕ) → b < arena.blocks
    → IsLaidFrom arena (all_blocks arena) first (drop (suc b) (all_blocks arena)) words
    → IsLaidFrom arena (all_blocks arena) first (drop b (all_blocks arena))
    (slice_set (slice_set words (block_at arena b) (get_or words (head_of arena b) 0)) (head_of arena b) (b + 1))
all_laid_back {arena} {first} laid {words} b lt h =
    subst (λ d. IsLaidFrom arena (all_blocks arena) first (drop b (all_blocks arena))
    (slice_set (slice_set words (block_at arena d) (get_or words (head_of arena d) 0)) (head_of arena d) (d + 1)))
    (get_or-range_with_len 0 arena.blocks b 0 lt ∙ zero-add b)
    (laid_back laid (all_once 0 arena.blocks) (all_below arena.blocks) b
    (omega (arith, length-range_with_len 0 arena.blocks)) h)

-- a word that is no head and in no block stays
pub beside : (arena : Arena) (s t : List ℕ) → KeepsOthers (IsWrittenByLaying arena (all_blocks arena)) s t → (a : ℕ) → ¬ IsHead arena a
    → ((b : ℕ) → b < arena.blocks → ¬ IsInBlock arena b a) → slice_get t a ≡ slice_get s a
beside arena s t laid a head block = laid.same a (λ k. elim k [
  | inl h ↦ head h
  | inr w ↦ block w.0 (among_all (λ d. d < arena.blocks) (all_blocks arena) (all_below arena.blocks) w.0 w.1)
      (omega (arith, w.2))
])

-- what two calls write one after the other
pub both_written : (IsFirst IsNext : ℕ → Type 0) (s t u : List ℕ) → KeepsOthers IsFirst s t → KeepsOthers IsNext t u
    → KeepsOthers (λ a. IsFirst a ⊎ IsNext a) s u
both_written IsFirst IsNext s t u first next = record {
  count = next.count ∙ first.count;
  same = λ a other. next.same a (λ k. other (inr k)) ∙ first.same a (λ k. other (inl k));
}

-- words that were laid in a vector are good
pub laid_good : (n : ℕ) (G : List ℕ → Type 0) (len : ℕ) (items laid : List ℕ) → len ≡ n → length laid ≡ n → G laid
    → IsGood n G (take len (laid ++ drop (length laid) items))
laid_good n G len items laid is_n long good =
    let whole : take len (laid ++ drop (length laid) items) ≡ laid =
    ap (λ k. take k (laid ++ drop (length laid) items)) (is_n ∙ sym long) ∙ take-append_seam laid _ in
    record { count = ap length whole ∙ long; good = subst G (sym whole) good }
