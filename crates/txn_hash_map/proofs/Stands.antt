-- Chains whose words stay.
use Rattle.txn_hash_map.proofs.Common.{◌≡◌, ℕ, ◌+◌, true, List, [], ◌∷◌, None, Some, length, slice_get, ◌⊎◌, sym, ◌∙◌, arith, true≢false, Arena, KeepsOthers}
use Rattle.txn_hash_map.proofs.Common.{block_at, IsInBlock, FreeListsHold, has_first, has_later, ChainMap, BUCKETS, Cell, has_block, Entries, Blocks}
use Rattle.txn_hash_map.proofs.Common.{HoldsApart, HasChain, IsLaid, IsBucket, ChainsHold, chain_part}
use Rattle.txn_alloc.proofs.Common.{all_blocks, IsWrittenByLaying}
use Rattle.std.specs.Ordering.{nat_cmp}
use Rattle.txn_alloc.specs.Laying.{IsInRow}
use Rattle.txn_alloc.proofs.Sets.{out_empty}
use Rattle.txn_alloc.proofs.FreeLists.Lists.{laid_kept}
use Rattle.txn_alloc.proofs.FreeLists.AllLaid.{both_written, beside}
use Rattle.txn_alloc.proofs.FreeLists.Wider.{keeps_more}
use Rattle.txn_alloc.proofs.Maps.Parts.{empty_apart}
use Rattle.std.specs.FinSet as set
use Rattle.std.specs.FinMap as entry_map

-- a chain whose words are kept has the same cells, also from another place with the same value
pub chain_kept : (arena : Arena) (s t : List ℕ) (p q : ℕ) (cs : List Cell) → slice_get t q ≡ slice_get s p
    → ((b a : ℕ) → has_block b cs ≡ true → IsInBlock arena b a → slice_get t a ≡ slice_get s a) → HasChain arena s p cs → HasChain arena t q cs
chain_kept arena s t p q [] e keep h = e ∙ h
chain_kept arena s t p q (c ∷ cs) e keep h =
    let here : (a : ℕ) → IsInBlock arena c.block a → slice_get t a ≡ slice_get s a = λ a k. keep c.block a (has_first c cs) k in (
      e ∙ h.0,
      h.1,
      here (block_at arena c.block) (omega arith) ∙ h.2,
      here (block_at arena c.block + 1) (omega arith) ∙ h.3,
      chain_kept arena s t (block_at arena c.block + 2) (block_at arena c.block + 2) cs
          (here (block_at arena c.block + 2) (omega arith))
          (λ b a m k. keep b a (has_later b c cs m) k) h.4,
    )

-- a list with as many words is laid out alike
pub laid_alike : {map : ChainMap} {s : List ℕ} (t : List ℕ) → length t ≡ length s → IsLaid map s → IsLaid map t
laid_alike {map} {s} t e l = record {
  arena = laid_kept map.arena s t e l.arena;
  buckets = omega (arith, l.buckets);
  no_head = l.no_head;
  outside = l.outside;
}

-- the map stands if its buckets and the words of its used blocks stay
pub chains_stand : (map : ChainMap) (s t : List ℕ) (f : Entries) (u : Blocks) → ChainsHold map s f u → length t ≡ length s
    → ((a : ℕ) → IsBucket map a → slice_get t a ≡ slice_get s a)
    → ((b a : ℕ) → set.contains u b ≡ true → IsInBlock map.arena b a → slice_get t a ≡ slice_get s a) → ChainsHold map t f u
chains_stand map s t f u h e buckets blocks = record {
  laid = laid_alike t e h.laid;
  cells = h.cells;
  chain = λ i lt. chain_kept map.arena s t (map.buckets + i) (map.buckets + i) (h.cells i)
      (buckets (map.buckets + i) (record { low = omega arith; high = omega arith }))
      (λ b a m k. blocks b a (h.in_used b i lt m) k) (h.chain i lt);
  own = h.own;
  once = h.once;
  entries_are = h.entries_are;
  used_in = h.used_in;
  in_used = h.in_used;
}

-- if all buckets name none, the map has no entry
pub none_stands : {map : ChainMap} {s : List ℕ} (f : Entries) → ((key : ℕ) → entry_map.get f key ≡ None) → IsLaid map s
    → ((a : ℕ) → IsBucket map a → slice_get s a ≡ Some 0) → ChainsHold map s f set.empty
none_stands {map} f none laid zero = record {
  laid = laid;
  cells = λ i. [];
  chain = λ i lt. zero (map.buckets + i) (record { low = omega arith; high = omega arith });
  own = λ i lt. tt;
  once = λ i lt. tt;
  entries_are = none;
  used_in = λ b m. absurd (true≢false (sym m ∙ out_empty b));
  in_used = λ b i lt m. absurd (true≢false (sym m));
}

-- if its buckets were cleared, and then all blocks laid free, the empty map stands beside them
module _ {map : ChainMap} {s t u : List ℕ} (laid : IsLaid map s) (cleared : KeepsOthers (IsInRow map.buckets BUCKETS) s t)
    (written : KeepsOthers (IsWrittenByLaying map.arena (all_blocks map.arena)) t u) where
  abbrev mine : KeepsOthers (IsBucket map) s t
  mine = keeps_more (IsInRow map.buckets BUCKETS) (IsBucket map) s t (λ a row. record { low = row.low; high = row.high }) cleared

  pub empty_others : KeepsOthers (λ a. IsBucket map a ⊎ IsWrittenByLaying map.arena (all_blocks map.arena) a) s u
  empty_others = both_written (IsBucket map) (IsWrittenByLaying map.arena (all_blocks map.arena)) s t u mine written

  pub empty_laid : ((a : ℕ) → IsInRow map.buckets BUCKETS a → slice_get t a ≡ Some 0)
      → FreeListsHold map.arena u (set.from_list (all_blocks map.arena))
      → HoldsApart (chain_part map) u entry_map.empty set.empty (set.from_list (all_blocks map.arena))
  empty_laid zero free = empty_apart (chain_part map) u (set.from_list (all_blocks map.arena))
      (none_stands entry_map.empty (entry_map.get-empty nat_cmp) (laid_alike u (empty_others.count) laid)
      (λ a is. beside map.arena t u written a (laid.no_head a is) (λ b lt in_block. laid.outside b a lt in_block is)
      ∙ zero a (record { low = is.low; high = is.high }))) free
