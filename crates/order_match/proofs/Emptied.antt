-- The words of a book with no order: zeros, but for the lists of the free blocks.
use Rattle.order_match.proofs.Common.{◌≡◌, ℕ, zero, suc, ◌+◌, ◌<◌, ◌≤◌, List, [], length, slice_get, Some, replicate, refl, arith, nat_cmp, range_with_len}
use Rattle.order_match.proofs.Common.{empty_book, KeepsOthers, IsHead, FreeListsHold, times_of, ChainsHold, TreeHolds, OrderShape, BUCKETS_AT, LAST_AT}
use Rattle.order_match.proofs.Common.{ROOTS_AT, arena_of, chains_of, sides_of, tree_of, words_of, Stands, held_of}
use Rattle.order_text.proofs.Common.{IsBlockCount}
use Rattle.txn_alloc.proofs.Common.{IsWrittenByLaying}
use Rattle.order_text.specs.Ranges.{IsInstrumentCount}
use Rattle.order_text.proofs.Apart.{empty_is}
use Rattle.txn_alloc.proofs.Sets.{out_empty}
use Rattle.txn_alloc.proofs.Apart.{member_one, out_none}
use Rattle.txn_stores.proofs.Ranges.{all_among}
use Rattle.txn_stores.proofs.Emptied.{laid_count, no_tree, zero_before}
use Rattle.order_match.specs.Layout.{blocks_at}
use Rattle.order_match.proofs.Family.{HoldsAt, entries_at, parts_of}
use Rattle.order_match.proofs.Sums.{total_none}
use Rattle.std.specs.FinSet as set
use Rattle.std.specs.FinMap as finite

-- the numbers of all blocks
abbrev pub all_blocks : OrderShape → List ℕ
all_blocks shape = range_with_len 0 shape.blocks

module _ (shape : OrderShape) (first words : List ℕ) (zeros : first ≡ replicate (words_of shape) 0)
    (kept : KeepsOthers (IsWrittenByLaying (arena_of shape) (all_blocks shape)) first words)
    (free : FreeListsHold (arena_of shape) words (set.from_list (all_blocks shape))) where
  count : length words ≡ words_of shape
  count = laid_count (arena_of shape) (all_blocks shape) (words_of shape) first words zeros kept

  zero_at : (a : ℕ) → a < blocks_at shape → ¬ IsHead (arena_of shape) a → slice_get words a ≡ Some 0
  zero_at a lt = zero_before (arena_of shape) (all_blocks shape) (words_of shape) first words zeros kept a (omega (arith, lt)) lt

  chains : ChainsHold (chains_of shape) words finite.empty set.empty
  chains = record {
    laid = record {
      arena = free.laid_out;
      buckets = omega (arith, count);
      no_head = λ a bucket head. omega (arith, bucket.low, head.high);
      outside = λ b a lt mine bucket. omega (arith, mine.low, bucket.high);
    };
    cells = λ i. [];
    chain = λ i lt. zero_at (BUCKETS_AT + i) (omega (arith, lt)) (λ head. omega (arith, head.high));
    own = λ i lt. tt;
    once = λ i lt. tt;
    entries_are = λ key. finite.get-empty nat_cmp key;
    used_in = λ b k. absurd (let none = out_empty b in cc);
    in_used = λ b i lt k. absurd (cc);
  }

  tree : (side : ℕ) → side < sides_of shape → TreeHolds (tree_of shape side) words finite.empty set.empty
  tree side lt = no_tree (tree_of shape side) words
      (record {
        arena = free.laid_out;
        root = omega (arith, count, lt);
        no_head = λ head. omega (arith, head.high);
        outside = λ b below mine. omega (arith, mine.low, lt);
      })
      (zero_at (ROOTS_AT + side) (omega (arith, lt)) (λ head. omega (arith, head.high)))

  each : (i : ℕ) → i ≤ sides_of shape → HoldsAt shape i words (entries_at i (held_of (empty_book shape.blocks))) set.empty
  each zero le = chains
  each (suc side) le = tree side (omega (arith, le))

  pub empty_stands : IsBlockCount shape.blocks → IsInstrumentCount shape.instruments → Stands shape words (empty_book shape.blocks)
  empty_stands blocks instruments = record {
    blocks_are = refl;
    book_is = (empty_is shape.blocks shape.instruments blocks instruments).0;
    parts = parts_of shape words (held_of (empty_book shape.blocks)) record {
      used = λ i. set.empty;
      free = set.from_list (all_blocks shape);
      last = zero_at LAST_AT (omega arith) (λ head. omega (arith, head.low));
      holds = each;
      free_lists = free;
      parted = λ b lt.
          let out : times_of set.empty b ≡ 0 = out_none set.empty b (out_empty b) in
          let one : times_of (set.from_list (all_blocks shape)) b ≡ 1 = member_one (set.from_list (all_blocks shape)) b (all_among shape.blocks b lt) in
          let none = total_none (sides_of shape) (λ i. times_of set.empty b) (λ i low. out) in
          omega (arith, one, none);
    };
  }
