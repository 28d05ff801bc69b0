-- The words of a store with no record: zeros, but for the lists of the free blocks.
use Rattle.txn_records.proofs.Common.{◌≡◌, ℕ, ◌<◌, List, length, slice_get, Some, replicate, sym, ap, ◌∙◌, arith, nat_cmp, data_at_rank, KeepsOthers, IsHead}
use Rattle.txn_records.proofs.Common.{FreeListsHold, times_of, TreeHolds, three_among, RecordShape, ById, ByRank, words_of, arena_of, tree_of, Stands, rank_in}
use Rattle.txn_alloc.proofs.Common.{IsWrittenByLaying}
use Rattle.std.specs.List.{range_with_len}
use Rattle.txn_alloc.proofs.Sets.{out_empty}
use Rattle.txn_alloc.proofs.Apart.{member_one, out_none}
use Rattle.txn_stores.proofs.Ranges.{all_among}
use Rattle.txn_stores.proofs.Emptied.{laid_count, no_tree, zero_before}
use Rattle.std.specs.FinSet as set
use Rattle.std.specs.FinMap as finite

-- the numbers of all blocks
abbrev pub all_blocks : RecordShape → List ℕ
all_blocks shape = range_with_len 0 shape.blocks

module _ (shape : RecordShape) (first words : List ℕ) (zeros : first ≡ replicate (words_of shape) 0)
    (kept : KeepsOthers (IsWrittenByLaying (arena_of shape) (all_blocks shape)) first words)
    (free : FreeListsHold (arena_of shape) words (set.from_list (all_blocks shape))) where
  count : length words ≡ words_of shape
  count = laid_count (arena_of shape) (all_blocks shape) (words_of shape) first words zeros kept

  zero_at : (a : ℕ) → a < 18 → ¬ IsHead (arena_of shape) a → slice_get words a ≡ Some 0
  zero_at a lt = zero_before (arena_of shape) (all_blocks shape) (words_of shape) first words zeros kept a (omega (arith, lt)) lt

  by_id : TreeHolds (tree_of shape ById) words finite.empty set.empty
  by_id = no_tree (tree_of shape ById) words
      (record {
        arena = free.laid_out;
        root = omega (arith, count);
        no_head = λ head. omega (arith, head.low);
        outside = λ b lt mine. omega (arith, mine.low);
      })
      (zero_at 0 (omega arith) (λ head. omega (arith, head.low)))

  by_rank : TreeHolds (tree_of shape ByRank) words finite.empty set.empty
  by_rank = no_tree (tree_of shape ByRank) words
      (record {
        arena = free.laid_out;
        root = omega (arith, count);
        no_head = λ head. omega (arith, head.high);
        outside = λ b lt mine. omega (arith, mine.low);
      })
      (zero_at 17 (omega arith) (λ head. omega (arith, head.high)))

  pub empty_stands : Stands shape words finite.empty
  empty_stands = record {
    trees = record { ranks = finite.empty; index = finite.empty };
    parts = record {
      id_used = set.empty;
      index_used = set.empty;
      free = set.from_list (all_blocks shape);
      by_id = by_id;
      by_rank = by_rank;
      free_lists = free;
      parted = λ b lt.
          let out : times_of set.empty b ≡ 0 = out_none set.empty b (out_empty b) in
          let one : times_of (set.from_list (all_blocks shape)) b ≡ 1 = member_one (set.from_list (all_blocks shape)) b (all_among shape.blocks b lt) in
          omega (arith, out, one, three_among b set.empty set.empty (set.from_list (all_blocks shape)));
    };
    held = record {
      ranks = λ id. finite.get-empty nat_cmp id ∙ sym (ap rank_in (finite.get-empty nat_cmp id));
      index = λ rank id lt. finite.get-empty nat_cmp _ ∙ sym (ap (data_at_rank rank) (finite.get-empty nat_cmp id));
    };
    range = λ id rank content there. absurd (let none = finite.get-empty {X = ℕ × ℕ} nat_cmp id in cc);
  }
