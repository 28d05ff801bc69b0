-- What words that stand for books say of each part, at the shape's sizes, and whether a block is left.
use Rattle.txn_books.proofs.Common.{◌≡◌, ℕ, ◌<◌, true, false, not, ◌==◌, List, [], ap, ◌∙◌, subst, arith, nat_tests, nat_cmp, ClearingBooks, used, AreInRange}
use Rattle.txn_books.proofs.Common.{HoldsApart, tree_part, chain_part, QueueHolds, BooksShape, tree_of, chains_of, queue_of, chained, HasParts, Stands}
use Rattle.txn_books.proofs.OneState.Whole.{counted}
use Rattle.txn_books.proofs.OneState.Parts.{tree_free, chains_free}
use Rattle.txn_alloc.proofs.Maps.Counting.{some_member}
use Rattle.std.specs.FinSet as set

module _ (shape : BooksShape) (words : List ℕ) (books : ClearingBooks) (stand : Stands shape words books) where
  pub tree_apart : HoldsApart (tree_part (tree_of shape)) words books.accounts stand.parts.tree_used stand.parts.free
  tree_apart = subst (λ z. HoldsApart (tree_part (tree_of z)) words books.accounts stand.parts.tree_used
      stand.parts.free) stand.sizes (tree_free stand.parts)

  pub chains_apart : HoldsApart (chain_part (chains_of shape)) words (chained books) stand.parts.chain_used stand.parts.free
  chains_apart = subst (λ z. HoldsApart (chain_part (chains_of z)) words (chained books) stand.parts.chain_used
      stand.parts.free) stand.sizes (chains_free stand.parts)

  pub queue_held : QueueHolds (queue_of shape) words books.calls
  queue_held = subst (λ z. QueueHolds (queue_of z) words books.calls) stand.sizes stand.parts.queue

module _ {words : List ℕ} {books : ClearingBooks} (parts : HasParts words books []) (range : AreInRange books) where
  -- a free block is room for one more
  pub has_room : (b : ℕ) → set.contains parts.free b ≡ true → used books < books.blocks
  has_room b free = omega (arith, some_member parts.free b free, counted words books [] parts range)

  -- and if none is free there is no room
  pub no_room : parts.free ≡ set.empty → used books ≡ books.blocks
  no_room none = omega (arith, counted words books [] parts range, ap set.len none ∙ set.len-empty nat_cmp)

-- the test whether a count is at its most, if it is below, and if it is there
pub is_below : (n most : ℕ) → n < most → true ≡ not (n == most)
is_below n most lt = grind (arith, nat_tests, lt)

pub is_at : (n most : ℕ) → n ≡ most → false ≡ not (n == most)
is_at n most e = grind (arith, nat_tests, e)
