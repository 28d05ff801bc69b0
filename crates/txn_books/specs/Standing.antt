-- Which word lists stand for which books.
use Rattle.std.specs.Prelude.{◌≡◌, ℕ, ◌+◌, ◌<◌, ◌==◌, List, [], ◌∷◌, All, count_by}
use Rattle.books_model.specs.Books.{ClearingBooks}
use Rattle.books_model.specs.Ranges.{AreInRange}
use Rattle.txn_alloc.specs.FreeLists.{FreeListsHold}
use Rattle.txn_alloc.specs.EntryMaps.{Blocks}
use Rattle.txn_alloc.specs.Blocks.{times_among}
use Rattle.txn_tree_map.specs.Trees.{TreeHolds}
use Rattle.txn_hash_map.specs.Chains.{ChainsHold}
use Rattle.txn_ring.specs.Queues.{QueueHolds}
use Rattle.txn_books.specs.declared.shape.BooksShape.{BooksShape}
use Rattle.txn_books.specs.Layout.{shape_of, arena_of, tree_of, chains_of, queue_of, chained}

-- the parts of the books lie in the words, and each block is used by the tree or by the chains, or free, or in hand
pub record HasParts (words : List ℕ) (books : ClearingBooks) (in_hand : List ℕ) : Type 0 where
  pub tree_used : Blocks
  pub chain_used : Blocks
  pub free : Blocks
  pub accounts : TreeHolds (tree_of (shape_of books)) words books.accounts tree_used
  pub chains : ChainsHold (chains_of (shape_of books)) words (chained books) chain_used
  pub queue : QueueHolds (queue_of (shape_of books)) words books.calls
  pub free_lists : FreeListsHold (arena_of (shape_of books)) words free
  pub hand_below : All (λ b. b < books.blocks) in_hand
  pub parted : (b : ℕ) → b < books.blocks
      → times_among b (tree_used ∷ chain_used ∷ free ∷ []) + count_by (λ c. c == b) in_hand ≡ 1

-- with no block in hand the words stand for the books
abbrev pub StandsFor : List ℕ → ClearingBooks → Type 0
StandsFor words books = HasParts words books []

-- the words stand for books of these sizes, whose numbers are in range
pub record Stands (shape : BooksShape) (words : List ℕ) (books : ClearingBooks) : Type 0 where
  pub sizes : shape_of books ≡ shape
  pub range : AreInRange books
  pub parts : StandsFor words books

-- the words stand for some such books
abbrev pub IsGoodFor : BooksShape → List ℕ → Type 0
IsGoodFor shape words = (books : ClearingBooks) × Stands shape words books
