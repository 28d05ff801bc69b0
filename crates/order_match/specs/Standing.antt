-- Which word lists stand for which books.
use Rattle.std.specs.Prelude.{◌≡◌, ℕ, ◌<◌, ◌==◌, List, ◌∷◌, Some, map, filter, slice_get}
use Rattle.std.specs.List.{range_with_len}
use Rattle.std.specs.FinMap as finite
use Rattle.order_text.specs.declared.order.Resting.{Resting}
use Rattle.order_text.specs.Orders.{OrderBook}
use Rattle.order_text.specs.Ranges.{IsBookOf}
use Rattle.txn_alloc.specs.FreeLists.{FreeListsHold}
use Rattle.txn_alloc.specs.EntryMaps.{Entries, Blocks}
use Rattle.txn_hash_map.specs.Chains.{ChainsHold}
use Rattle.txn_tree_map.specs.Trees.{TreeHolds}
use Rattle.txn_alloc.specs.Blocks.{times_among}
use Rattle.order_match.specs.declared.shape.OrderShape.{OrderShape}
use Rattle.order_match.specs.declared.layout.TheConstants.{LAST_AT}
use Rattle.order_match.specs.Layout.{arena_of, chains_of, tree_of, sides_of, side_of, place_of, resting_key}

-- what the parts hold: the last order number; of the chains the places by number; of each side's tree quantities by key
pub record Held : Type 0 where
  pub last : ℕ
  pub places : Entries
  pub sides : ℕ → Entries

-- a set of blocks for each side
abbrev pub of_sides : OrderShape → (ℕ → Blocks) → List Blocks
of_sides shape used = map used (range_with_len 0 (sides_of shape))

-- the parts lie in the words, and each block is used by the chains or by one of the trees, or free
pub record HasParts (shape : OrderShape) (words : List ℕ) (held : Held) : Type 0 where
  pub chain_used : Blocks
  pub side_used : ℕ → Blocks
  pub free : Blocks
  pub last : slice_get words LAST_AT ≡ Some held.last
  pub chains : ChainsHold (chains_of shape) words held.places chain_used
  pub trees : (side : ℕ) → side < sides_of shape
      → TreeHolds (tree_of shape side) words (held.sides side) (side_used side)
  pub free_lists : FreeListsHold (arena_of shape) words free
  pub parted : (b : ℕ) → b < shape.blocks → times_among b (chain_used ∷ free ∷ of_sides shape side_used) ≡ 1

-- they do, whatever they hold
abbrev pub HasSomeParts : OrderShape → List ℕ → Type 0
HasSomeParts shape words = (held : Held) × HasParts shape words held

-- the place of each order by its number
abbrev pub places_of : List Resting → Entries
places_of orders = finite.from_entries (map (λ r. (r.number, place_of r)) orders)

-- the quantity of each order of a side by its key
abbrev pub quantities_on : ℕ → List Resting → Entries
quantities_on side orders =
    finite.from_entries (map (λ r. (resting_key r, r.quantity)) (filter (λ r. side_of r == side) orders))

-- what the parts hold for a book
abbrev pub held_of : OrderBook → Held
held_of book = record {
  last = book.last;
  places = places_of book.orders;
  sides = λ side. quantities_on side book.orders;
}

-- the words stand for this book, which is one of the shape's blocks and instruments, with all numbers in range
pub record Stands (shape : OrderShape) (words : List ℕ) (book : OrderBook) : Type 0 where
  pub blocks_are : book.blocks ≡ shape.blocks
  pub book_is : IsBookOf shape.instruments book
  pub parts : HasParts shape words (held_of book)

-- the words stand for some book
abbrev pub IsGoodFor : OrderShape → List ℕ → Type 0
IsGoodFor shape words = (book : OrderBook) × Stands shape words book
