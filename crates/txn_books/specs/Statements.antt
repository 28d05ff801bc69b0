-- What the laws of books on words say.
use Rattle.std.specs.Prelude.{◌≡◌, ◌≢◌, ℕ, ◌+◌, ◌≤◌, List, [], ◌∷◌, length}
use Rattle.std.specs.FinSet as set
use Rattle.std.specs.FinMap as entry_map
use Rattle.std.specs.Ordering.{nat_cmp}
use Rattle.books_model.specs.declared.limits.TheConstants.{MOST_INSTRUMENTS}
use Rattle.books_model.specs.Books.{ClearingBooks, position_cmp, used}
use Rattle.books_model.specs.Ranges.{IsWithin, AreInRange}
use Rattle.txn_words.specs.Frames.{KeepsOthers}
use Rattle.txn_alloc.specs.FreeLists.{FreeListsHold}
use Rattle.txn_alloc.specs.EntryMaps.{Entries, Blocks, IsOwn}
use Rattle.txn_alloc.specs.Blocks.{times_among}
use Rattle.txn_tree_map.specs.Trees.{TreeHolds, tree_part}
use Rattle.txn_hash_map.specs.Chains.{ChainsHold, chain_part}
use Rattle.txn_ring.specs.Queues.{QueueHolds}
use Rattle.txn_ring.specs.Queues as ring
use Rattle.txn_books.specs.declared.shape.BooksShape.{BooksShape}
use Rattle.txn_books.specs.Layout.{shape_of, arena_of, tree_of, chains_of, queue_of, price_key_of, position_key_of, chained}
use Rattle.txn_books.specs.Standing.{HasParts, Stands}

-- an instrument's number
abbrev pub IsInstrument : ℕ → Type 0
IsInstrument i = IsWithin 1 MOST_INSTRUMENTS i

-- different prices and positions have different keys
pub record KeysDiffer : Type 0 where
  pub prices : (i j : ℕ) → 1 ≤ i → 1 ≤ j → price_key_of i ≡ price_key_of j → i ≡ j
  pub positions : (a i b j : ℕ) → IsInstrument i → IsInstrument j → position_key_of a i ≡ position_key_of b j
      → (a ≡ b) × (i ≡ j)
  pub apart : (i a j : ℕ) → IsInstrument i → 1 ≤ a → price_key_of i ≢ position_key_of a j

-- words stand for one books at most
abbrev pub OneBooks : Type 0
OneBooks = (shape : BooksShape) (words : List ℕ) (books others : ClearingBooks) → Stands shape words books
    → Stands shape words others → books ≡ others

-- a call on the tree that wrote its own words alone, with as many of its blocks and the free ones in each place as before,
-- leaves the other parts
abbrev pub TreeChangeStands : Type 0
TreeChangeStands =
    (old new : List ℕ) (books : ClearingBooks) (in_hand : List ℕ) (parts : HasParts old books in_hand)
    (accounts : Entries) (used_after free : Blocks) (key : ℕ)
    → TreeHolds (tree_of (shape_of books)) new accounts used_after
    → FreeListsHold (arena_of (shape_of books)) new free
    → ((b : ℕ) → times_among b (used_after ∷ free ∷ []) ≡ times_among b (parts.tree_used ∷ parts.free ∷ []))
    → KeepsOthers (IsOwn (tree_part (tree_of (shape_of books))) key old new) old new
    → HasParts new (record books { accounts = accounts }) in_hand

-- the same of a call on the chains
abbrev pub ChainChangeStands : Type 0
ChainChangeStands =
    (old new : List ℕ) (books : ClearingBooks) (in_hand : List ℕ) (parts : HasParts old books in_hand)
    (positions : entry_map.FinMap position_cmp ℕ) (prices : entry_map.FinMap nat_cmp ℕ) (used_after free : Blocks)
    (key : ℕ)
    → ChainsHold (chains_of (shape_of books)) new
    (chained (record books { positions = positions; prices = prices })) used_after
    → FreeListsHold (arena_of (shape_of books)) new free
    → ((b : ℕ) → times_among b (used_after ∷ free ∷ []) ≡ times_among b (parts.chain_used ∷ parts.free ∷ []))
    → KeepsOthers (IsOwn (chain_part (chains_of (shape_of books))) key old new) old new
    → HasParts new (record books { positions = positions; prices = prices }) in_hand

-- and a call on the queue that wrote the ring's words alone
abbrev pub QueueChangeStands : Type 0
QueueChangeStands =
    (old new : List ℕ) (books : ClearingBooks) (in_hand : List ℕ) (calls : List (ℕ × ℕ))
    → HasParts old books in_hand
    → QueueHolds (queue_of (shape_of books)) new calls
    → KeepsOthers (ring.IsOwn (queue_of (shape_of books))) old new
    → HasParts new (record books { calls = calls }) in_hand

-- free blocks, blocks in hand and used ones are all blocks
abbrev pub FreeBlocksCounted : Type 0
FreeBlocksCounted =
    (words : List ℕ) (books : ClearingBooks) (in_hand : List ℕ) (parts : HasParts words books in_hand)
    → AreInRange books → set.len parts.free + length in_hand + used books ≡ books.blocks
