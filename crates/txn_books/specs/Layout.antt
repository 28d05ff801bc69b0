-- Where the parts of clearing books lie in words, and under which keys the chains hold positions and prices.
use Rattle.std.specs.Prelude.{ℕ, ◌+◌, ◌*◌, ◌-◌, ◌++◌, map}
use Rattle.std.specs.FinMap as entry_map
use Rattle.books_model.specs.declared.limits.TheConstants.{MOST_INSTRUMENTS}
use Rattle.books_model.specs.Books.{ClearingBooks}
use Rattle.txn_alloc.specs.declared.arena.Arena.{Arena}
use Rattle.txn_alloc.specs.EntryMaps.{Entries}
use Rattle.txn_tree_map.specs.declared.map.TreeMap.{TreeMap}
use Rattle.txn_hash_map.specs.declared.map.ChainMap.{ChainMap}
use Rattle.txn_ring.specs.declared.ring.Ring.{Ring}
use Rattle.txn_books.specs.declared.shape.BooksShape.{BooksShape}
use Rattle.txn_books.specs.declared.layout.TheConstants.{ROOT, HEADS_AT, BUCKETS_AT, RING_AT, RING_ITEMS}

-- the sizes of books
abbrev pub shape_of : ClearingBooks → BooksShape
shape_of books = record { blocks = books.blocks; instruments = books.instruments; ring = books.ring }

-- how many words books of these sizes take
abbrev pub words_of : BooksShape → ℕ
words_of shape = RING_ITEMS + 2 * shape.ring + 4 * shape.blocks

-- the blocks, behind the ring's places
abbrev pub arena_of : BooksShape → Arena
arena_of shape = record { heads = HEADS_AT; first = RING_ITEMS + 2 * shape.ring; blocks = shape.blocks }

-- the tree of accounts
abbrev pub tree_of : BooksShape → TreeMap
tree_of shape = record { root = ROOT; arena = arena_of shape }

-- the chains of positions and prices
abbrev pub chains_of : BooksShape → ChainMap
chains_of shape = record { buckets = BUCKETS_AT; arena = arena_of shape }

-- the ring of margin calls
abbrev pub queue_of : BooksShape → Ring
queue_of shape = record { at = RING_AT; capacity = shape.ring }

-- the key of an instrument's price
abbrev pub price_key_of : ℕ → ℕ
price_key_of i = i - 1

-- the key of an account's position of an instrument
abbrev pub position_key_of : ℕ → ℕ → ℕ
position_key_of a i = MOST_INSTRUMENTS * a + (i - 1)

-- what the chains hold: the prices and the quantities, each under its key
abbrev pub chained : ClearingBooks → Entries
chained books = entry_map.from_sorted (
    map (λ e. (price_key_of e.0, e.1)) (entry_map.entries books.prices)
    ++ map (λ e. (position_key_of e.0.0 e.0.1, e.1)) (entry_map.entries books.positions)
    )
