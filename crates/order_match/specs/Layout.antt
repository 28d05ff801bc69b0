-- Where the parts of a limit order book lie in words, and how orders are named in them.
use Rattle.std.specs.Prelude.{ℕ, ◌+◌, ◌-◌, ◌*◌, ◌/◌, ◌%◌, Bool, if◌then◌else◌}
use Rattle.order_text.specs.declared.order.Resting.{Resting}
use Rattle.txn_alloc.specs.declared.arena.Arena.{Arena}
use Rattle.txn_hash_map.specs.declared.map.ChainMap.{ChainMap}
use Rattle.txn_tree_map.specs.declared.map.TreeMap.{TreeMap}
use Rattle.order_match.specs.declared.shape.OrderShape.{OrderShape}
use Rattle.order_match.specs.declared.layout.TheConstants.{HEADS_AT, BUCKETS_AT, ROOTS_AT, HALF, PRICE_CEILING}

-- the sides of instruments, numbered: the buys and then the sells of each
abbrev pub side_at : ℕ → Bool → ℕ
side_at instrument buys = 2 * (instrument - 1) + (if buys then 0 else 1)

-- the side of an order
abbrev pub side_of : Resting → ℕ
side_of r = side_at r.instrument r.buys

-- how many sides there are, each with a tree of its own
abbrev pub sides_of : OrderShape → ℕ
sides_of shape = 2 * shape.instruments

-- the first word of the blocks, behind the roots of all trees
abbrev pub blocks_at : OrderShape → ℕ
blocks_at shape = ROOTS_AT + sides_of shape

-- how many words a book of this size takes
abbrev pub words_of : OrderShape → ℕ
words_of shape = blocks_at shape + 4 * shape.blocks

-- the blocks, and the heads of the free ones
abbrev pub arena_of : OrderShape → Arena
arena_of shape = record { heads = HEADS_AT; first = blocks_at shape; blocks = shape.blocks }

-- the chains, which hold the place of each order by its number
abbrev pub chains_of : OrderShape → ChainMap
chains_of shape = record { buckets = BUCKETS_AT; arena = arena_of shape }

-- the tree of a side, which holds the quantity of each order by its key
abbrev pub tree_of : OrderShape → ℕ → TreeMap
tree_of shape side = record { root = ROOTS_AT + side; arena = arena_of shape }

-- the place of an order: its side in the upper half, and its price in the lower
abbrev pub place_at : ℕ → ℕ → ℕ
place_at side price = side * HALF + price

abbrev pub place_of : Resting → ℕ
place_of r = place_at (side_of r) r.price

-- a price as the keys of a side have it: of buys the highest comes first
abbrev pub price_part : Bool → ℕ → ℕ
price_part buys price = if buys then PRICE_CEILING - price else price

-- the key of an order: its price in the upper half, and its number in the lower
abbrev pub key_at : Bool → ℕ → ℕ → ℕ
key_at buys price number = price_part buys price * HALF + number

abbrev pub resting_key : Resting → ℕ
resting_key r = key_at r.buys r.price r.number

-- the price and the number in such a key
abbrev pub price_in : Bool → ℕ → ℕ
price_in buys key = price_part buys (key / HALF)

abbrev pub number_in : ℕ → ℕ
number_in key = key % HALF
