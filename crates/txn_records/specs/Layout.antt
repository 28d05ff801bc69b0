-- Where the parts of a record store lie in words, and under which keys the index holds data.
use Rattle.std.specs.Prelude.{ℕ, ◌+◌, ◌*◌, ◌/◌, ◌%◌}
use Rattle.txn_alloc.specs.declared.arena.Arena.{Arena}
use Rattle.txn_tree_map.specs.declared.map.TreeMap.{TreeMap}
use Rattle.txn_records.specs.declared.shape.RecordShape.{RecordShape}
use Rattle.txn_records.specs.declared.layout.Order.{Order}
use Rattle.txn_records.specs.declared.layout.Order.TheVariants as order
use Rattle.txn_records.specs.declared.layout.TheConstants.{ID_ROOT, HEADS_AT, INDEX_ROOT, BLOCKS_AT, RANK_STEP}

-- how many words a store of this size takes
abbrev pub words_of : RecordShape → ℕ
words_of shape = BLOCKS_AT + 4 * shape.blocks

-- the blocks, behind the second root
abbrev pub arena_of : RecordShape → Arena
arena_of shape = record { heads = HEADS_AT; first = BLOCKS_AT; blocks = shape.blocks }

-- the word that names the tree's top
abbrev pub root_of : Order → ℕ
root_of order.ById = ID_ROOT
root_of order.ByRank = INDEX_ROOT

-- each of the two trees
abbrev pub tree_of : RecordShape → Order → TreeMap
tree_of shape o = record { root = root_of o; arena = arena_of shape }

-- the key of a record in the index
abbrev pub index_key_of : ℕ → ℕ → ℕ
index_key_of rank id = rank * RANK_STEP + id

-- the identifier in such a key
abbrev pub id_in : ℕ → ℕ
id_in key = key % RANK_STEP

-- the rank in such a key
abbrev pub rank_in_key : ℕ → ℕ
rank_in_key key = key / RANK_STEP
