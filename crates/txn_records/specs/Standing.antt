-- Which word lists stand for which records.
use Rattle.std.specs.Prelude.{◌≡◌, ℕ, ◌<◌, ◌≤◌, List, [], ◌∷◌, Option, Some, None}
use Rattle.std.specs.FinMap as finite
use Rattle.record_text.specs.declared.limits.TheConstants.{GREATEST_DATA}
use Rattle.record_text.specs.Records.{Records}
use Rattle.record_text.specs.Ranges.{IsId, IsRank}
use Rattle.record_text.specs.Laws.{data_at_rank}
use Rattle.txn_alloc.specs.FreeLists.{FreeListsHold}
use Rattle.txn_alloc.specs.EntryMaps.{Entries, Blocks}
use Rattle.txn_tree_map.specs.Trees.{TreeHolds}
use Rattle.txn_alloc.specs.Blocks.{times_among}
use Rattle.txn_records.specs.declared.shape.RecordShape.{RecordShape}
use Rattle.txn_records.specs.declared.layout.Order.{Order}
use Rattle.txn_records.specs.declared.layout.Order.TheVariants as order
use Rattle.txn_records.specs.declared.layout.TheConstants.{RANK_STEP}
use Rattle.txn_records.specs.Layout.{arena_of, tree_of, index_key_of}

-- what the two trees hold: ranks by identifier, and data by the keys of the index
pub record Trees : Type 0 where
  pub ranks : Entries
  pub index : Entries

abbrev pub entries_in : Order → Trees → Entries
entries_in order.ById trees = trees.ranks
entries_in order.ByRank trees = trees.index

-- the trees lie in the words, and each block is used by one of them or free
pub record HasTrees (shape : RecordShape) (words : List ℕ) (trees : Trees) : Type 0 where
  pub id_used : Blocks
  pub index_used : Blocks
  pub free : Blocks
  pub by_id : TreeHolds (tree_of shape order.ById) words trees.ranks id_used
  pub by_rank : TreeHolds (tree_of shape order.ByRank) words trees.index index_used
  pub free_lists : FreeListsHold (arena_of shape) words free
  pub parted : (b : ℕ) → b < shape.blocks → times_among b (id_used ∷ index_used ∷ free ∷ []) ≡ 1

-- some trees do
abbrev pub HasSomeTrees : RecordShape → List ℕ → Type 0
HasSomeTrees shape words = (trees : Trees) × HasTrees shape words trees

-- the rank of a record, if it is there
abbrev pub rank_in : Option (ℕ × ℕ) → Option ℕ
rank_in None = None
rank_in (Some stored) = Some stored.0

-- both trees hold exactly these records: the one the rank of each, and the index the data of each at the key of the
-- rank that it has
pub record HoldRecords (trees : Trees) (records : Records) : Type 0 where
  pub ranks : (id : ℕ) → finite.get trees.ranks id ≡ rank_in (finite.get records id)
  pub index : (rank id : ℕ) → id < RANK_STEP
      → finite.get trees.index (index_key_of rank id) ≡ data_at_rank rank (finite.get records id)

-- the numbers of each record are in range
abbrev pub RecordsAreInRange : Records → Type 0
RecordsAreInRange records = (id rank content : ℕ) → finite.get records id ≡ Some (rank, content)
    → IsId id × IsRank rank × (content ≤ GREATEST_DATA)

-- the words stand for these records, whose numbers are in range
pub record Stands (shape : RecordShape) (words : List ℕ) (records : Records) : Type 0 where
  pub trees : Trees
  pub parts : HasTrees shape words trees
  pub held : HoldRecords trees records
  pub range : RecordsAreInRange records

-- the words stand for some records
abbrev pub IsGoodFor : RecordShape → List ℕ → Type 0
IsGoodFor shape words = (records : Records) × Stands shape words records
