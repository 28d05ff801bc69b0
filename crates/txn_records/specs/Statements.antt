-- What the laws of records on words say.
use Rattle.std.specs.Prelude.{◌≡◌, ℕ, ◌+◌, ◌<◌, ◌↔◌, true, List}
use Rattle.std.specs.FinSet as set
use Rattle.record_text.specs.Records.{Records, blocks_of, is_store_full}
use Rattle.txn_records.specs.declared.shape.RecordShape.{RecordShape}
use Rattle.txn_records.specs.Standing.{Stands}

-- words stand for one map of records at most
abbrev pub OneRecordMap : Type 0
OneRecordMap = (shape : RecordShape) (words : List ℕ) (records others : Records) → Stands shape words records
    → Stands shape words others → records ≡ others

-- free blocks and those of the records are all blocks
abbrev pub FreeBlocksCounted : Type 0
FreeBlocksCounted = (shape : RecordShape) (words : List ℕ) (records : Records) (stand : Stands shape words records)
    → set.len stand.parts.free + blocks_of records ≡ shape.blocks

-- no two blocks are free exactly if the blocks are not enough for a record more
abbrev pub FullWithoutTwo : Type 0
FullWithoutTwo = (shape : RecordShape) (words : List ℕ) (records : Records) (stand : Stands shape words records)
    → (set.len stand.parts.free < 2) ↔ (is_store_full shape.blocks records ≡ true)
