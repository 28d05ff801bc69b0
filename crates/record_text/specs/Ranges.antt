-- The ranges of sizes, of the numbers in records, and of the numbers in scripts.
use Rattle.std.specs.Prelude.{ℕ, ◌≤◌, List, length, All}
use Rattle.books_model.specs.Ranges.{IsWithin}
use Rattle.record_text.specs.declared.limits.TheConstants.{LEAST_BLOCKS, MOST_BLOCKS, GREATEST_ID, GREATEST_RANK, GREATEST_DATA, MOST_LISTED, MOST_OPERATIONS}
use Rattle.record_text.specs.declared.script.RecordOp.{RecordOp}
use Rattle.record_text.specs.declared.script.RecordOp.TheVariants as op
use Rattle.record_text.specs.Records.{RecordStore, blocks_of}

abbrev pub IsBlockCount : ℕ → Type 0
IsBlockCount blocks = IsWithin LEAST_BLOCKS MOST_BLOCKS blocks

abbrev pub IsId : ℕ → Type 0
IsId id = IsWithin 1 GREATEST_ID id

abbrev pub IsRank : ℕ → Type 0
IsRank rank = IsWithin 1 GREATEST_RANK rank

-- the numbers of an operation are in their ranges
abbrev pub IsRecordOp : RecordOp → Type 0
IsRecordOp (op.Put id rank content) = IsId id × IsRank rank × (content ≤ GREATEST_DATA)
IsRecordOp (op.Remove id) = IsId id
IsRecordOp (op.Find id) = IsId id
IsRecordOp (op.Ranked rank most) = IsRank rank × IsWithin 1 MOST_LISTED most

-- a script that a store can be given: not too many operations, and each number in its range
pub record IsRecordScript (script : List RecordOp) : Type 0 where
  pub few : length script ≤ MOST_OPERATIONS
  pub each : All IsRecordOp script

-- the blocks are in their range, and enough for the records
pub record HasRoom (store : RecordStore) : Type 0 where
  pub blocks : IsBlockCount store.blocks
  pub enough : blocks_of store.records ≤ store.blocks
