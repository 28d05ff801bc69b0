-- An input of a record store: the blocks of the store, which begins empty, and callers with their scripts.
use Rattle.std.specs.Prelude.{ℕ, List}
use Rattle.record_text.specs.declared.script.RecordOp.{RecordOp}
use Rattle.record_text.specs.Ranges.{IsBlockCount, IsRecordScript}
use Rattle.script_reader.specs.Gathered.{CallerOf, AreCallers}

-- the blocks, and the callers in the order in which they were first seen
pub record StoreInput : Type 0 where
  pub blocks : ℕ
  pub callers : List (CallerOf (List RecordOp))

-- an input that the grammar can give
pub record IsStoreInput (input : StoreInput) : Type 0 where
  pub blocks : IsBlockCount input.blocks
  pub callers : AreCallers IsRecordScript input.callers
