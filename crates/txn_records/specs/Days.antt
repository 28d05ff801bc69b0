-- What all workers of a record store did together.
use Rattle.std.specs.Prelude.{List}
use Rattle.word_table.specs.Closing.{ClosedView}
use Rattle.txn_commit.specs.declared.lists.Done.{Done}
use Rattle.txn_stores.specs.declared.run.StoreDay.{StoreDay}
use Rattle.txn_stores.specs.Days.{IsDay}
use Rattle.record_text.specs.declared.reply.RecordValue.{RecordValue}
use Rattle.record_text.specs.Input.{StoreInput}
use Rattle.record_text.specs.Output.{record_store}
use Rattle.record_text.specs.Replies.{RecordReply}
use Rattle.txn_records.specs.declared.shape.RecordShape.{RecordShape}
use Rattle.txn_records.specs.Standing.{Stands}

-- a day of the input, over a table that is closed: the scripts that were run are a journal with the replies of the
-- interpreter, run down it from an empty store, and before and after each the words stand for its records
abbrev pub IsRecordDay : StoreInput → ClosedView RecordShape → List (Done RecordReply) → Type 0
IsRecordDay input = IsDay (record_store input) Stands

-- what a day came to
abbrev pub RecordDay : Type 0
RecordDay = StoreDay RecordValue RecordShape
