-- Laws of the language of records.
use Rattle.std.specs.Prelude.{◌≡◌, ◌≢◌, ◌↔◌, ℕ, ◌≤◌, ◌==◌, if◌then◌else◌, List, Option, Some, None}
use Rattle.std.specs.FinMap as finite
use Rattle.record_text.specs.declared.script.RecordOp.{RecordOp}
use Rattle.record_text.specs.declared.reply.RecordValue.{RecordValue}
use Rattle.books_report.specs.declared.stores.reply.StoreReply.TheVariants as reply
use Rattle.record_text.specs.Records.{Records, blocks_of, index_of}
use Rattle.record_text.specs.Interpreter.{record_outcome_of}
use Rattle.record_text.specs.Ranges.{IsRecordOp}
use Rattle.record_text.specs.Language.{record_language}
use Rattle.record_text.specs.Grammar.{IsRecordFault, IsRecordReason}
use Rattle.record_text.specs.Output.{AreByRank, printed_of}
use Rattle.script_reader.specs.declared.fault.Fault.{Fault}
use Rattle.script_reader.specs.ListLanguage.{IsOperationIn}

-- the data of a record, if it has this rank
abbrev pub data_at_rank : ℕ → Option (ℕ × ℕ) → Option ℕ
data_at_rank rank None = None
data_at_rank rank (Some stored) = if stored.0 == rank then Some stored.1 else None

-- the index has the data of each record at its rank, and nothing else
abbrev pub IndexHasEach : Type 0
IndexHasEach = (records : Records) (rank id : ℕ)
    → finite.get (index_of records) (rank, id) ≡ data_at_rank rank (finite.get records id)

-- a script that is not done leaves the records
abbrev pub RefusedChangesNoRecord : Type 0
RefusedChangesNoRecord = (script : List RecordOp) (records : Records) (blocks : ℕ)
    → ((values : List RecordValue) → (record_outcome_of script records blocks).0 ≢ reply.Done values)
    → (record_outcome_of script records blocks).1 ≡ records

-- records that have their blocks have them after every script
abbrev pub RoomIsKept : Type 0
RoomIsKept = (script : List RecordOp) (records : Records) (blocks : ℕ) → blocks_of records ≤ blocks
    → blocks_of (record_outcome_of script records blocks).1 ≤ blocks

-- the ranges of an operation's numbers are those of its line, in every text
abbrev pub RangesAreThoseOfLines : Type 0
RangesAreThoseOfLines = (sizes : List ℕ) (o : RecordOp) → IsRecordOp o ↔ IsOperationIn record_language sizes o

-- a fault of a text has one of five reasons
abbrev pub FiveReasons : Type 0
FiveReasons = (text : List ℕ) (number : ℕ) (why : Fault) → IsRecordFault text number why → IsRecordReason why

-- the records of a store are printed by rank and then by identifier
abbrev pub PrintedByRank : Type 0
PrintedByRank = (stored : Records) → AreByRank (printed_of stored)
