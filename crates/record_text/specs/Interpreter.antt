-- The sequential interpreter of records: what a script replies, and the records that it leaves.
use Rattle.std.specs.Prelude.{ℕ, not, ◌&&◌, if◌then◌else◌, List, Option, Some, None}
use Rattle.std.specs.FinMap as finite
use Rattle.record_text.specs.declared.script.RecordOp.{RecordOp}
use Rattle.record_text.specs.declared.script.RecordOp.TheVariants as op
use Rattle.record_text.specs.declared.reply.RecordValue.{RecordValue}
use Rattle.record_text.specs.declared.reply.RecordValue.TheVariants as value
use Rattle.record_text.specs.Replies.{RecordReply}
use Rattle.record_text.specs.Records.{Records, ids_from, is_store_full}
use Rattle.books_report.specs.Stores.Interpreter.{Step, outcome_of}
use Rattle.books_report.specs.Stores.Interpreter.Step.{Gives, Absent, Full}

-- what is done with the record that is there, if it is
abbrev pub with_record : Option (ℕ × ℕ) → (ℕ × ℕ → Step RecordValue Records) → Step RecordValue Records
with_record None next = Absent
with_record (Some stored) next = next stored

-- one case for each operation
abbrev pub record_step_of : ℕ → RecordOp → Records → Step RecordValue Records
record_step_of blocks (op.Put id rank content) records =
    if not (finite.contains_key records id) && is_store_full blocks records then Full
    else Gives (if finite.contains_key records id then value.Old else value.New) (finite.insert records id (rank, content))
record_step_of blocks (op.Remove id) records =
    with_record (finite.get records id) (λ stored. Gives value.Gone (finite.remove records id))
record_step_of blocks (op.Find id) records =
    with_record (finite.get records id) (λ stored. Gives (value.Found stored.0 stored.1) records)
record_step_of blocks (op.Ranked rank most) records = Gives (value.Ids (ids_from rank most records)) records

-- what a script replies, and the records that it leaves, if there are so many blocks
abbrev pub record_outcome_of : List RecordOp → Records → ℕ → RecordReply × Records
record_outcome_of script records blocks = outcome_of (record_step_of blocks) script records
