-- What an operation on words that stand for records comes to.
use Rattle.std.specs.Prelude.{ℕ, List}
use Rattle.books_report.specs.declared.stores.outcome.Outcome.{Outcome}
use Rattle.record_text.specs.declared.script.RecordOp.{RecordOp}
use Rattle.record_text.specs.declared.reply.RecordValue.{RecordValue}
use Rattle.record_text.specs.Interpreter.{record_step_of}
use Rattle.txn_stores.specs.Standing as stores
use Rattle.txn_records.specs.declared.shape.RecordShape.{RecordShape}
use Rattle.txn_records.specs.Standing.{Stands}

-- from words to words: the outcome is the interpreter's, and the words then stand for the records that its step leaves
abbrev pub MeetsStep : RecordShape → RecordOp → Outcome RecordValue → List ℕ → List ℕ → Type 0
MeetsStep shape = stores.MeetsStep (Stands shape) (record_step_of shape.blocks)
