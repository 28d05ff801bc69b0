use Rattle.twoplsf.proofs.Common.{Err, ap, ◌∙◌, IfOk-weaker, SpellsRecords, IsRecordFault, IsRecordsRunOf}
use Rattle.twoplsf.proofs.Serving.{refusing}
use Rattle.twoplsf.proofs.Served.{no_records}
use Rattle.twoplsf.proofs.records.records_answer.Goals as goal

pub returns-in-Err-Line : goal.returns-in-Err-Line
returns-in-Err-Line g c =
    let line = c.in-Err-Line.line in let why = c.in-Err-Line.why in let bytes = c.args.bytes.now in
    let first = c.read_records.ensures.refused line why (c.in-Err-Line.is ∙ ap Err c.in-Err-Line.field-0-is) in
    IfOk-weaker c.refusal.result _ _
    (refusing SpellsRecords IsRecordFault (IsRecordsRunOf c.args.workers) bytes line why first (no_records bytes line why first)) c.refusal.ensures
