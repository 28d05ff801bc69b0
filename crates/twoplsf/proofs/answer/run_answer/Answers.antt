use Rattle.twoplsf.proofs.Common.{Err, ap, ◌∙◌, inl, IfOk-weaker, IsFirstFault, Spells, IsRunOf}
use Rattle.twoplsf.proofs.Serving.{refusing}
use Rattle.twoplsf.proofs.Days.{day_output}
use Rattle.twoplsf.proofs.Served.{no_input}
use Rattle.twoplsf.proofs.answer.run_answer.Goals as goal

pub returns-in-Err-Line : goal.returns-in-Err-Line
returns-in-Err-Line g c =
    let line = c.in-Err-Line.line in let why = c.in-Err-Line.why in let bytes = c.args.bytes.now in
    let first = c.read_shared.ensures.refused line why (c.in-Err-Line.is ∙ ap Err c.in-Err-Line.field-0-is) in
    IfOk-weaker c.refusal.result _ _
    (refusing Spells IsFirstFault (IsRunOf c.args.workers) bytes line why first (no_input bytes line why first)) c.refusal.ensures

pub returns-in_ok-day-in-Ok : goal.returns-in_ok-day-in-Ok
returns-in_ok-day-in-Ok g c =
    let run = c.in_ok-day-in-Ok in
    inl (
      c.in-Ok.input,
      c.in-Ok.ensures.ok,
      (day_output c.in-Ok.input c.args.workers run.day run.ensures.day run.text.items run.ensures.text, run.ensures.day, run.ensures.text),
    )
