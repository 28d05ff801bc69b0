use Rattle.twoplsf.proofs.Common.{◌≡◌, ◌∙◌, arith, IfOk-at_ok, RESTARTS_BELOW}
use Rattle.books_report.specs.declared.check.Checked.{Checked}
use Rattle.books_report.specs.declared.check.Checked.TheVariants.{Agrees}
use Rattle.twoplsf.proofs.Days.{day_output}
use Rattle.twoplsf.proofs.Drills.{output_below}
use Rattle.twoplsf.proofs.agreement.agree.Goals as goal

pub unreachable-requires : goal.unreachable-requires
unreachable-requires c =
    let input = c.args.input.now in
    let text = c.deref.result.now in
    let output = day_output input c.args.workers c.args.day.now c.requires.day text (c.deref.ensures.value ∙ c.in_ok-output.ensures) in
    let agrees = c.check_text.ensures.output (output_below input c.args.workers RESTARTS_BELOW text (omega (arith, c.requires.workers)) output) in
    let same : c.in_ok-check_text.field-0 ≡ Agrees = IfOk-at_ok (λ (checked : Checked). checked ≡ Agrees) c.in_ok-check_text.was agrees in
    cc
