use Rattle.twoplsf.proofs.Drills.{summary_is}
use Rattle.twoplsf.proofs.making.drill.Goals as goal

pub returns-clause-text : goal.returns-clause-text
returns-clause-text g c =
    let plan = c.args.plan in
    summary_is plan.seed plan.callers plan.scripts c.args.workers c.in_ok-day.day
    (rw c.in_ok-input.ensures at c.in_ok-day.ensures) c.made_days.ensures.cash c.made_days.ensures.quantities c.requires.plan
    c.in_ok-text.text.items (rw c.in_ok-input.ensures at c.in_ok-text.ensures)
