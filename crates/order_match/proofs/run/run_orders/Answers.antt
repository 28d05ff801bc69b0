use Rattle.order_match.proofs.Common.{IfOk-weaker}
use Rattle.order_match.proofs.Days.{day_apart}
use Rattle.order_match.proofs.run.run_orders.Goals as goal

pub returns-clause-day : goal.returns-clause-day
returns-clause-day g c =
    IfOk-weaker c.run_store.result _ _
    (λ day told. day_apart c.args.input.now day.closed day.done.items c.callers-callers.ensures.valid told) c.run_store.ensures.day
