use Rattle.order_text.proofs.Common.{arith}
use Rattle.order_text.proofs.Trading.{all_served, none_left}
use Rattle.order_text.proofs.matching.trade.Goals.{else-loop-partner-test, then-loop-partner-test+then-left-eq0}
use Rattle.order_text.proofs.matching.trade.Goals as goal

pub returns-clause-trades : goal.returns-clause-trades
returns-clause-trades c = let l = c.loop-partner in elim c.loop-partner-test.branch [
  | else-loop-partner-test w ↦ all_served c.args.order.now.quantity c.args.served.now.items l.partner-index l.trades l.left l.invariant (omega arith)
  | then-loop-partner-test+then-left-eq0 w ↦
      none_left c.args.order.now.quantity c.args.served.now.items l.partner-index l.trades l.left l.invariant w.if-left-eq0.true
]
