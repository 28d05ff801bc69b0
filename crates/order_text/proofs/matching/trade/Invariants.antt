use Rattle.order_text.proofs.Trading.{TradedTo}
use Rattle.order_text.proofs.matching.trade.Given as goal

-- the partners so far were served
abbrev pub invariant-loop-partner : goal.invariant-loop-partner
invariant-loop-partner l = TradedTo l.order.quantity l.served.items l.partner-index l.trades l.left
