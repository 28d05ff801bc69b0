use Rattle.order_text.proofs.Closings.{printed_by_number}
use Rattle.order_text.proofs.laws.orders_are_printed_by_number.Goals as goal

pub returns : goal.returns
returns c = printed_by_number
