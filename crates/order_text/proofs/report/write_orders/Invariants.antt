use Rattle.order_text.proofs.Common.{◌≡◌, ◌++◌, string_bytes, flat_map}
use Rattle.std.proofs.Common.{take}
use Rattle.order_text.specs.Output.{order_line}
use Rattle.order_text.proofs.report.write_orders.Given as goal

-- the orders before this one are written
abbrev pub invariant-loop-order : goal.invariant-loop-order
invariant-loop-order l = string_bytes l.text ≡ string_bytes l.fn.text ++ flat_map order_line (take l.order-index l.closing)
