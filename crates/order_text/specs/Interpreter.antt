-- The sequential interpreter of a limit order book: what a script replies, and the book that it leaves.
use Rattle.std.specs.Prelude.{ℕ, ◌+◌, Bool, true, false, ◌&&◌, ◌||◌, ◌==◌, nat_lt, if◌then◌else◌, List, ◌++◌, Option, Some, None}
use Rattle.order_text.specs.declared.limits.TheConstants.{GREATEST_ORDER}
use Rattle.order_text.specs.declared.order.Resting.{Resting}
use Rattle.order_text.specs.declared.script.OrderOp.{OrderOp}
use Rattle.order_text.specs.declared.script.OrderOp.TheVariants as op
use Rattle.order_text.specs.declared.reply.OrderValue.{OrderValue}
use Rattle.order_text.specs.declared.reply.OrderValue.TheVariants as value
use Rattle.order_text.specs.Replies.{OrderReply}
use Rattle.order_text.specs.Orders.{OrderBook, all_but, best_buy, best_sell, blocks_of, order_at}
use Rattle.order_text.specs.Matching.{Matched, match_of, rest_of}
use Rattle.books_report.specs.Stores.Interpreter.{Step, outcome_of}
use Rattle.books_report.specs.Stores.Interpreter.Step.{Gives, Absent, Full}

-- an incoming order, under the next number, as it would rest
abbrev pub incoming : OrderBook → Bool → ℕ → ℕ → ℕ → Resting
incoming book buys instrument price quantity = record {
  number = book.last + 1;
  instrument = instrument;
  buys = buys;
  price = price;
  quantity = quantity;
}

-- there is no room if no number is left, or if something is left of the order and no blocks are, after its trades
abbrev pub has_no_room : OrderBook → Matched → Bool
has_no_room book matched =
    (book.last == GREATEST_ORDER) || (nat_lt 0 matched.left && nat_lt book.blocks (blocks_of matched.orders + 2))

-- an order has entered: it has its number, and what is left of it rests
abbrev pub entered : Resting → Matched → OrderBook → OrderBook
entered order matched book =
    record book { last = order.number; orders = matched.orders ++ rest_of order matched.left }

abbrev pub enter : Resting → Matched → OrderBook → Step OrderValue OrderBook
enter order matched book =
    if has_no_room book matched then Full
    else Gives (value.Entered order.number matched.trades) (entered order matched book)

abbrev pub enter_next : OrderBook → Resting → Step OrderValue OrderBook
enter_next book order = enter order (match_of order book.orders) book

-- what is done with the order that rests, if it does
abbrev pub with_order : Option Resting → (Resting → Step OrderValue OrderBook) → Step OrderValue OrderBook
with_order None next = Absent
with_order (Some order) next = next order

-- one case for each operation
abbrev pub order_step_of : OrderOp → OrderBook → Step OrderValue OrderBook
order_step_of (op.Buy instrument price quantity) book = enter_next book (incoming book true instrument price quantity)
order_step_of (op.Sell instrument price quantity) book = enter_next book (incoming book false instrument price quantity)
order_step_of (op.Cancel number) book =
    with_order (order_at number book.orders)
    (λ order. Gives (value.Cancelled order.quantity) (record book { orders = all_but number book.orders }))
order_step_of (op.Best instrument) book =
    Gives (value.Prices (best_buy instrument book.orders) (best_sell instrument book.orders)) book

-- what a script replies, and the book that it leaves
abbrev pub order_outcome_of : List OrderOp → OrderBook → OrderReply × OrderBook
order_outcome_of script book = outcome_of order_step_of script book
