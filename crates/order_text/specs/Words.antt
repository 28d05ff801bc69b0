-- The words of values.
use Rattle.std.specs.Prelude.{ℕ, List, ◌∷◌, ◌++◌, codes}
use Rattle.std.specs.List.{flat_map}
use Rattle.order_text.specs.declared.words.TheConstants.{COMMA}
use Rattle.order_text.specs.declared.reply.Trade.{Trade}
use Rattle.order_text.specs.declared.reply.OrderValue.{OrderValue}
use Rattle.order_text.specs.declared.reply.OrderValue.TheVariants as value
use Rattle.script_reader.specs.Text.{number}

-- ORDER@PRICE*QUANTITY, and a comma in front of it
abbrev pub trade_word : Trade → List ℕ
trade_word t = number t.order ++ codes "@" ++ number t.price ++ codes "*" ++ number t.quantity

abbrev pub next_trade : Trade → List ℕ
next_trade t = COMMA ∷ trade_word t

-- the word of a value: an order's number and its trades, a quantity, or BUY:SELL
abbrev pub value_word : OrderValue → List ℕ
value_word (value.Entered order trades) = number order ++ flat_map next_trade trades
value_word (value.Cancelled quantity) = number quantity
value_word (value.Prices buy sell) = number buy ++ codes ":" ++ number sell
