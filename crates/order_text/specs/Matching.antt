-- Matching by price and then by arrival: whom an incoming order trades with, what is traded, and what rests after it.
use Rattle.std.specs.Prelude.{ℕ, ◌-◌, Bool, not, ◌&&◌, ◌==◌, nat_le, nat_lt, if◌then◌else◌, min, List, [], ◌∷◌, map, filter, find, sum_by, Option, Some, None}
use Rattle.std.specs.declared.cmp.Ordering.{Ordering}
use Rattle.std.specs.Ordering.{nat_cmp, ordering_then, is_le}
use Rattle.order_text.specs.declared.order.Resting.{Resting}
use Rattle.order_text.specs.declared.reply.Trade.{Trade}
use Rattle.order_text.specs.Orders.{is_on}

-- whether an order allows a price: a buy pays at most its own, a sell takes at least its own
abbrev pub allows : Resting → ℕ → Bool
allows order price = if order.buys then nat_le price order.price else nat_le order.price price

-- whether a resting order is of an incoming one's instrument, on the other side, and at a price that it allows
abbrev pub may_trade : Resting → Resting → Bool
may_trade order r = is_on order.instrument (not order.buys) r && allows order r.price

-- which of two orders is served first: of buys the one with the higher price, of sells that with the lower, and at one
-- price that with the lower number
abbrev pub serving_cmp : Bool → Resting → Resting → Ordering
serving_cmp buys x y =
    ordering_then (if buys then nat_cmp y.price x.price else nat_cmp x.price y.price) (nat_cmp x.number y.number)

-- a list in an order, by insertion: each item is put in front of the first that it does not stand behind
abbrev pub put_in : {X : Type 0} → (X → X → Ordering) → X → List X → List X
put_in cmp x [] = x ∷ []
put_in cmp x (y ∷ ys) = if is_le (cmp x y) then x ∷ y ∷ ys else y ∷ put_in cmp x ys

abbrev pub in_order : {X : Type 0} → (X → X → Ordering) → List X → List X
in_order cmp [] = []
in_order cmp (x ∷ xs) = put_in cmp x (in_order cmp xs)

-- the partners of an incoming order, as they are served
abbrev pub partners : Resting → List Resting → List Resting
partners order orders = in_order (serving_cmp (not order.buys)) (filter (may_trade order) orders)

-- the trade of a partner with an order of which so much is left: the smaller of both quantities, at the partner's price
abbrev pub trade_with : ℕ → Resting → Trade
trade_with left partner =
    record { order = partner.number; price = partner.price; quantity = min partner.quantity left }

-- the trades down the partners, as long as something is left
abbrev pub trades_down : ℕ → List Resting → List Trade
trades_down left [] = []
trades_down left (partner ∷ others) =
    if left == 0 then []
    else trade_with left partner ∷ trades_down (left - min partner.quantity left) others

-- how much was traded in all
abbrev pub volume : List Trade → ℕ
volume trades = sum_by (λ t. t.quantity) trades

-- how much the order with this number traded
abbrev pub quantity_of : Option Trade → ℕ
quantity_of None = 0
quantity_of (Some t) = t.quantity

abbrev pub traded_by : ℕ → List Trade → ℕ
traded_by number trades = quantity_of (find (λ t. t.order == number) trades)

-- a resting order after trades, and all of them: who is filled goes
abbrev pub after_trades : List Trade → Resting → Resting
after_trades trades r = record r { quantity = r.quantity - traded_by r.number trades }

abbrev pub has_quantity : Resting → Bool
has_quantity r = nat_lt 0 r.quantity

abbrev pub orders_after : List Trade → List Resting → List Resting
orders_after trades orders = filter has_quantity (map (after_trades trades) orders)

-- what an incoming order comes to: its trades, what is left of it, and the other orders that rest then
pub record Matched : Type 0 where
  pub trades : List Trade
  pub left : ℕ
  pub orders : List Resting

abbrev pub matched_by : Resting → List Trade → List Resting → Matched
matched_by order trades orders =
    record { trades = trades; left = order.quantity - volume trades; orders = orders_after trades orders }

abbrev pub match_of : Resting → List Resting → Matched
match_of order orders = matched_by order (trades_down order.quantity (partners order orders)) orders

-- what rests of an order of which so much is left
abbrev pub rest_of : Resting → ℕ → List Resting
rest_of order left = if left == 0 then [] else record order { quantity = left } ∷ []
