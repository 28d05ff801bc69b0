-- A limit order book: the resting orders, which go by their numbers, and the best prices.
use Rattle.std.specs.Prelude.{ℕ, ◌*◌, Bool, true, false, not, ◌&&◌, ◌==◌, if◌then◌else◌, min, max, List, [], length, map, filter, find, Option}
use Rattle.std.specs.List.{reduce}
use Rattle.std.specs.Option.{unwrap_or}
use Rattle.std.specs.Ordering.{nat_cmp}
use Rattle.std.specs.declared.cmp.Ordering.{Ordering}
use Rattle.order_text.specs.declared.order.Resting.{Resting}

-- a book: its blocks, the last order number, and the resting orders by rising number
pub record OrderBook : Type 0 where
  pub blocks : ℕ
  pub last : ℕ
  pub orders : List Resting

-- a book in which no order rests or ever rested
abbrev pub empty_book : ℕ → OrderBook
empty_book blocks = record { blocks = blocks; last = 0; orders = [] }

-- how many blocks resting orders take: two each
abbrev pub blocks_of : List Resting → ℕ
blocks_of orders = 2 * length orders

-- orders by their numbers
abbrev pub by_number : Resting → Resting → Ordering
by_number x y = nat_cmp x.number y.number

-- the resting order with this number, and all others
abbrev pub order_at : ℕ → List Resting → Option Resting
order_at number orders = find (λ r. r.number == number) orders

abbrev pub all_but : ℕ → List Resting → List Resting
all_but number orders = filter (λ r. not (r.number == number)) orders

-- whether an order is of this instrument, and a buy or a sell
abbrev pub is_on : ℕ → Bool → Resting → Bool
is_on instrument buys r = (r.instrument == instrument) && (if buys then r.buys else not r.buys)

-- the prices of the resting buys, or of the resting sells, of an instrument
abbrev pub prices_on : ℕ → Bool → List Resting → List ℕ
prices_on instrument buys orders = map (λ r. r.price) (filter (is_on instrument buys) orders)

-- the highest price of the resting buys of an instrument, and the lowest of its resting sells, or 0 if there is none
abbrev pub best_buy : ℕ → List Resting → ℕ
best_buy instrument orders = unwrap_or (reduce max (prices_on instrument true orders)) 0

abbrev pub best_sell : ℕ → List Resting → ℕ
best_sell instrument orders = unwrap_or (reduce min (prices_on instrument false orders)) 0
