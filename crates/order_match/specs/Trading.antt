-- What an order comes to that enters a book on words: with whom it trades, and how what is left of it rests.
use Rattle.std.specs.Prelude.{◌≡◌, ℕ, ◌+◌, not, ◌&&◌, nat_lt, if◌then◌else◌, Bool, true, List, [], ◌∷◌, ◌++◌, Option, Some, None}
use Rattle.order_text.specs.declared.limits.TheConstants.{GREATEST_ORDER}
use Rattle.order_text.specs.declared.order.Resting.{Resting}
use Rattle.order_text.specs.declared.reply.Trade.{Trade}
use Rattle.order_text.specs.Matching.{match_of, orders_after, rest_of}
use Rattle.order_text.specs.Orders.{OrderBook, blocks_of}
use Rattle.order_match.specs.declared.shape.OrderShape.{OrderShape}
use Rattle.order_match.specs.Standing.{HasParts, Stands, held_of}

-- the number of the next order, if one is left
abbrev pub next_number : ℕ → Option ℕ
next_number last = if nat_lt last GREATEST_ORDER then Some (last + 1) else None

-- a book after a trade of one of its orders
abbrev pub after_trade : Trade → OrderBook → OrderBook
after_trade trade book = record book { orders = orders_after (trade ∷ []) book.orders }

-- from state to state: an order came to these trades, and so much is left of it; the others rest as they do then
pub record MatchesOrder (shape : OrderShape) (order : Resting) (trades : List Trade) (left : ℕ)
    (old new : List ℕ) : Type 0 where
  pub trades_are : (book : OrderBook) → Stands shape old book → trades ≡ (match_of order book.orders).trades
  pub left_is : (book : OrderBook) → Stands shape old book → left ≡ (match_of order book.orders).left
  pub others_are : (book : OrderBook) → Stands shape old book
      → Stands shape new (record book { orders = (match_of order book.orders).orders })

-- from state to state: an order joined those that rest, or there are no two blocks for it; of what is left then nothing is
-- said
pub record PutsOrder (shape : OrderShape) (order : Resting) (had_room : Bool) (old new : List ℕ) : Type 0 where
  pub answer : (book : OrderBook) → Stands shape old book
      → had_room ≡ not (nat_lt book.blocks (blocks_of book.orders + 2))
  pub left : had_room ≡ true → (book : OrderBook) → Stands shape old book
      → HasParts shape new (held_of (record book { orders = book.orders ++ order ∷ [] }))

-- the same of an order of which it may be that nothing is left; then it needs no blocks
pub record RestsOrder (shape : OrderShape) (order : Resting) (had_room : Bool) (old new : List ℕ) : Type 0 where
  pub answer : (book : OrderBook) → Stands shape old book
      → had_room ≡ not (nat_lt 0 order.quantity && nat_lt book.blocks (blocks_of book.orders + 2))
  pub left : had_room ≡ true → (book : OrderBook) → Stands shape old book
      → HasParts shape new (held_of (record book { orders = book.orders ++ rest_of order order.quantity }))
