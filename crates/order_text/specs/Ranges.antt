-- The ranges of sizes, of the numbers in books, and of the numbers in scripts.
use Rattle.std.specs.Prelude.{ℕ, ◌≤◌, List, length, All}
use Rattle.std.specs.List.Sorted.{IsStrictlySortedBy}
use Rattle.books_model.specs.Ranges.{IsWithin}
use Rattle.books_model.specs.declared.limits.TheConstants.{MOST_INSTRUMENTS, GREATEST_PRICE, GREATEST_QUANTITY, MOST_OPERATIONS}
use Rattle.order_text.specs.declared.limits.TheConstants.{LEAST_BLOCKS, MOST_BLOCKS, GREATEST_ORDER}
use Rattle.order_text.specs.declared.order.Resting.{Resting}
use Rattle.order_text.specs.declared.script.OrderOp.{OrderOp}
use Rattle.order_text.specs.declared.script.OrderOp.TheVariants as op
use Rattle.order_text.specs.Orders.{OrderBook, blocks_of, by_number}

abbrev pub IsBlockCount : ℕ → Type 0
IsBlockCount blocks = IsWithin LEAST_BLOCKS MOST_BLOCKS blocks

abbrev pub IsInstrumentCount : ℕ → Type 0
IsInstrumentCount instruments = IsWithin 1 MOST_INSTRUMENTS instruments

abbrev pub IsOrderNumber : ℕ → Type 0
IsOrderNumber number = IsWithin 1 GREATEST_ORDER number

-- instrument, price and quantity of an order, if there are so many instruments
pub record IsLimitOrder (instruments instrument price quantity : ℕ) : Type 0 where
  pub instrument_is : IsWithin 1 instruments instrument
  pub price_is : IsWithin 1 GREATEST_PRICE price
  pub quantity_is : IsWithin 1 GREATEST_QUANTITY quantity

-- the numbers of an operation are in their ranges
abbrev pub IsOrderOp : ℕ → OrderOp → Type 0
IsOrderOp instruments (op.Buy instrument price quantity) = IsLimitOrder instruments instrument price quantity
IsOrderOp instruments (op.Sell instrument price quantity) = IsLimitOrder instruments instrument price quantity
IsOrderOp instruments (op.Cancel number) = IsOrderNumber number
IsOrderOp instruments (op.Best instrument) = IsWithin 1 instruments instrument

-- a script that a book can be given: not too many operations, and each number in its range
pub record IsOrderScript (instruments : ℕ) (script : List OrderOp) : Type 0 where
  pub few : length script ≤ MOST_OPERATIONS
  pub each : All (IsOrderOp instruments) script

-- the numbers of a resting order are in their ranges
pub record IsRestingOrder (instruments : ℕ) (r : Resting) : Type 0 where
  pub number_is : IsOrderNumber r.number
  pub limits_are : IsLimitOrder instruments r.instrument r.price r.quantity

-- the blocks are enough for the resting orders, whose numbers rise and are none but those that were given
pub record HasRoom (book : OrderBook) : Type 0 where
  pub blocks_are : IsBlockCount book.blocks
  pub enough : blocks_of book.orders ≤ book.blocks
  pub rising : IsStrictlySortedBy by_number book.orders
  pub given : All (λ r. r.number ≤ book.last) book.orders
  pub last_is : book.last ≤ GREATEST_ORDER

-- a book of so many instruments
pub record IsBookOf (instruments : ℕ) (book : OrderBook) : Type 0 where
  pub room : HasRoom book
  pub instruments_are : IsInstrumentCount instruments
  pub each : All (IsRestingOrder instruments) book.orders
