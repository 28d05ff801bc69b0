-- The two sides of a trade, as they are found and as they are left.
use Rattle.std.specs.Prelude.{◌≡◌, ℕ, ◌≤◌, Bool, not, if◌then◌else◌, List, Option, Some, None, IsSome}
use Rattle.std.specs.FinMap as map
use Rattle.books_model.specs.declared.limits.TheConstants.{GREATEST_CASH, GREATEST_QUANTITY}
use Rattle.books_model.specs.Books.{ClearingBooks, position_of, put_cash}
use Rattle.books_model.specs.Interpreter.{put_position}
use Rattle.txn_books.specs.declared.shape.BooksShape.{BooksShape}
use Rattle.txn_books.specs.declared.trading.Found.{Found}
use Rattle.txn_books.specs.declared.trading.Side.{Side}
use Rattle.txn_books.specs.Standing.{Stands}
use Rattle.txn_books.specs.Access.{lacks_position_room}

-- an account's side: its cash, and what it holds of the instrument
abbrev pub side_with : ClearingBooks → ℕ → ℕ → Option ℕ → Option Side
side_with books a i None = None
side_with books a i (Some cash) = Some (record { account = a; cash = cash; held = position_of books a i })

-- if the account is there
abbrev pub side_of : ClearingBooks → ℕ → ℕ → Option Side
side_of books a i = side_with books a i (map.get books.accounts a)

-- the side that was found, if one was
abbrev pub side_in : Option Found → Option Side
side_in None = None
side_in (Some found) = Some found.side

-- its numbers are in range
pub record IsSideInRange (side : Side) : Type 0 where
  pub cash : side.cash ≤ GREATEST_CASH
  pub held : side.held ≤ GREATEST_QUANTITY

-- both accounts are there, the instrument has a price, and the seller has a position in it
pub record MayExchange (i : ℕ) (buys sells : Side) (books : ClearingBooks) : Type 0 where
  pub buyer : IsSome (map.get books.accounts buys.account)
  pub seller : IsSome (map.get books.accounts sells.account)
  pub price : IsSome (map.get books.prices i)
  pub held : IsSome (map.get books.positions (sells.account, i))

-- the seller holds what its side says
abbrev pub sold : ℕ → Side → ClearingBooks → ClearingBooks
sold i sells books = put_position books sells.account i sells.held

-- both hold what their sides say, and have the cash
abbrev pub exchanged : ℕ → Side → Side → ClearingBooks → ClearingBooks
exchanged i buys sells books =
    put_cash (put_cash (put_position (sold i sells books) buys.account i buys.held) buys.account buys.cash)
    sells.account sells.cash

-- from state to state: both sides are exchanged, or the seller's position alone if the buyer's then lacks the room;
-- the answer says whether it has it
pub record Exchanges (shape : BooksShape) (i : ℕ) (buys sells : Side) (had_room : Bool)
    (old new : List ℕ) : Type 0 where
  pub answer : (books : ClearingBooks) → Stands shape old books
      → had_room ≡ not (lacks_position_room buys.account i buys.held (sold i sells books))
  pub left : (books : ClearingBooks) → Stands shape old books
      → Stands shape new (if had_room then exchanged i buys sells books else sold i sells books)
