-- Clearing books: sizes, three finite maps and a queue.
use Rattle.std.specs.Prelude.{◌≡◌, ℕ, ◌+◌, List, [], ◌∷◌, ◌++◌, unwrap_or}
use Rattle.std.specs.declared.cmp.Ordering.{Ordering}
use Rattle.std.specs.Ordering.{nat_cmp, ordering_then}
use Rattle.std.specs.FinMap as map

-- the order of positions: by account, and then by instrument
abbrev pub position_cmp : ℕ × ℕ → ℕ × ℕ → Ordering
position_cmp x y = ordering_then (nat_cmp x.0 y.0) (nat_cmp x.1 y.1)

-- the books as contracts see them
pub record ClearingBooks : Type 0 where
  pub blocks : ℕ
  pub instruments : ℕ
  pub ring : ℕ
  -- the cash of each account
  pub accounts : map.FinMap nat_cmp ℕ
  -- the quantity that each account holds of each instrument
  pub positions : map.FinMap position_cmp ℕ
  -- the price of each instrument that has one
  pub prices : map.FinMap nat_cmp ℕ
  -- the queue of margin calls, front first: an account and its shortfall
  pub calls : List (ℕ × ℕ)

-- books of these sizes with nothing in them
abbrev pub empty_books : ℕ → ℕ → ℕ → ClearingBooks
empty_books blocks instruments ring = record {
  blocks = blocks;
  instruments = instruments;
  ring = ring;
  accounts =
      map.empty;
  positions = map.empty;
  prices = map.empty;
  calls = [];
}

-- how many blocks are used: each account, position and price takes one
abbrev pub used : ClearingBooks → ℕ
used books = map.len books.accounts + map.len books.positions + map.len books.prices

-- the cash of an account, or 0
abbrev pub cash_of : ClearingBooks → ℕ → ℕ
cash_of books a = unwrap_or (map.get books.accounts a) 0

-- what an account holds of an instrument, or 0
abbrev pub position_of : ClearingBooks → ℕ → ℕ → ℕ
position_of books a i = unwrap_or (map.get books.positions (a, i)) 0

-- the price of an instrument, or 0
abbrev pub price_of : ClearingBooks → ℕ → ℕ
price_of books i = unwrap_or (map.get books.prices i) 0

-- the account has this cash
abbrev pub put_cash : ClearingBooks → ℕ → ℕ → ClearingBooks
put_cash books a cash = record books { accounts = map.insert books.accounts a cash }

-- the instrument has this price
abbrev pub put_price : ClearingBooks → ℕ → ℕ → ClearingBooks
put_price books i price = record books { prices = map.insert books.prices i price }

-- the account holds this much of the instrument
abbrev pub put_quantity : ClearingBooks → ℕ → ℕ → ℕ → ClearingBooks
put_quantity books a i quantity = record books { positions = map.insert books.positions (a, i) quantity }

-- a margin call joins the queue's back
abbrev pub put_call : ClearingBooks → ℕ → ℕ → ClearingBooks
put_call books a shortfall = record books { calls = books.calls ++ (a, shortfall) ∷ [] }

-- the books have as many blocks and instruments, and as long a queue, as before
pub record HaveSameSizes (old new : ClearingBooks) : Type 0 where
  pub blocks : new.blocks ≡ old.blocks
  pub instruments : new.instruments ≡ old.instruments
  pub ring : new.ring ≡ old.ring
