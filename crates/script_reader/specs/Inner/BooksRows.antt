-- Rows of books: what a line adds to them.
use Rattle.std.specs.Prelude.{◌≡◌, ◌<◌, ◌≤◌, [], ◌∷◌, ◌++◌, None, IsSome, length}
use Rattle.std.specs.FinMap as map
use Rattle.books_model.specs.declared.limits.TheConstants.{GREATEST_CASH, GREATEST_PRICE, GREATEST_QUANTITY}
use Rattle.books_model.specs.Books.{ClearingBooks, put_cash, put_price, put_quantity, put_call, used}
use Rattle.books_model.specs.Ranges.{IsWithin, IsAccountNumber, IsInstrumentOf, IsCall}
use Rattle.script_reader.specs.declared.books.version.Version.{Version}
use Rattle.script_reader.specs.declared.books.Row.{Row}
use Rattle.script_reader.specs.declared.books.Row.TheVariants as row
use Rattle.script_reader.specs.Versions.{greatest_cash}
use Rattle.script_reader.specs.Forms.{Words}
use Rattle.script_reader.specs.Inner.LinesAsWords.{books_words}

-- the books with a row more
abbrev pub with_row : ClearingBooks → Row → ClearingBooks
with_row books (row.Account a cash) = put_cash books a cash
with_row books (row.Price i price) = put_price books i price
with_row books (row.Position a i quantity) = put_quantity books a i quantity
with_row books (row.Call a shortfall) = put_call books a shortfall

-- the row is in its ranges, is none that the books have, and there is room for it
abbrev pub Fits : ClearingBooks → Row → Type 0
Fits books (row.Account a cash) =
    IsAccountNumber a × (cash ≤ GREATEST_CASH) × (map.get books.accounts a ≡ None) × (used books < books.blocks)
Fits books (row.Price i price) =
    IsInstrumentOf books i × IsWithin 1 GREATEST_PRICE price × (map.get books.prices i ≡ None)
    × (used books < books.blocks)
Fits books (row.Position a i quantity) =
    IsSome (map.get books.accounts a) × IsSome (map.get books.prices i) × IsWithin 1 GREATEST_QUANTITY quantity
    × (map.get books.positions (a, i) ≡ None) × (used books < books.blocks)
Fits books (row.Call a shortfall) = IsCall (a, shortfall) × (length books.calls < books.ring)

-- its cash is in the range of a text of the version
abbrev pub IsRowWithin : Version → Row → Type 0
IsRowWithin version (row.Account a cash) = cash ≤ greatest_cash version
IsRowWithin version _ = Unit {0}

-- the row that a line of a text gives to the books: it fits, and they are printed with the line behind their lines
pub record IsRow (version : Version) (books : ClearingBooks) (words : Words) (r : Row) : Type 0 where
  pub fits : Fits books r
  pub within : IsRowWithin version r
  pub lines : books_words version (with_row books r) ≡ books_words version books ++ words ∷ []
