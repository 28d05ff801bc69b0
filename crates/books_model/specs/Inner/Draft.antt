-- The books before a script, and as its operations so far leave them.
use Rattle.std.specs.Prelude.{◌≡◌, ℕ, ◌≤◌, Option, Some, refl, unwrap_or}
use Rattle.std.specs.Coded.{Coded, code_by, coded×}
use Rattle.std.specs.FinMap as map
use Rattle.books_model.specs.declared.draft.Side.{Side}
use Rattle.books_model.specs.declared.limits.TheConstants.{GREATEST_CASH, GREATEST_QUANTITY}
use Rattle.books_model.specs.declared.overlay.Changes.{Changes}
use Rattle.books_model.specs.Books.{ClearingBooks, used}
use Rattle.books_model.specs.Ranges.{AreInRange}
use Rattle.books_model.specs.Inner.Codes.{books_code}
use Rattle.books_model.specs.Inner.Changes.{set_at, changed_books, AreChangesOf}

-- the books before a script, and as its operations so far leave them
pub record Drafted : Type 0 where
  pub before : ClearingBooks
  pub after : ClearingBooks

-- a draft is stored as the pair of its parts
abbrev pub drafted_code : Coded Drafted
drafted_code = code_by (ClearingBooks × ClearingBooks) (coded× books_code books_code) (λ d. (d.before, d.after))
    (λ p. record { before = p.0; after = p.1 }) (λ _. refl)

-- changes of these books, which leave them in range with so many blocks used
pub record IsDraftOf (books : ClearingBooks) (c : Changes) (count : ℕ) : Type 0 where
  pub before : AreInRange books
  pub known : AreChangesOf books c
  pub counted : count ≡ used (changed_books books c)
  pub after : AreInRange (changed_books books c)

-- the account of a side of a trade is there, with this cash, and holds this much of the instrument; both are in range
pub record IsSideOf (books : ClearingBooks) (instrument : ℕ) (side : Side) : Type 0 where
  pub cash : map.get books.accounts side.account ≡ Some side.cash
  pub held : map.get books.positions (side.account, instrument) ≡ side.held
  pub cash_range : side.cash ≤ GREATEST_CASH
  pub held_range : unwrap_or side.held 0 ≤ GREATEST_QUANTITY

-- the account has this cash, or is not there
abbrev pub set_account : ClearingBooks → ℕ → Option ℕ → ClearingBooks
set_account books a now = record books { accounts = set_at books.accounts a now }

-- the account holds this much of the instrument, or has no such position
abbrev pub set_position : ClearingBooks → ℕ → ℕ → Option ℕ → ClearingBooks
set_position books a i now = record books { positions = set_at books.positions (a, i) now }

-- the instrument has this price, or none
abbrev pub set_price : ClearingBooks → ℕ → Option ℕ → ClearingBooks
set_price books i now = record books { prices = set_at books.prices i now }
