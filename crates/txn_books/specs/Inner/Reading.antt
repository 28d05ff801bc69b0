-- What the calls inside a reading of books say: entries that are put into a map one after another, and into books.
use Rattle.std.specs.Prelude.{◌≡◌, ℕ, ◌+◌, ◌/◌, ◌%◌, Bool, List, [], ◌∷◌, None, map, filter, not, nat_lt}
use Rattle.std.specs.declared.cmp.Ordering.{Ordering}
use Rattle.std.specs.FinMap as entry_map
use Rattle.books_model.specs.declared.limits.TheConstants.{MOST_INSTRUMENTS}
use Rattle.books_model.specs.Books.{ClearingBooks, empty_books}
use Rattle.books_model.specs.Ranges.{AreInRange}
use Rattle.txn_alloc.specs.EntryMaps.{Cell}
use Rattle.txn_ring.specs.declared.ring.Ring.{Ring}
use Rattle.txn_ring.specs.Queues.{QueueHolds}

-- to put these entries into the map one after another, each under a key that is new, makes the other map
abbrev pub AddsUp : {K : Type 0} {R : K → K → Ordering} → entry_map.FinMap R ℕ → List (K × ℕ) → entry_map.FinMap R ℕ
    → Type 0
AddsUp have [] whole = have ≡ whole
AddsUp have (e ∷ es) whole = (entry_map.get have e.0 ≡ None) × AddsUp (entry_map.insert have e.0 e.1) es whole

-- the entries of cells
abbrev pub entries_in : List Cell → List (ℕ × ℕ)
entries_in cs = map (λ c. (c.key, c.value)) cs

-- whether a key of the chains is a price's
abbrev pub is_price_key : ℕ → Bool
is_price_key key = nat_lt key MOST_INSTRUMENTS

-- the prices among entries of the chains, each under its instrument
abbrev pub prices_in : List (ℕ × ℕ) → List (ℕ × ℕ)
prices_in es = map (λ e. (e.0 + 1, e.1)) (filter (λ e. is_price_key e.0) es)

-- and the positions, each under its account and instrument
abbrev pub positions_in : List (ℕ × ℕ) → List ((ℕ × ℕ) × ℕ)
positions_in es =
    map (λ e. ((e.0 / MOST_INSTRUMENTS, e.0 % MOST_INSTRUMENTS + 1), e.1)) (filter (λ e. not (is_price_key e.0)) es)

-- the books with these accounts more are those others, which are in range
pub record AddsAccounts (entries : List (ℕ × ℕ)) (books after : ClearingBooks) : Type 0 where
  pub adds : AddsUp books.accounts entries after.accounts
  pub same : after ≡ record books { accounts = after.accounts }
  pub range : AreInRange after

-- so with the prices among these entries
pub record AddsPrices (entries : List (ℕ × ℕ)) (books after : ClearingBooks) : Type 0 where
  pub adds : AddsUp books.prices (prices_in entries) after.prices
  pub same : after ≡ record books { prices = after.prices }
  pub range : AreInRange after

-- with the positions among them
pub record AddsPositions (entries : List (ℕ × ℕ)) (books after : ClearingBooks) : Type 0 where
  pub adds : AddsUp books.positions (positions_in entries) after.positions
  pub same : after ≡ record books { positions = after.positions }
  pub range : AreInRange after

-- and with the margin calls that a ring holds, if the books had none
pub record AddsCalls (ring : Ring) (words : List ℕ) (books after : ClearingBooks) : Type 0 where
  pub queue : QueueHolds ring words after.calls
  pub none : books.calls ≡ []
  pub same : after ≡ record books { calls = after.calls }
  pub range : AreInRange after

-- the books of these sizes with nothing in them yet, then with the accounts of these, with their prices, and with their positions
abbrev pub nothing_yet : ClearingBooks → ClearingBooks
nothing_yet books = empty_books books.blocks books.instruments books.ring

abbrev pub with_accounts : ClearingBooks → ClearingBooks
with_accounts books = record (nothing_yet books) { accounts = books.accounts }

abbrev pub with_prices : ClearingBooks → ClearingBooks
with_prices books = record (with_accounts books) { prices = books.prices }

abbrev pub with_positions : ClearingBooks → ClearingBooks
with_positions books = record (with_prices books) { positions = books.positions }
