-- Books to which one entry after another is added.
use Rattle.txn_books.proofs.Common.{◌≡◌, ℕ, suc, get_or, drop, ◌+◌, ◌/◌, ◌%◌, ◌<◌, ◌≤◌, true, false, cond, List, ◌∷◌, length, map, filter, not, None, IsSome}
use Rattle.txn_books.proofs.Common.{ap, subst, arith, nat_cmp_total, nat_cmp-IsAntisymmetric, MOST_INSTRUMENTS, GREATEST_CASH, GREATEST_PRICE}
use Rattle.txn_books.proofs.Common.{GREATEST_QUANTITY, ClearingBooks, used, put_cash, put_price, put_quantity, AreInRange, IsWithin, IsAccountNumber}
use Rattle.txn_books.proofs.Common.{positions_total, exact_positions, AddsUp, is_price_key, AddsAccounts, AddsPrices, AddsPositions}
use Rattle.books_model.proofs.Common.{IsInstrumentOf}
use Rattle.std.proofs.Math.Seq.{drop-cons}
use Rattle.txn_books.specs.Inner.Reading.{prices_in, positions_in}
use Rattle.txn_books.proofs.ReadOff.Adding.{adds_first, adds_length}
use Rattle.txn_books.proofs.OneState.Chained.{some_of}
use Rattle.std.specs.FinMap as entry_map

-- a price that is the next to be put in is new, in range and has room
pub record NewPrice (i price : ℕ) (books : ClearingBooks) : Type 0 where
  pub number : IsInstrumentOf books i
  pub price_range : IsWithin 1 GREATEST_PRICE price
  pub absent : entry_map.get books.prices i ≡ None
  pub room : used books < books.blocks

pub new_price : (i price : ℕ) (rest : List (ℕ × ℕ)) (books after : ClearingBooks)
    → AddsUp books.prices ((i, price) ∷ rest) after.prices → after ≡ record books { prices = after.prices } → AreInRange after → NewPrice i price books
new_price i price rest books after adds same range =
    let there = range.prices i price (adds_first nat_cmp_total nat_cmp-IsAntisymmetric (i, price) rest books.prices after.prices adds) in
    record {
      number = (there.0.0, omega (arith, there.0.1, ap (λ (b : ClearingBooks). b.instruments) same));
      price_range = there.1;
      absent = adds.0;
      room = omega (
        arith,
        adds_length nat_cmp_total nat_cmp-IsAntisymmetric ((i, price) ∷ rest) books.prices after.prices adds,
        ap used same,
        ap (λ (b : ClearingBooks). b.blocks) same,
        range.blocks_used,
      );
    }

-- and so is a position, whose account and price are there
pub record NewPosition (a i quantity : ℕ) (books : ClearingBooks) : Type 0 where
  pub owner : IsSome (entry_map.get books.accounts a)
  pub number : IsAccountNumber a
  pub price : IsSome (entry_map.get books.prices i)
  pub quantity_range : IsWithin 1 GREATEST_QUANTITY quantity
  pub absent : entry_map.get books.positions (a, i) ≡ None
  pub room : used books < books.blocks

pub new_position : (a i quantity : ℕ) (rest : List ((ℕ × ℕ) × ℕ)) (books after : ClearingBooks)
    → AddsUp books.positions (((a, i), quantity) ∷ rest) after.positions → after ≡ record books { positions = after.positions } → AreInRange after
    → NewPosition a i quantity books
new_position a i quantity rest books after adds same range =
    let there = range.positions a i quantity (adds_first positions_total exact_positions ((a, i), quantity) rest books.positions after.positions adds) in
    let some = some_of (entry_map.get after.accounts a) there.0 in
    record {
      owner = subst (λ m. IsSome (entry_map.get m a)) (ap (λ (b : ClearingBooks). b.accounts) same) there.0;
      number = (range.accounts a some.0 some.1).0;
      price = subst (λ m. IsSome (entry_map.get m i)) (ap (λ (b : ClearingBooks). b.prices) same) there.1;
      quantity_range = there.2;
      absent = adds.0;
      room = omega (
        arith,
        adds_length positions_total exact_positions (((a, i), quantity) ∷ rest) books.positions after.positions adds,
        ap used same,
        ap (λ (b : ClearingBooks). b.blocks) same,
        range.blocks_used,
      );
    }

module _ (e : ℕ × ℕ) (es : List (ℕ × ℕ)) (books after : ClearingBooks) where
  -- the next account is new, in range and has room
  pub record NextAccount : Type 0 where
    pub number : IsAccountNumber e.0
    pub cash : e.1 ≤ GREATEST_CASH
    pub absent : entry_map.get books.accounts e.0 ≡ None
    pub room : used books < books.blocks
    pub rest : AddsAccounts es (put_cash books e.0 e.1) after

  pub account_next : AddsAccounts (e ∷ es) books after → NextAccount
  account_next h =
      let there = h.range.accounts e.0 e.1 (adds_first nat_cmp_total nat_cmp-IsAntisymmetric e es books.accounts after.accounts h.adds) in
      record {
        number = there.0;
        cash = there.1;
        absent = h.adds.0;
        room = omega (
          arith,
          adds_length nat_cmp_total nat_cmp-IsAntisymmetric (e ∷ es) books.accounts after.accounts h.adds,
          ap used h.same,
          ap (λ (b : ClearingBooks). b.blocks) h.same,
          h.range.blocks_used,
        );
        rest = record { adds = h.adds.1; same = h.same; range = h.range };
      }

  -- so with the next price
  pub record NextPrice : Type 0 where
    pub new : NewPrice (e.0 + 1) e.1 books
    pub rest : AddsPrices es (put_price books (e.0 + 1) e.1) after

  pub price_next : is_price_key e.0 ≡ true → AddsPrices (e ∷ es) books after → NextPrice
  price_next is h =
      let adds : AddsUp books.prices ((e.0 + 1, e.1) ∷ prices_in es) after.prices =
      subst (λ b. AddsUp books.prices
      (map (λ d. (d.0 + 1, d.1)) (cond b (e ∷ filter (λ d. is_price_key d.0) es) (filter (λ d. is_price_key d.0) es))) after.prices) is h.adds in
      record { new = new_price (e.0 + 1) e.1 (prices_in es) books after adds h.same h.range; rest = record { adds = adds.1; same = h.same; range = h.range } }

  -- and with the next position
  abbrev account : ℕ
  account = e.0 / MOST_INSTRUMENTS

  abbrev instrument : ℕ
  instrument = e.0 % MOST_INSTRUMENTS + 1

  pub record NextPosition : Type 0 where
    pub new : NewPosition account instrument e.1 books
    pub rest : AddsPositions es (put_quantity books account instrument e.1) after

  pub position_next : is_price_key e.0 ≡ false → AddsPositions (e ∷ es) books after → NextPosition
  position_next is h =
      let place : ℕ × ℕ = (account, instrument) in
      let adds : AddsUp books.positions ((place, e.1) ∷ positions_in es) after.positions =
      subst (λ b. AddsUp books.positions (map (λ d. ((d.0 / MOST_INSTRUMENTS, d.0 % MOST_INSTRUMENTS + 1), d.1))
      (cond b (e ∷ filter (λ d. not (is_price_key d.0)) es) (filter (λ d. not (is_price_key d.0)) es))) after.positions) (ap not is) h.adds in
      record {
        new = new_position account instrument e.1 (positions_in es) books after adds h.same h.range;
        rest = record { adds = adds.1; same = h.same; range = h.range };
      }

-- the entry at a place, and those behind it
module _ (entries : List (ℕ × ℕ)) (i : ℕ) where
  abbrev pub entry_at : ℕ × ℕ
  entry_at = get_or entries i (0, 0)

  abbrev pub entries_after : List (ℕ × ℕ)
  entries_after = drop (suc i) entries

-- the next entry is that at a place
module _ (entries : List (ℕ × ℕ)) (i : ℕ) {books after : ClearingBooks} (lt : i < length entries) where
  pub account_at : AddsAccounts (drop i entries) books after → NextAccount (entry_at entries i) (entries_after entries i) books after
  account_at h = account_next _ _ books after (subst (λ es. AddsAccounts es books after) (drop-cons entries i (0, 0) lt) h)

  pub price_at : is_price_key (entry_at entries i).0 ≡ true → AddsPrices (drop i entries) books after
      → NextPrice (entry_at entries i) (entries_after entries i) books after
  price_at is h = price_next _ _ books after is (subst (λ es. AddsPrices es books after) (drop-cons entries i (0, 0) lt) h)

  pub position_at : is_price_key (entry_at entries i).0 ≡ false → AddsPositions (drop i entries) books after
      → NextPosition (entry_at entries i) (entries_after entries i) books after
  position_at is h = position_next _ _ books after is (subst (λ es. AddsPositions es books after) (drop-cons entries i (0, 0) lt) h)
