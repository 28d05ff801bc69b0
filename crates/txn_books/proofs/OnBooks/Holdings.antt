-- What calls on the chains say of prices and positions.
use Rattle.txn_books.proofs.Common.{◌≡◌, ◌≢◌, ℕ, ◌*◌, ◌≤◌, true, false, not, ◌&&◌, ◌==◌, List, if◌then◌else◌, Option, Some, None, IsSome, is_some, unwrap_or}
use Rattle.txn_books.proofs.Common.{refl, sym, ap, ◌∙◌, subst, arith, nat_tests, MOST_INSTRUMENTS, GREATEST_PRICE, GREATEST_QUANTITY, ClearingBooks}
use Rattle.txn_books.proofs.Common.{position_of, put_price, put_quantity, is_full, put_position, AreInRange, IsWithin, IsAccountNumber, positions_total}
use Rattle.txn_books.proofs.Common.{exact_positions, Put, HasMap, HasMapApart, Finds, held, chain_part, BooksShape, chains_of, price_key_of, position_key_of}
use Rattle.txn_books.proofs.Common.{chained, Stands, IsGoodFor, IsInstrument, OfModel, Tells, ChangesWithRoom, lacks_position_room, had_room}
use Rattle.books_model.proofs.Common.{price_of}
use Rattle.books_model.proofs.Drafts.{priced-in_range, held-in_range, unheld-in_range}
use Rattle.txn_books.specs.Access.{lacks_price_room}
use Rattle.txn_books.proofs.OneState.Chained.{price_in, get_price, get_position}
use Rattle.txn_books.proofs.OneState.ChainedChanges.{price_chained, position_chained, position_unchained, remove_absent}
use Rattle.txn_books.proofs.OneState.Parts.{good_parts, some_chains, cut_leaves}
use Rattle.txn_books.proofs.OneState.States.{chains_apart}
use Rattle.txn_books.proofs.OneState.Standing.{chains_left}
use Rattle.txn_books.proofs.OnBooks.Calls.{IsPut, IsCut}
use Rattle.txn_books.proofs.OnBooks.Putting.{PutsIn, put_in}
use Rattle.std.specs.FinMap as map

-- the shape has no more instruments than books
pub instruments_most : (shape : BooksShape) (x : List ℕ) → IsGoodFor shape x → shape.instruments ≤ MOST_INSTRUMENTS
instruments_most shape x good = omega (arith, ap (λ z. z.instruments) good.1.sizes, good.1.range.instruments.1)

module _ (shape : BooksShape) where
  pub chains_apart_there : (x : List ℕ) → IsGoodFor shape x → HasMapApart (chain_part (chains_of shape)) x
  chains_apart_there x good = some_chains shape x (good_parts shape x good)

  pub chains_there : (x : List ℕ) → IsGoodFor shape x → HasMap (chain_part (chains_of shape)) x
  chains_there x good = held (chains_apart_there x good)

module _ {shape : BooksShape} {x : List ℕ} {books : ClearingBooks} (stand : Stands shape x books) where
  -- an instrument of the shape
  pub is_instrument : (i : ℕ) → IsWithin 1 shape.instruments i → IsInstrument i
  is_instrument i within = (within.0, omega (arith, within.1, instruments_most shape x (books, stand)))

module _ (shape : BooksShape) (i : ℕ) (within : IsWithin 1 shape.instruments i) where
  pub tells_price : (answer : Option ℕ) (x y : List ℕ)
      → Finds (chain_part (chains_of shape)) (price_key_of i) answer x y → Tells (Stands shape) (λ books. map.get books.prices i) answer x y
  tells_price answer x y finds = record {
    same = finds.same;
    told = λ books stand. finds.found (chained books) stand.parts.chain_used (chains_apart shape x books stand).map
        ∙ get_price books stand.range i (is_instrument stand i within);
  }

  -- what an insert at the price's key did
  pub price_put : (price : ℕ) → IsWithin 1 GREATEST_PRICE price → (put : Put) (x y : List ℕ)
      → IsPut (chain_part (chains_of shape)) (price_key_of i) price put x y
      → ChangesWithRoom (Stands shape) (lacks_price_room i) (λ books. put_price books i price) (had_room put) x y
  price_put price fits put x y did = put_in price_in put x y (λ books stand. tt) did
    where
      price_in : PutsIn shape (chain_part (chains_of shape)) (price_key_of i) price (λ books. map.get books.prices i)
          (λ books. Unit {0}) (λ books. put_price books i price)
      price_in = record {
        entries = chained;
        blocks = λ words books stand. stand.parts.chain_used;
        apart = chains_apart shape;
        at_key = λ words books stand may. get_price books stand.range i (is_instrument stand i within);
        changed = λ old new books stand may room left keeps.
            let later = priced-in_range books i price stand.range (within.0, omega (arith, within.1, ap (λ z. z.instruments) stand.sizes)) fits room in
            chains_left shape old new (price_key_of i) books stand keeps books.positions (map.insert books.prices i price) _
            (price_chained books stand.range i price (is_instrument stand i within) later) left later;
      }

pub tells_quantity : (shape : BooksShape) (a i : ℕ) → IsAccountNumber a → IsWithin 1 shape.instruments i
    → (answer : Option ℕ) (x y : List ℕ) → Finds (chain_part (chains_of shape)) (position_key_of a i) answer x y
    → Tells (Stands shape) (λ books. map.get books.positions (a, i)) answer x y
tells_quantity shape a i number within answer x y finds = record {
  same = finds.same;
  told = λ books stand. finds.found (chained books) stand.parts.chain_used (chains_apart shape x books stand).map
      ∙ get_position books stand.range a i number.0 (is_instrument stand i within);
}

-- an account and an instrument that may have a position: the one is there, and the other has a price
abbrev pub MayHold : ℕ → ℕ → ClearingBooks → Type 0
MayHold a i books = IsSome (map.get books.accounts a) × IsSome (map.get books.prices i)

pub place_of : (books : ClearingBooks) → AreInRange books → (a i : ℕ) → MayHold a i books → (1 ≤ a) × IsInstrument i
place_of books range a i may = (account (map.get books.accounts a) refl may.0, instrument (map.get books.prices i) refl may.1)
  where
    account : (o : Option ℕ) → map.get books.accounts a ≡ o → IsSome o → 1 ≤ a
    account None e some = absurd (cc)
    account (Some cash) e some = (range.accounts a cash e).0.0

    instrument : (o : Option ℕ) → map.get books.prices i ≡ o → IsSome o → IsInstrument i
    instrument None e some = absurd (cc)
    instrument (Some price) e some = price_in books range i price e

-- what a call at a position's key did
module _ (shape : BooksShape) (a i : ℕ) where
  -- the chains have at the key what the books say
  at_key : (x : List ℕ) (books : ClearingBooks) → Stands shape x books → MayHold a i books
      → map.get (chained books) (position_key_of a i) ≡ map.get books.positions (a, i)
  at_key x books stand may = let place = place_of books stand.range a i may in get_position books stand.range a i place.0 place.1

  module _ (quantity : ℕ) (some : quantity ≢ 0) (fits : quantity ≤ GREATEST_QUANTITY) where
    not_zero : (quantity == 0) ≡ false
    not_zero = grind (arith, nat_tests, some)

    is_put : (books : ClearingBooks) → put_quantity books a i quantity ≡ put_position books a i quantity
    is_put books = ap (λ t. record books {
      positions =
          (if t then map.remove books.positions (a, i) else map.insert books.positions (a, i) quantity);
    }) (sym not_zero)

    quantity_in : PutsIn shape (chain_part (chains_of shape)) (position_key_of a i) quantity (λ books. map.get books.positions (a, i))
        (MayHold a i) (λ books. put_position books a i quantity)
    quantity_in = record {
      entries = chained;
      blocks = λ words books stand. stand.parts.chain_used;
      apart = chains_apart shape;
      at_key = at_key;
      changed = λ old new books stand may room left keeps.
          let later = held-in_range books a i quantity stand.range may.0 may.1 (omega (arith, some), fits) room in
          let place = place_of books stand.range a i may in
          subst (Stands shape new) (is_put books)
          (chains_left shape old new (position_key_of a i) books stand keeps (map.insert books.positions (a, i) quantity) books.prices _
          (position_chained books stand.range a i place.0 place.1 quantity later) left later);
    }

    -- what room a position that is not 0 lacks
    lacks : (books : ClearingBooks) → lacks_position_room a i quantity books ≡ (not (is_some (map.get books.positions (a, i))) && is_full books)
    lacks books = ap (λ t. not t && (not (is_some (map.get books.positions (a, i))) && is_full books)) not_zero

    pub quantity_put : (put : Put) (x y : List ℕ) → OfModel (Stands shape) (MayHold a i) x
        → IsPut (chain_part (chains_of shape)) (position_key_of a i) quantity put x y
        → ChangesWithRoom (Stands shape) (lacks_position_room a i quantity) (λ books. put_position books a i quantity) (had_room put) x y
    quantity_put put x y may did =
        let k = put_in quantity_in put x y may did in
        record { answer = λ books stand. k.answer books stand ∙ ap not (sym (lacks books)); left = k.left }

  -- a position that is taken out
  module _ (quantity : ℕ) (none : quantity ≡ 0) where
    zero : (quantity == 0) ≡ true
    zero = grind (arith, nat_tests, none)

    is_out : (books : ClearingBooks)
        → ◌≡◌ {A = ClearingBooks} (record books { positions = map.remove books.positions (a, i) }) (put_position books a i quantity)
    is_out books = ap (λ t. record books {
      positions =
          (if t then map.remove books.positions (a, i) else map.insert books.positions (a, i) quantity);
    }) (sym zero)

    no_block : (books : ClearingBooks) → true ≡ not (lacks_position_room a i quantity books)
    no_block books = ap (λ t. not (not t && (not (is_some (map.get books.positions (a, i))) && is_full books))) (sym zero)

    quantity_gone : (answer : Option ℕ) (x y : List ℕ)
        → IsCut (chain_part (chains_of shape)) (position_key_of a i) answer x y → (books : ClearingBooks) → Stands shape x books → MayHold a i books
        → Stands shape y (record books { positions = map.remove books.positions (a, i) })
    quantity_gone None x y cut books stand may =
        let absent : map.get books.positions (a, i) ≡ None = sym (at_key x books stand may)
        ∙ sym (cut.removes.found (chained books) stand.parts.chain_used (chains_apart shape x books stand).map) in
        subst (λ m. Stands shape y (record books { positions = m }))
        (sym (remove_absent positions_total exact_positions books.positions (a, i) absent)) (subst (λ z. Stands shape z books) (sym cut.removes.same) stand)
    quantity_gone (Some was) x y cut books stand may =
        let later : AreInRange (record books { positions = map.remove books.positions (a, i) }) = unheld-in_range books a i stand.range in
        let place = place_of books stand.range a i may in
        chains_left shape x y (position_key_of a i) books stand cut.keeps (map.remove books.positions (a, i)) books.prices _
        (position_unchained books stand.range a i place.0 place.1 later)
        (cut_leaves _ x y _ _ _ (chains_apart shape x books stand) (position_key_of a i) was cut.removes) later

    pub quantity_cut : (answer : Option ℕ) (x y : List ℕ) → OfModel (Stands shape) (MayHold a i) x
        → IsCut (chain_part (chains_of shape)) (position_key_of a i) answer x y
        → ChangesWithRoom (Stands shape) (lacks_position_room a i quantity) (λ books. put_position books a i quantity) true x y
    quantity_cut answer x y may cut = record {
      answer = λ books stand. no_block books;
      left = λ books stand. subst (Stands shape y) (is_out books) (quantity_gone answer x y cut books stand (may books stand));
    }

-- what a position is worth, from its quantity and the price
pub worth_here : (books : ClearingBooks) (a i held each : ℕ) (price : Option ℕ) → each ≡ unwrap_or price 0
    → Some held ≡ map.get books.positions (a, i) → price ≡ map.get books.prices i → held * each ≡ position_of books a i * price_of books i
worth_here books a i held each price is quantity priced =
    let first : held ≡ position_of books a i = ap (λ (o : Option ℕ). unwrap_or o 0) quantity in
    let second : each ≡ price_of books i = is ∙ ap (λ (o : Option ℕ). unwrap_or o 0) priced in
    λ j. first j * second j
