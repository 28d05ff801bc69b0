-- What calls on the parts say of a book.
use Rattle.order_match.proofs.Common.{◌≡◌, ℕ, ◌/◌, ◌%◌, ◌≤◌, Bool, List, Option, Some, None, refl, sym, ap, ◌∙◌, subst, same_Some, option_map, unwrap_or}
use Rattle.order_match.proofs.Common.{IsWithin, Resting, GREATEST_ORDER, Gives, with_order, OrderBook, all_but, order_at, IsBookOf, IsRestingOrder, books_kept}
use Rattle.order_match.proofs.Common.{Has, of_every, Tells, TellsAndChanges, remove_absent, Saw, Turns, OrderShape, HALF, key_at, resting_key, place_of}
use Rattle.order_match.proofs.Common.{side_at, side_of, Held, HasParts, HasSomeParts, IsGoodFor, Stands, held_of, places_of, quantities_on, best_on, first_in}
use Rattle.order_match.proofs.Common.{quantity_at, with_places, with_side, without_order}
use Rattle.order_match.proofs.Best.{best_first, price_first}
use Rattle.order_match.proofs.Books.{held_without, none_taken, order_is, place_found, price_there, quantity_found, side_told}
use Rattle.order_match.proofs.Served.{AreOrders, orders_of, sides_differ}
use Rattle.std.specs.FinMap as finite
use Rattle.order_text.specs.declared.script.OrderOp.TheVariants as op
use Rattle.order_text.specs.declared.reply.OrderValue.TheVariants as value

module _ (shape : OrderShape) where
  pub good_parts : (x : List ℕ) → IsGoodFor shape x → HasSomeParts shape x
  good_parts x good = (held_of good.0, good.1.parts)

  -- the best price of a side, from its first entry
  pub tells_best : (instrument : ℕ) (buys : Bool) → 1 ≤ instrument → (answer : Option (ℕ × ℕ)) (x y : List ℕ)
      → Tells (HasParts shape) (λ held. first_in (held.sides (side_at instrument buys))) answer x y
      → Tells (Stands shape) (λ book. best_on instrument buys book.orders) (price_first buys answer) x y
  tells_best instrument buys low answer x y t = record {
    same = t.same;
    told = λ book stand. ap (price_first buys) (t.told (held_of book) stand.parts)
        ∙ best_first instrument buys book.orders (orders_of shape.instruments book stand.book_is) low;
  }

  -- a book without an order is one too
  pub fewer_book : (number : ℕ) (book : OrderBook) (r : Resting) → order_at number book.orders ≡ Some r → IsWithin 1 GREATEST_ORDER number
      → IsBookOf shape.instruments book → IsBookOf shape.instruments (without_order number book)
  fewer_book number book r there range is =
      books_kept shape.instruments (op.Cancel number) book (without_order number book) (value.Cancelled r.quantity) is range
      (ap (λ o. with_order o (λ order. Gives (value.Cancelled order.quantity) (without_order number book))) there)

  -- no order is told if there is no place
  no_order : (number : ℕ) (book : OrderBook) → IsBookOf shape.instruments book → None ≡ finite.get (places_of book.orders) number
      → order_at number book.orders ≡ None
  no_order number book is none = none_of (order_at number book.orders) (none ∙ place_found book.orders (orders_of shape.instruments book is) number)
    where
      none_of : (o : Option Resting) → None ≡ option_map place_of o → o ≡ None
      none_of None e = refl
      none_of (Some r) e = absurd (cc)

  -- an order that is told by its place
  pub record IsTold (number place : ℕ) (book : OrderBook) (r : Resting) : Type 0 where
    pub order : order_at number book.orders ≡ Some r
    pub there : Has r book.orders
    pub number_is : r.number ≡ number
    pub place_is : place_of r ≡ place
    pub range : IsRestingOrder shape.instruments r

  told_by : (number place : ℕ) (book : OrderBook) → IsBookOf shape.instruments book → Some place ≡ finite.get (places_of book.orders) number
      → (r : Resting) × IsTold number place book r
  told_by number place book is told = at (order_at number book.orders) refl
    where
      are : AreOrders book.orders
      are = orders_of shape.instruments book is

      at : (o : Option Resting) → order_at number book.orders ≡ o → (r : Resting) × IsTold number place book r
      at None e = absurd (let z : Some place ≡ None = told ∙ (place_found book.orders are number ∙ ap (option_map place_of) e) in cc)
      at (Some r) e =
          let there = order_is book.orders are number r e in (
            r,
            record {
              order = e;
              there = there.0;
              number_is = there.1;
              place_is = sym (same_Some place (place_of r) (told ∙ (place_found book.orders are number ∙ ap (option_map place_of) e)));
              range = of_every (IsRestingOrder shape.instruments) book.orders r is.each there.0;
            },
          )

  -- the price that a place names
  place_price : (number place : ℕ) (book : OrderBook) (r : Resting) → IsBookOf shape.instruments book → IsTold number place book r → place % HALF ≡ r.price
  place_price number place book r is told =
      ap (λ p. p % HALF) (sym told.place_is) ∙ price_there r ((orders_of shape.instruments book is).fit r told.there)

  module _ (number place instrument : ℕ) (buys : Bool) (side : side_at instrument buys ≡ place / HALF) (low : 1 ≤ instrument) where
    -- the side that a place names, and the key that an order with it has
    module _ (book : OrderBook) (r : Resting) (is : IsBookOf shape.instruments book) (told : IsTold number place book r) where
      place_side : (instrument ≡ r.instrument) × (buys ≡ r.buys)
      place_side =
          let are = orders_of shape.instruments book is in
          sides_differ instrument r.instrument buys r.buys low (are.numbered r told.there)
          (side ∙ (ap (λ p. p / HALF) (sym told.place_is) ∙ side_told r (are.fit r told.there)))

      key_there : key_at buys (place % HALF) number ≡ resting_key r
      key_there =
          let price = place_price number place book r is told in
          λ i. key_at (place_side.1 i) (price i) (sym told.number_is i)

    -- the side is one of the book's
    side_in : (x : List ℕ) (book : OrderBook) → Stands shape x book → Some place ≡ finite.get (places_of book.orders) number
        → IsWithin 1 shape.instruments instrument
    side_in x book stand there =
        let told = told_by number place book stand.book_is there in
        subst (IsWithin 1 shape.instruments) (sym (place_side book told.0 stand.book_is told.1).0) told.1.range.limits_are.instrument_is

    pub side_of_place : (x : List ℕ) × (y : List ℕ) × IsGoodFor shape x
        × TellsAndChanges (HasParts shape) (λ held. finite.get held.places number)
        (λ held. with_places (finite.remove held.places number) held) (Some place) x y
        → IsWithin 1 shape.instruments instrument
    side_of_place some = side_in some.0 some.2.0 some.2.1 (some.3.told (held_of some.2.0) some.2.1.parts)

    pub side_of_look : (x : List ℕ) × (y : List ℕ) × IsGoodFor shape x × Tells (HasParts shape) (λ held. finite.get held.places number) (Some place) x y
        → IsWithin 1 shape.instruments instrument
    side_of_look some = side_in some.0 some.2.0 some.2.1 (some.3.told (held_of some.2.0) some.2.1.parts)

  module _ (number : ℕ) (x y : List ℕ) where
    -- an order that is looked up does not rest
    pub looks_for_none : Tells (HasParts shape) (λ held. finite.get held.places number) None x y
        → Tells (Stands shape) (λ book. order_at number book.orders) None x y
    looks_for_none t = record {
      same = t.same;
      told = λ book stand. sym (no_order number book stand.book_is (t.told (held_of book) stand.parts));
    }

    -- it rests, and its place and its quantity tell it
    pub looks_for_one : (place instrument : ℕ) (buys : Bool) → side_at instrument buys ≡ place / HALF → 1 ≤ instrument → (answer : Option ℕ)
        → Saw (HasParts shape) (λ held. (Some place ≡ finite.get held.places number)
        × (answer ≡ finite.get (held.sides (side_at instrument buys)) (key_at buys (place % HALF) number))) x y
        → Tells (Stands shape) (λ book. order_at number book.orders) (Some (record {
          number = number;
          instrument = instrument;
          buys = buys;
          price = place % HALF;
          quantity = unwrap_or answer 0;
        })) x y
    looks_for_one place instrument buys side low answer t = record {
      same = t.same;
      told = λ book stand.
          let saw = t.saw (held_of book) stand.parts in
          let k = told_by number place book stand.book_is saw.0 in
          let are = orders_of shape.instruments book stand.book_is in
          let same = place_side number place instrument buys side low book k.0 stand.book_is k.1 in
          let price = place_price number place book k.0 stand.book_is k.1 in
          let quantity : unwrap_or answer 0 ≡ k.0.quantity = ap (λ o. unwrap_or o 0) (saw.1
          ∙ ((λ i. finite.get (quantities_on (side_at (same.0 i) (same.1 i)) book.orders)
          (key_there number place instrument buys side low book k.0 stand.book_is k.1 i))
          ∙ quantity_found book.orders are k.0 k.1.there)) in
          (λ i. Some (record {
            number = sym k.1.number_is i;
            instrument = same.0 i;
            buys = same.1 i;
            price = price i;
            quantity = quantity i;
          }))
          ∙ sym k.1.order;
    }

    -- an order that does not rest
    pub not_cancelled : TellsAndChanges (HasParts shape) (λ held. finite.get held.places number)
        (λ held. with_places (finite.remove held.places number) held) None x y
        → TellsAndChanges (Stands shape) (λ book. quantity_at number book.orders) (without_order number) None x y
    not_cancelled t = record {
      told = λ book stand. sym (ap (option_map (λ (r : Resting). r.quantity)) (absent book stand));
      left = λ book stand.
          let same : all_but number book.orders ≡ book.orders = none_taken number book.orders (absent book stand) in
          let places : finite.remove (places_of book.orders) number ≡ places_of book.orders = remove_absent (places_of book.orders) number
          (sym (t.told (held_of book) stand.parts)) in
          subst (λ (rs : List Resting). Stands shape y (record book { orders = rs })) (sym same)
          (record {
            blocks_are = stand.blocks_are;
            book_is = stand.book_is;
            parts = subst (λ m. HasParts shape y (with_places m (held_of book))) places (t.left (held_of book) stand.parts);
          });
    }
      where
        absent : (book : OrderBook) → Stands shape x book → order_at number book.orders ≡ None
        absent book stand = no_order number book stand.book_is (t.told (held_of book) stand.parts)

    -- one that does leaves the chains and the tree of its side
    module _ (place instrument : ℕ) (buys : Bool) (side : side_at instrument buys ≡ place / HALF) (low : 1 ≤ instrument)
        (answer : Option ℕ) where
      abbrev key : ℕ
      key = key_at buys (place % HALF) number

      pub is_cancelled : Turns (HasParts shape) (λ held last. (here : Held)
          × ((Some place ≡ finite.get held.places number) × (here ≡ with_places (finite.remove held.places number) held))
          × (answer ≡ finite.get (here.sides (side_at instrument buys)) key)
          × (last ≡ with_side (side_at instrument buys) (finite.remove (here.sides (side_at instrument buys)) key) here)) x y
          → TellsAndChanges (Stands shape) (λ book. quantity_at number book.orders) (without_order number) (Some (unwrap_or answer 0)) x y
      is_cancelled t = record {
        told = λ book stand. let k = all book stand in
            ap (λ o. Some (unwrap_or o 0)) k.2 ∙ sym (ap (option_map (λ (r : Resting). r.quantity)) k.1.order);
        left = λ book stand.
            let k = all book stand in
            let done = t.at (held_of book) stand.parts in
            let told = k.1 in
            record {
              blocks_are = stand.blocks_are;
              book_is = fewer_book number book k.0 told.order (subst (IsWithin 1 GREATEST_ORDER) told.number_is told.range.number_is) stand.book_is;
              parts = subst (HasParts shape y) (left_is book stand) done.1;
            };
      }
        where
          told_of : (book : OrderBook) → Stands shape x book → (r : Resting) × IsTold number place book r
          told_of book stand = told_by number place book stand.book_is (t.at (held_of book) stand.parts).2.1.0

          side_is : (book : OrderBook) (stand : Stands shape x book) → side_at instrument buys ≡ side_of (told_of book stand).0
          side_is book stand = let k = told_of book stand in let same = place_side number place instrument buys side low book k.0 stand.book_is k.1 in
              λ i. side_at (same.0 i) (same.1 i)

          key_is : (book : OrderBook) (stand : Stands shape x book) → key_at buys (place % HALF) number ≡ resting_key (told_of book stand).0
          key_is book stand =
              let k = told_of book stand in key_there number place instrument buys side low book k.0 stand.book_is k.1

          all : (book : OrderBook) → (stand : Stands shape x book) → (r : Resting) × IsTold number place book r × (answer ≡ Some r.quantity)
          all book stand =
              let k = told_of book stand in
              let are = orders_of shape.instruments book stand.book_is in
              let done = t.at (held_of book) stand.parts in (
                k.0,
                k.1,
                done.2.2
                    ∙ (ap (λ (h : Held). finite.get (h.sides (side_at instrument buys)) (key_at buys (place % HALF) number)) done.2.1.1
                    ∙ ((λ i. finite.get (quantities_on (side_is book stand i) book.orders) (key_is book stand i))
                    ∙ quantity_found book.orders are k.0 k.1.there)),
              )

          left_is : (book : OrderBook) (stand : Stands shape x book) → (t.at (held_of book) stand.parts).0 ≡ held_of (without_order number book)
          left_is book stand =
              let k = told_of book stand in
              let are = orders_of shape.instruments book stand.book_is in
              let done = t.at (held_of book) stand.parts in
              done.2.3
              ∙ (ap (λ (h : Held). with_side (side_at instrument buys) (finite.remove (h.sides (side_at instrument buys))
              (key_at buys (place % HALF) number)) h)
              done.2.1.1
              ∙ ((λ i. with_side (side_is book stand i) (finite.remove (quantities_on (side_is book stand i) book.orders) (key_is book stand i))
              (with_places (finite.remove (places_of book.orders) (sym k.1.number_is i)) (held_of book)))
              ∙ (held_without book are k.0 k.1.there
              ∙ (λ i. held_of (record book { orders = all_but (k.1.number_is i) book.orders })))))
