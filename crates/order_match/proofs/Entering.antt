-- An order that enters, from what was done to the parts.
use Rattle.order_match.proofs.Common.{◌≡◌, ◌≢◌, ℕ, ◌+◌, ◌-◌, ◌<◌, ◌≤◌, ◌==◌, nat_lt, Bool, true, false, cond, not, ◌&&◌, min, ◌⊎◌, inl, inr, List, [], ◌∷◌}
use Rattle.order_match.proofs.Common.{◌++◌, map, filter, Option, Some, None, refl, sym, ap, ◌∙◌, subst, arith, append-nil, eq-eqb, eqb-true, ne_eqb, nat_tests}
use Rattle.order_match.proofs.Common.{nat_cmp_total, option_map, IsWithin, len_after_insert, GREATEST_ORDER, Resting, Trade, Matched, after_trades, allows}
use Rattle.order_match.proofs.Common.{match_of, orders_after, partners, rest_of, trade_with, OrderBook, all_but, blocks_of, order_at, IsBookOf, IsRestingOrder}
use Rattle.order_match.proofs.Common.{Has, has_filtered, of_every, Put, New, Old, Full, Changes, Tells, TellsAndChanges, Turns, OrderShape, Side, HALF}
use Rattle.order_match.proofs.Common.{resting_key, number_in, place_of, price_in, side_at, side_of, sides_of, Held, HasParts, IsGoodFor, Stands, held_of}
use Rattle.order_match.proofs.Common.{places_of, quantities_on, entries_in, first_in, first_of, is_used_up, put_answer, put_by, with_places, with_side}
use Rattle.order_match.proofs.Common.{MatchesOrder, RestsOrder, after_trade, next_number}
use Rattle.books_model.specs.declared.limits.TheConstants.{MOST_INSTRUMENTS}
use Rattle.txn_words.specs.Access.{OfModel}
use Rattle.order_match.specs.Trading.{PutsOrder}
use Rattle.order_match.proofs.Books.{held_with, held_without, keys_number, order_is, order_there, place_found, quantity_found}
use Rattle.order_match.proofs.Calls.{fewer_book}
use Rattle.order_match.proofs.Family.{counted}
use Rattle.order_match.proofs.Filled.{have_quantity, held_partly, partly, partly_book}
use Rattle.order_match.proofs.Filling.{filled_next, in_front, in_front_more, match_ends, match_turn, partly_next, partner_here, with_left}
use Rattle.order_match.proofs.Keyed.{first_none, get_map}
use Rattle.order_match.proofs.Partners.{first_nothing, first_rest, order_told, partner_first, partner_told}
use Rattle.order_match.proofs.Served.{AreOrders, Fits, orders_of}
use Rattle.order_match.proofs.Sums.{sum_changed}
use Rattle.order_match.proofs.Whole.{entries_counted, side_in_range}
use Rattle.std.specs.FinMap as finite

-- the next number, if one is left
pub next_some : (last : ℕ) → last < GREATEST_ORDER → Some (last + 1) ≡ next_number last
next_some last lt = let test : nat_lt last GREATEST_ORDER ≡ true = grind (arith, nat_tests) in sym (ap (λ b. cond b (Some (last + 1)) None) test)

pub next_none : (last : ℕ) → GREATEST_ORDER ≤ last → None ≡ next_number last
next_none last le = let test : nat_lt last GREATEST_ORDER ≡ false = grind (arith, nat_tests) in sym (ap (λ b. cond b (Some (last + 1)) None) test)

-- what a first entry tells of the partner, by what code makes of it
module _ (order : Resting) (key quantity number price : ℕ) (side : Side) (is : side ≡ record { instrument = order.instrument; buys = not order.buys })
    (price_is : price ≡ price_in side.buys key) where
  price_same : price ≡ price_in (not order.buys) key
  price_same = price_is ∙ ap (λ (s : Side). price_in s.buys key) is

  pub partner_some : number ≡ number_in key → allows order price ≡ true → partner_told order (Some (key, quantity))
      ≡ Some (record { number = number; instrument = side.instrument; buys = side.buys; price = price; quantity = quantity })
  partner_some number_is may = ap (λ b. cond b (Some (order_told order (key, quantity))) None) (ap (allows order) (sym price_same) ∙ may)
      ∙ (λ i. Some (record {
        number = sym number_is i;
        instrument = (sym is i).instrument;
        buys = (sym is i).buys;
        price = sym price_same i;
        quantity = quantity;
      }))

  pub partner_none : allows order price ≡ false → partner_told order (Some (key, quantity)) ≡ None
  partner_none may = ap (λ b. cond b (Some (order_told order (key, quantity))) None) (ap (allows order) (sym price_same) ∙ may)

module _ (shape : OrderShape) where
  are_of : (book : OrderBook) → IsBookOf shape.instruments book → AreOrders book.orders
  are_of book is = orders_of shape.instruments book is

  pub tells_next : (last : ℕ) (answer : Option ℕ) → answer ≡ next_number last → (x y : List ℕ) → Tells (HasParts shape) (λ held. held.last) last x y
      → Tells (Stands shape) (λ book. next_number book.last) answer x y
  tells_next last answer is x y t = record { same = t.same; told = λ book stand. is ∙ ap next_number (t.told (held_of book) stand.parts) }

  -- the first partner, from the first entry of the other side
  pub tells_partner : (order : Resting) → 1 ≤ order.instrument → (answer : Option (ℕ × ℕ)) (x y : List ℕ)
      → Tells (HasParts shape) (λ held. first_in (held.sides (side_at order.instrument (not order.buys)))) answer x y
      → Tells (Stands shape) (λ book. first_of (partners order book.orders)) (partner_told order answer) x y
  tells_partner order low answer x y t = record {
    same = t.same;
    told = λ book stand. ap (partner_told order) (t.told (held_of book) stand.parts) ∙ partner_first order book.orders (are_of book stand.book_is) low;
  }

  pub looks_partner : (order : Resting) → 1 ≤ order.instrument → (side : Side)
      → side ≡ record { instrument = order.instrument; buys = not order.buys } → (answer : Option (ℕ × ℕ)) (x y : List ℕ)
      → Tells (HasParts shape) (λ held. first_in (held.sides (side_at side.instrument side.buys))) answer x y
      → Tells (Stands shape) (λ book. first_of (partners order book.orders)) (partner_told order answer) x y
  looks_partner order low side is answer x y t = tells_partner order low answer x y
      (subst (λ (s : Side). Tells (HasParts shape) (λ held. first_in (held.sides (side_at s.instrument s.buys))) answer x y) is t)

  pub looks_as : (order : Resting) → 1 ≤ order.instrument → (side : Side) → side ≡ record { instrument = order.instrument; buys = not order.buys }
      → (answer : Option (ℕ × ℕ)) (told : Option Resting) → partner_told order answer ≡ told → (x y : List ℕ)
      → Tells (HasParts shape) (λ held. first_in (held.sides (side_at side.instrument side.buys))) answer x y
      → Tells (Stands shape) (λ book. first_of (partners order book.orders)) told x y
  looks_as order low side is answer told same x y t =
      subst (λ o. Tells (Stands shape) (λ book. first_of (partners order book.orders)) o x y) same (looks_partner order low side is answer x y t)

  -- it rests, and is in its ranges
  partner_is : (order p : Resting) (book : OrderBook) → IsBookOf shape.instruments book → Some p ≡ first_of (partners order book.orders) → Has p book.orders
  partner_is order p book is told =
      let rest = first_rest (partners order book.orders) p told in
      partner_here order book.orders (are_of book is) (have_quantity shape.instruments book is) p rest.0 rest.1 0

  pub partner_rests : (order p : Resting) (x : List ℕ) (book : OrderBook) → Stands shape x book → Some p ≡ first_of (partners order book.orders)
      → order_at p.number book.orders ≡ Some p
  partner_rests order p x book stand told =
      order_there book.orders (are_of book stand.book_is) p (partner_is order p book stand.book_is told)

  pub partner_range : (order p : Resting) → (x : List ℕ) × (y : List ℕ) × IsGoodFor shape x
      × Tells (Stands shape) (λ book. first_of (partners order book.orders)) (Some p) x y → IsRestingOrder shape.instruments p
  partner_range order p some =
      let book = some.2.0 in
      let stand = some.2.1 in
      of_every (IsRestingOrder shape.instruments) book.orders p stand.book_is.each (partner_is order p book stand.book_is (some.3.told book stand))

  -- words that stand for a book with these orders
  stands_as : (y : List ℕ) (book : OrderBook) (rs orders : List Resting) → rs ≡ orders → Stands shape y (record book { orders = orders })
      → Stands shape y (record book { orders = rs })
  stands_as y book rs orders same = subst (λ (l : List Resting). Stands shape y (record book { orders = l })) (sym same)

  -- a resting order trades
  module _ (p : Resting) (left : ℕ) (x y : List ℕ) (rests : OfModel (Stands shape) (λ book. order_at p.number book.orders ≡ Some p) x) where
    here : (book : OrderBook) (stand : Stands shape x book) → Has p book.orders
    here book stand = (order_is book.orders (are_of book stand.book_is) p.number p (rests book stand)).0

    -- and is filled
    pub filled_all : p.quantity ≤ left → (a b : Option ℕ) → Turns (HasParts shape) (λ held last. (mid : Held)
        × ((a ≡ finite.get (held.sides (side_of p)) (resting_key p)) ×
        (mid ≡ with_side (side_of p) (finite.remove (held.sides (side_of p)) (resting_key p)) held))
        × (b ≡ finite.get mid.places p.number)
        × (last ≡ with_places (finite.remove mid.places p.number) mid)) x y
        → Changes (Stands shape) (after_trade (trade_with left p)) x y
    filled_all le a b t book stand =
        let are = are_of book stand.book_is in
        let done = t.at (held_of book) stand.parts in
        let last_is : done.0 ≡ held_of (record book { orders = all_but p.number book.orders }) =
        done.2.3 ∙ (ap (λ (h : Held). with_places (finite.remove h.places p.number) h) done.2.1.1 ∙ held_without book are p (here book stand)) in
        stands_as y book (orders_after (trade_with left p ∷ []) book.orders) (all_but p.number book.orders)
        (filled_next p book.orders are (have_quantity shape.instruments book stand.book_is) p (here book stand) left le)
        (record {
          blocks_are = stand.blocks_are;
          book_is = fewer_book shape p.number book p (rests book stand)
              (of_every (IsRestingOrder shape.instruments) book.orders p stand.book_is.each (here book stand)).number_is stand.book_is;
          parts = subst (HasParts shape y) last_is done.1;
        })

    -- or has less
    pub filled_partly : left < p.quantity → (put : Put)
        → TellsAndChanges (HasParts shape) (λ held. put_answer (finite.get (held.sides (side_of p)) (resting_key p)) (is_used_up shape held))
        (λ held. with_side (side_of p) (put_by put (resting_key p) (p.quantity - left) (held.sides (side_of p))) held) put x y
        → Changes (Stands shape) (after_trade (trade_with left p)) x y
    filled_partly lt put t book stand =
        let are = are_of book stand.book_is in
        let old : put ≡ Old p.quantity = t.told (held_of book) stand.parts
        ∙ ap (λ o. put_answer o (is_used_up shape (held_of book))) (quantity_found book.orders are p (here book stand)) in
        let last_is : with_side (side_of p) (put_by put (resting_key p) (p.quantity - left) (quantities_on (side_of p) book.orders)) (held_of book)
        ≡ held_of (partly (trade_with left p ∷ []) book) =
        ap (λ u. with_side (side_of p) (put_by u (resting_key p) (p.quantity - left) (quantities_on (side_of p) book.orders)) (held_of book)) old
        ∙ held_partly shape.instruments book stand.book_is p (here book stand) left lt in
        stands_as y book (orders_after (trade_with left p ∷ []) book.orders) (map (after_trades (trade_with left p ∷ [])) book.orders)
        (partly_next p book.orders are (have_quantity shape.instruments book stand.book_is) p (here book stand) left lt)
        (record {
          blocks_are = stand.blocks_are;
          book_is = partly_book shape.instruments book stand.book_is p (here book stand) left lt;
          parts = subst (HasParts shape y) last_is (t.left (held_of book) stand.parts);
        })

-- of an order so much is left after these trades, and what it comes to on the book as it is now is what it comes to at all
pub record IsTrading (order : Resting) (trades : List Trade) (left : ℕ) (book now : OrderBook) : Type 0 where
  pub now_is : now ≡ record book { orders = now.orders }
  pub match_is : in_front trades (match_of (with_left left order) now.orders) ≡ match_of order book.orders

pub trading_begins : (order : Resting) (trades : List Trade) (left : ℕ) → trades ≡ [] → left ≡ order.quantity → (book : OrderBook)
    → IsTrading order trades left book book
trading_begins order trades left none all book = record {
  now_is = refl;
  match_is = λ i. in_front (none i) (match_of (with_left (all i) order) book.orders);
}

module _ (instruments : ℕ) (order : Resting) (trades : List Trade) (left : ℕ) (book now : OrderBook) (is : IsBookOf instruments now)
    (so_far : IsTrading order trades left book now) where
  -- one trade more
  pub trading_more : (p : Resting) → Some p ≡ first_of (partners order now.orders) → left ≢ 0 → (more : List Trade) (less : ℕ)
      → more ≡ trades ++ trade_with left p ∷ [] → less ≡ left - min p.quantity left
      → IsTrading order more less book (after_trade (trade_with left p) now)
  trading_more p told some more less more_is less_is =
      let rest = first_rest (partners order now.orders) p told in
      let are = orders_of instruments now is in
      let turn = match_turn order now.orders are (have_quantity instruments now is) p rest.0 rest.1 left some in
      record {
        now_is = ap (λ (b : OrderBook). record b { orders = orders_after (trade_with left p ∷ []) now.orders }) so_far.now_is;
        match_is = (λ i. in_front (more_is i) (match_of (with_left (less_is i) order) (orders_after (trade_with left p ∷ []) now.orders)))
            ∙ (in_front_more trades (trade_with left p)
            (match_of (with_left (left - min p.quantity left) order) (orders_after (trade_with left p ∷ []) now.orders))
            ∙ (ap (in_front trades) turn ∙ so_far.match_is));
      }

  -- it is done
  pub trading_ends : (left ≡ 0) ⊎ (None ≡ first_of (partners order now.orders))
      → (trades ≡ (match_of order book.orders).trades) × (left ≡ (match_of order book.orders).left)
      × (now ≡ record book { orders = (match_of order book.orders).orders })
  trading_ends ends =
      let ended = match_ends order now.orders (orders_of instruments now is) (have_quantity instruments now is) left
      (elim ends [ inl e ↦ inl e | inr e ↦ inr (first_nothing (partners order now.orders) e) ]) in
      let all : in_front trades (record { trades = []; left = left; orders = now.orders }) ≡ match_of order book.orders =
      ap (in_front trades) (sym ended) ∙ so_far.match_is in (
        sym (append-nil trades) ∙ ap (λ (m : Matched). m.trades) all,
        ap (λ (m : Matched). m.left) all,
        so_far.now_is ∙ ap (λ (m : Matched). record book { orders = m.orders }) all,
      )

-- what a loop of trades comes to
pub matches_order : (shape : OrderShape) (order : Resting) (trades : List Trade) (left : ℕ) (x y : List ℕ)
    → Turns (Stands shape) (λ book now. (trades ≡ (match_of order book.orders).trades) × (left ≡ (match_of order book.orders).left)
    × (now ≡ record book { orders = (match_of order book.orders).orders })) x y → MatchesOrder shape order trades left x y
matches_order shape order trades left x y t = record {
  trades_are = λ book stand. (t.at book stand).2.0;
  left_is = λ book stand. (t.at book stand).2.1;
  others_are = λ book stand. let k = t.at book stand in subst (Stands shape y) k.2.2 k.1;
}

-- an instrument of a book is one of the most
pub few_instruments : (shape : OrderShape) (instrument : ℕ) → IsWithin 1 shape.instruments instrument
    → (x : List ℕ) × IsGoodFor shape x → IsWithin 1 MOST_INSTRUMENTS instrument
few_instruments shape instrument is some = let most = some.1.1.book_is.instruments_are.1 in (is.0, omega (arith, is.1, most))

-- a key that was put found a block, or had one
pub not_full : (put : Put) → (put ≡ New) ⊎ ((was : ℕ) × (put ≡ Old was)) → put ≢ Full
not_full put found e = elim found [
  | inl new ↦ let z : New ≡ Full = sym new ∙ e in absurd (cc)
  | inr old ↦ let z : Old old.0 ≡ Full = sym old.1 ∙ e in absurd (cc)
]

-- the answers to a new key
new_answer : (put : Put) (b : Bool) → put ≢ Full → put ≡ put_answer None b → (put ≡ New) × (b ≡ false)
new_answer put true had e = absurd (had e)
new_answer put false had e = (e, refl)

full_answer : (b : Bool) → Full ≡ put_answer None b → b ≡ true
full_answer true e = refl
full_answer false e = absurd (cc)

-- what of blocks is left for an order more, by whether its two keys found one
room_first : (used blocks : ℕ) → used ≡ blocks → not (nat_lt blocks (used + 2)) ≡ false
room_first used blocks e = let test : nat_lt blocks (used + 2) ≡ true = grind (arith, nat_tests, e) in ap not test

room_second : (used more blocks : ℕ) → more ≡ used + 1 → more ≡ blocks → not (nat_lt blocks (used + 2)) ≡ false
room_second used more blocks is e = let test : nat_lt blocks (used + 2) ≡ true = grind (arith, nat_tests, is, e) in ap not test

room_both : (used more blocks : ℕ) → used ≤ blocks → more ≡ used + 1 → (used == blocks) ≡ false → (more == blocks) ≡ false
    → not (nat_lt blocks (used + 2)) ≡ true
room_both used more blocks le is first second =
    let test : nat_lt blocks (used + 2) ≡ false = grind (arith, nat_tests, le, is, first, second) in ap not test

-- an order that joins those that rest
module _ (shape : OrderShape) (order : Resting) (instrument : IsWithin 1 shape.instruments order.instrument) (price : order.price < HALF)
    (number : order.number < HALF) (x y : List ℕ) (new : OfModel (Stands shape) (λ book. book.last < order.number) x) where
  fit : Fits order
  fit = record { price = omega (arith, price); number = number }

  fresh : (book : OrderBook) → Stands shape x book → (r : Resting) → Has r book.orders → r.number ≢ order.number
  fresh book stand r h e =
      let low = of_every (λ (z : Resting). z.number ≤ book.last) book.orders r stand.book_is.room.given h in
      let high = new book stand in
      omega (arith, low, high, e)

  side_below : side_of order < sides_of shape
  side_below = side_in_range shape.instruments order instrument

  absent : (book : OrderBook) → Stands shape x book → finite.get (quantities_on (side_of order) book.orders) (resting_key order) ≡ None
  absent book stand = get_map resting_key (λ (r : Resting). r.quantity) (resting_key order) (filter (λ (r : Resting). side_of r == side_of order) book.orders)
      ∙ ap (option_map (λ (r : Resting). r.quantity))
      (first_none resting_key (λ (r : Resting). r.quantity) (resting_key order) (filter (λ (r : Resting). side_of r == side_of order) book.orders)
      (λ r h e. let t = (has_filtered (λ (z : Resting). side_of z == side_of order) book.orders r h).0 in
      fresh book stand r t (keys_number r order ((orders_of shape.instruments book stand.book_is).fit r t) fit e)))

  no_place : (book : OrderBook) → Stands shape x book → finite.get (places_of book.orders) order.number ≡ None
  no_place book stand = place_found book.orders (orders_of shape.instruments book stand.book_is) order.number
      ∙ ap (option_map place_of) (first_none (λ (r : Resting). r.number) place_of order.number book.orders (fresh book stand))

  used_is : (book : OrderBook) → Stands shape x book → entries_in shape (held_of book) ≡ blocks_of book.orders
  used_is book stand = entries_counted shape book stand.book_is

  used_most : (book : OrderBook) → Stands shape x book → entries_in shape (held_of book) ≤ shape.blocks
  used_most book stand = omega (arith, counted shape x (held_of book) stand.parts)

  -- its first key found no block
  pub rests_not : TellsAndChanges (HasParts shape) (λ held. put_answer (finite.get (held.sides (side_of order)) (resting_key order)) (is_used_up shape held))
      (λ held. with_side (side_of order) (put_by Full (resting_key order) order.quantity (held.sides (side_of order))) held) Full x y
      → PutsOrder shape order false x y
  rests_not t = record {
    answer = λ book stand.
        let told = t.told (held_of book) stand.parts ∙ ap (λ o. put_answer o (is_used_up shape (held_of book))) (absent book stand) in
        let all = eqb-true (entries_in shape (held_of book)) shape.blocks (full_answer (is_used_up shape (held_of book)) told) in
        let used = used_is book stand in
        let blocks = stand.blocks_are in
        sym (room_first (blocks_of book.orders) book.blocks (omega (arith, all, used, blocks)));
    left = λ e. absurd (cc);
  }

  -- its second key was put too, or found none
  module _ (first second : Put) (had : first ≢ Full) (t : Turns (HasParts shape) (λ held last. (mid : Held)
      × ((first ≡ put_answer (finite.get (held.sides (side_of order)) (resting_key order)) (is_used_up shape held))
      × (mid ≡ with_side (side_of order) (put_by first (resting_key order) order.quantity (held.sides (side_of order))) held))
      × (second ≡ put_answer (finite.get mid.places order.number) (is_used_up shape mid))
      × (last ≡ with_places (put_by second order.number (place_of order) mid.places) mid)) x y) where
    abbrev with_key : OrderBook → Held
    with_key book = with_side (side_of order) (finite.insert (quantities_on (side_of order) book.orders) (resting_key order) order.quantity) (held_of book)

    first_was : (book : OrderBook) (stand : Stands shape x book) → (first ≡ New) × (is_used_up shape (held_of book) ≡ false)
    first_was book stand = new_answer first (is_used_up shape (held_of book)) had
        ((t.at (held_of book) stand.parts).2.1.0 ∙ ap (λ o. put_answer o (is_used_up shape (held_of book))) (absent book stand))

    mid_is : (book : OrderBook) (stand : Stands shape x book) → (t.at (held_of book) stand.parts).2.0 ≡ with_key book
    mid_is book stand = (t.at (held_of book) stand.parts).2.1.1
        ∙ ap (λ u. with_side (side_of order) (put_by u (resting_key order) order.quantity (quantities_on (side_of order) book.orders)) (held_of book))
        (first_was book stand).0

    more_used : (book : OrderBook) → Stands shape x book → entries_in shape (with_key book) ≡ entries_in shape (held_of book) + 1
    more_used book stand =
        let m = quantities_on (side_of order) book.orders in
        let longer = len_after_insert nat_cmp_total m (resting_key order) order.quantity (absent book stand) in
        let here : finite.len ((with_key book).sides (side_of order)) ≡ finite.len (finite.insert m (resting_key order) order.quantity) =
        ap (λ b. finite.len (cond b (finite.insert m (resting_key order) order.quantity) m)) (eq-eqb (side_of order) (side_of order) refl) in
        let sums = sum_changed 0 (sides_of shape) (side_of order) (λ side. finite.len ((with_key book).sides side))
        (λ side. finite.len (quantities_on side book.orders))
        (λ side ne. ap (λ b. finite.len (cond b (finite.insert m (resting_key order) order.quantity) (quantities_on side book.orders)))
        (ne_eqb side (side_of order) ne))
        (omega arith) (omega (arith, side_below)) in
        omega (arith, longer, here, sums)

    second_was : (book : OrderBook) (stand : Stands shape x book) → second ≡ put_answer None (is_used_up shape (with_key book))
    second_was book stand = (t.at (held_of book) stand.parts).2.2
        ∙ (ap (λ (h : Held). put_answer (finite.get h.places order.number) (is_used_up shape h)) (mid_is book stand)
        ∙ ap (λ o. put_answer o (is_used_up shape (with_key book))) (no_place book stand))

    pub rests_full : second ≡ Full → PutsOrder shape order false x y
    rests_full is = record {
      answer = λ book stand.
          let all = eqb-true (entries_in shape (with_key book)) shape.blocks
          (full_answer (is_used_up shape (with_key book)) (sym is ∙ second_was book stand)) in
          let used = used_is book stand in
          let more = more_used book stand in
          let blocks = stand.blocks_are in
          sym (room_second (blocks_of book.orders) (entries_in shape (with_key book)) book.blocks (omega (arith, more, used)) (omega (arith, all, blocks)));
      left = λ e. absurd (cc);
    }

    pub rests_both : second ≢ Full → PutsOrder shape order true x y
    rests_both found = record {
      answer = λ book stand.
          let was = new_answer second (is_used_up shape (with_key book)) found (second_was book stand) in
          let used = used_is book stand in
          let most = used_most book stand in
          let more = more_used book stand in
          sym (subst (λ n. not (nat_lt n (blocks_of book.orders + 2)) ≡ true) (sym stand.blocks_are)
          (subst (λ n. not (nat_lt shape.blocks (n + 2)) ≡ true) used
          (room_both (entries_in shape (held_of book)) (entries_in shape (with_key book)) shape.blocks most more (first_was book stand).1 was.1)));
      left = λ e book stand.
          let was = new_answer second (is_used_up shape (with_key book)) found (second_was book stand) in
          let done = t.at (held_of book) stand.parts in
          let last_is : done.0 ≡ held_of (record book { orders = book.orders ++ order ∷ [] }) =
          done.2.3 ∙ (ap (λ (h : Held). with_places (put_by second order.number (place_of order) h.places) h) (mid_is book stand)
          ∙ (ap (λ u. with_places (put_by u order.number (place_of order) (places_of book.orders)) (with_key book)) was.0
          ∙ held_with book (orders_of shape.instruments book stand.book_is) order (fresh book stand) fit)) in
          subst (HasParts shape y) last_is done.1;
    }

-- an order of which nothing is left needs no blocks
pub rests_nothing : (shape : OrderShape) (order : Resting) (x : List ℕ) → order.quantity ≡ 0 → RestsOrder shape order true x x
rests_nothing shape order x none = record {
  answer = λ book stand. sym (ap not (nothing (nat_lt book.blocks (blocks_of book.orders + 2))));
  left = λ e book stand. subst (λ (l : List Resting). HasParts shape x (held_of (record book { orders = l }))) (sym (same book)) stand.parts;
}
  where
    nothing : (b : Bool) → (nat_lt 0 order.quantity && b) ≡ false
    nothing b = let test : nat_lt 0 order.quantity ≡ false = grind (arith, nat_tests, none) in ap (λ c. c && b) test

    same : (book : OrderBook) → book.orders ++ rest_of order order.quantity ≡ book.orders
    same book = ap (λ b. book.orders ++ cond b [] (order ∷ [])) (eq-eqb order.quantity 0 none) ∙ append-nil book.orders

-- and one of which something is left needs two
pub rests_some : (shape : OrderShape) (order : Resting) (b : Bool) (x y : List ℕ) → order.quantity ≢ 0 → PutsOrder shape order b x y
    → RestsOrder shape order b x y
rests_some shape order b x y some puts = record {
  answer = λ book stand. puts.answer book stand ∙ sym (ap not (all (nat_lt book.blocks (blocks_of book.orders + 2))));
  left = λ e book stand. subst (λ (l : List Resting). HasParts shape y (held_of (record book { orders = l }))) (sym (same book)) (puts.left e book stand);
}
  where
    all : (c : Bool) → (nat_lt 0 order.quantity && c) ≡ c
    all c = let test : nat_lt 0 order.quantity ≡ true = grind (arith, nat_tests, some) in ap (λ d. d && c) test

    same : (book : OrderBook) → book.orders ++ rest_of order order.quantity ≡ book.orders ++ order ∷ []
    same book = ap (λ d. book.orders ++ cond d [] (order ∷ [])) (ne_eqb order.quantity 0 some)
