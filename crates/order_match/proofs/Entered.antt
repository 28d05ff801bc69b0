-- What an order that enters comes to is the interpreter's step.
use Rattle.order_match.proofs.Common.{◌≡◌, ℕ, ◌+◌, ◌<◌, ◌≤◌, ◌==◌, nat_lt, Bool, true, false, cond, not, ◌&&◌, if◌then◌else◌, List, ◌++◌, Some, None, refl, sym}
use Rattle.order_match.proofs.Common.{ap, ◌∙◌, subst, arith, ne_eqb, nat_tests, same_Some, GREATEST_ORDER, Resting, Trade, Gives, Matched, match_of, rest_of}
use Rattle.order_match.proofs.Common.{OrderBook, blocks_of, IsBookOf, books_kept, Changes, Tells, OrderShape, HasParts, Stands, held_of, with_last}
use Rattle.order_match.proofs.Common.{MatchesOrder, RestsOrder, next_number}
use Rattle.order_text.proofs.Common.{incoming, IsLimitOrder}
use Rattle.std.proofs.Common.{◌||◌}
use Rattle.books_report.specs.Stores.Interpreter.{Step as step}
use Rattle.order_text.specs.Interpreter.{enter, enter_next, entered}
use Rattle.order_match.specs.Operating.{EntersOrder}
use Rattle.order_text.specs.declared.reply.OrderValue.TheVariants as value
use Rattle.order_text.specs.declared.script.OrderOp.TheVariants as op
use Rattle.books_report.specs.declared.stores.outcome.Outcome.TheVariants as outcome

-- a number that is next
next_is : (last number : ℕ) → Some number ≡ next_number last → (number ≡ last + 1) × (last < GREATEST_ORDER)
next_is last number told = at (nat_lt last GREATEST_ORDER) refl
  where
    at : (b : Bool) → nat_lt last GREATEST_ORDER ≡ b → (number ≡ last + 1) × (last < GREATEST_ORDER)
    at true e = (same_Some number (last + 1) (told ∙ ap (λ b. cond b (Some (last + 1)) None) e), grind (arith, nat_tests, e))
    at false e = absurd (let z : Some number ≡ None = told ∙ ap (λ b. cond b (Some (last + 1)) None) e in cc)

none_next : (last : ℕ) → last ≤ GREATEST_ORDER → None ≡ next_number last → (last == GREATEST_ORDER) ≡ true
none_next last most told = at (nat_lt last GREATEST_ORDER) refl
  where
    at : (b : Bool) → nat_lt last GREATEST_ORDER ≡ b → (last == GREATEST_ORDER) ≡ true
    at true e = absurd (let z : None ≡ Some (last + 1) = told ∙ ap (λ b. cond b (Some (last + 1)) None) e in cc)
    at false e = grind (arith, nat_tests, e, most)

-- the last number before is below it
pub last_below : (last number : ℕ) → Some number ≡ next_number last → last < number
last_below last number told = let k = (next_is last number told).0 in omega (arith, k)

not_greatest : (last : ℕ) → last < GREATEST_ORDER → (last == GREATEST_ORDER) ≡ false
not_greatest last lt = ne_eqb last GREATEST_ORDER (λ e. omega (arith, lt, e))

module _ (shape : OrderShape) (buys : Bool) (instrument price quantity : ℕ) (limits : IsLimitOrder shape.instruments instrument price quantity) where
  abbrev pub order_with : ℕ → Resting
  order_with number = record { number = number; instrument = instrument; buys = buys; price = price; quantity = quantity }

  -- a book after the trades of the order, which has no number yet
  abbrev traded : OrderBook → OrderBook
  traded book = record book { orders = (match_of (order_with 0) book.orders).orders }

  -- no number is left, once it has traded
  pub enters_no_number : (left : ℕ) (trades : List Trade) (x y z : List ℕ) → MatchesOrder shape (order_with 0) trades left x y
      → Tells (Stands shape) (λ book. next_number book.last) None y z → EntersOrder shape buys instrument price quantity outcome.Full x z
  enters_no_number left trades x y z m t = record {
    comes = λ book stand. (
      book,
      ap (λ b. if b || (nat_lt 0 (match_of (incoming book buys instrument price quantity) book.orders).left
          && nat_lt book.blocks (blocks_of (match_of (incoming book buys instrument price quantity) book.orders).orders + 2))
          then step.Full
          else Gives (value.Entered (book.last + 1) (match_of (incoming book buys instrument price quantity) book.orders).trades)
          (entered (incoming book buys instrument price quantity) (match_of (incoming book buys instrument price quantity) book.orders) book))
          (none_next book.last stand.book_is.room.last_is (t.told (traded book) (m.others_are book stand))),
      tt,
    );
  }

  -- the book that is entered is one
  kept : (b : Bool) → buys ≡ b → (book next : OrderBook) (number : ℕ) (trades : List Trade) → IsBookOf shape.instruments book
      → enter_next book (incoming book b instrument price quantity) ≡ Gives (value.Entered number trades) next → IsBookOf shape.instruments next
  kept true same book next number trades is e =
      books_kept shape.instruments (op.Buy instrument price quantity) book next (value.Entered number trades) is limits e
  kept false same book next number trades is e =
      books_kept shape.instruments (op.Sell instrument price quantity) book next (value.Entered number trades) is limits e

  module _ (number left : ℕ) (trades : List Trade) (book : OrderBook) (is : IsBookOf shape.instruments book)
      (told : Some number ≡ next_number book.last) (trades_are : trades ≡ (match_of (order_with number) book.orders).trades)
      (left_is : left ≡ (match_of (order_with number) book.orders).left) where
    abbrev order : Resting
    order = order_with number

    abbrev matched : Matched
    matched = match_of (order_with number) book.orders

    is_next : order_with number ≡ incoming book buys instrument price quantity
    is_next = ap order_with (next_is book.last number told).0

    some_number : (book.last == GREATEST_ORDER) ≡ false
    some_number = not_greatest book.last (next_is book.last number told).1

    -- the step, if it is known whether there is room
    step_by : (b : Bool) → (nat_lt 0 left && nat_lt book.blocks (blocks_of matched.orders + 2)) ≡ b
        → enter_next book (incoming book buys instrument price quantity)
        ≡ (if b then step.Full else Gives (value.Entered number trades) (entered order matched book))
    step_by b e =
        ap (λ (o : Resting). enter o (match_of o book.orders) book) (sym is_next)
        ∙ (ap (λ t. if t || (nat_lt 0 matched.left && nat_lt book.blocks (blocks_of matched.orders + 2)) then step.Full
        else Gives (value.Entered number matched.trades) (entered order matched book)) some_number
        ∙ ((λ i. if nat_lt 0 (sym left_is i) && nat_lt book.blocks (blocks_of matched.orders + 2) then step.Full
        else Gives (value.Entered number (sym trades_are i)) (entered order matched book))
        ∙ ap (λ t. if t then step.Full else Gives (value.Entered number trades) (entered order matched book)) e))

    pub lacks_room : (nat_lt 0 left && nat_lt book.blocks (blocks_of matched.orders + 2)) ≡ true
        → enter_next book (incoming book buys instrument price quantity) ≡ step.Full
    lacks_room e = step_by true e

    pub gives : (nat_lt 0 left && nat_lt book.blocks (blocks_of matched.orders + 2)) ≡ false
        → enter_next book (incoming book buys instrument price quantity) ≡ Gives (value.Entered number trades) (entered order matched book)
    gives e = step_by false e

    -- words that stand for it
    pub stands_entered : (y : List ℕ) → book.blocks ≡ shape.blocks → (nat_lt 0 left && nat_lt book.blocks (blocks_of matched.orders + 2)) ≡ false
        → HasParts shape y (held_of (entered order matched book)) → Stands shape y (entered order matched book)
    stands_entered y blocks e parts = record {
      blocks_are = blocks;
      book_is = kept buys refl book (entered order matched book) number trades is (gives e);
      parts = parts;
    }

  -- with no room for what is left
  pub enters_no_room : (number left : ℕ) (trades : List Trade) (x y z w : List ℕ) → MatchesOrder shape (order_with 0) trades left x y
      → Tells (Stands shape) (λ book. next_number book.last) (Some number) y z → RestsOrder shape (record (order_with number) { quantity = left }) false z w
      → EntersOrder shape buys instrument price quantity outcome.Full x w
  enters_no_room number left trades x y z w m t r = record {
    comes = λ book stand.
        let others = m.others_are book stand in (
          book,
          lacks_room number left trades book stand.book_is (t.told (traded book) others) (m.trades_are book stand) (m.left_is book stand)
              (turned (nat_lt 0 left && nat_lt book.blocks (blocks_of (match_of (order_with number) book.orders).orders + 2))
              (r.answer (traded book) (subst (λ (l : List ℕ). Stands shape l (traded book)) (sym t.same) others))),
          tt,
        );
  }
    where
      turned : (b : Bool) → false ≡ not b → b ≡ true
      turned true e = refl
      turned false e = absurd (cc)

  -- with room for it, or with nothing left
  pub enters_done : (number left : ℕ) (trades : List Trade) (x y z v w : List ℕ) → MatchesOrder shape (order_with 0) trades left x y
      → Tells (Stands shape) (λ book. next_number book.last) (Some number) y z
      → RestsOrder shape (record (order_with number) { quantity = left }) true z v
      → Changes (HasParts shape) (with_last number) v w
      → EntersOrder shape buys instrument price quantity (outcome.Gives (value.Entered number trades)) x w
  enters_done number left trades x y z v w m t r change = record {
    comes = λ book stand.
        let told = t.told _ (m.others_are book stand) in
        let trades_are = m.trades_are book stand in
        let left_is = m.left_is book stand in
        let others = subst (λ (l : List ℕ). Stands shape l (traded book)) (sym t.same) (m.others_are book stand) in
        let room = turned (nat_lt 0 left && nat_lt book.blocks (blocks_of (match_of (order_with number) book.orders).orders + 2))
        (r.answer (traded book) others) in (
          entered (order_with number) (match_of (order_with number) book.orders) book,
          gives number left trades book stand.book_is told trades_are left_is room,
          stands_entered number left trades book stand.book_is told trades_are left_is w stand.blocks_are room
              (subst (λ n. HasParts shape w (held_of (record {
                blocks = book.blocks;
                last = number;
                orders = (match_of (order_with number) book.orders).orders ++ rest_of (order_with number) n;
              })))
              left_is (change _ (r.left refl (traded book) others))),
        );
  }
    where
      turned : (b : Bool) → true ≡ not b → b ≡ false
      turned true e = absurd (cc)
      turned false e = refl
