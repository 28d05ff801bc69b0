-- Best prices are apart, and books stay books, after each operation and each script.
use Rattle.order_text.proofs.Common.{◌≡◌, ◌≢◌, ℕ, ◌+◌, ◌-◌, ◌<◌, ◌≤◌, Bool, true, false, not, ◌&&◌, ◌==◌, nat_lt, ⊎_elim, List, ◌++◌, Option, Some, refl, sym}
use Rattle.order_text.proofs.Common.{ap, ◌∙◌, subst, arith, eq-eqb, if◌then◌else◌, cases_lt, nat_tests, All-filter, GREATEST_ORDER, Resting, OrderOp, Trade}
use Rattle.order_text.proofs.Common.{Gives, incoming, with_order, BestPricesApart, after_trades, has_quantity, may_trade, orders_after, partners, rest_of}
use Rattle.order_text.proofs.Common.{trades_down, volume, OrderBook, all_but, blocks_of, empty_book, HasRoom, IsBlockCount, IsBookOf, IsLimitOrder, IsOrderOp}
use Rattle.order_text.proofs.Common.{IsOrderScript}
use Rattle.books_report.proofs.Common.{Step, Absent, Full}
use Rattle.std.proofs.Common.{◌||◌, nat_le, None}
use Rattle.order_text.specs.declared.reply.OrderValue.{OrderValue}
use Rattle.order_text.specs.Interpreter.{enter_next, entered, has_no_room, order_outcome_of, order_step_of}
use Rattle.order_text.specs.Matching.{allows, match_of}
use Rattle.order_text.specs.Orders.{order_at}
use Rattle.order_text.specs.Ranges.{IsInstrumentCount, IsRestingOrder}
use Rattle.order_text.proofs.Entering.{IsRest, Stayed, entered_has, no_partner_left}
use Rattle.order_text.proofs.Members.{Has, has_filtered, of_each, of_every}
use Rattle.order_text.proofs.Prices.{AreApart, all_apart, best_apart, is_on_true}
use Rattle.order_text.proofs.Rooms.{empty_has_room, entered_has_room, fewer_have_room}
use Rattle.order_text.specs.declared.script.OrderOp.TheVariants as op
use Rattle.order_text.specs.declared.reply.OrderValue.TheVariants as value
use Rattle.books_report.proofs.AnyStore.Kept as kept

-- a book of so many instruments, in which prices are apart
record IsApartBook (instruments : ℕ) (book : OrderBook) : Type 0 where
  book_is : IsBookOf instruments book
  apart : AreApart book.orders

allowed : (order r : Resting) → r.instrument ≡ order.instrument → r.buys ≡ not order.buys → allows order r.price ≡ true → may_trade order r ≡ true
allowed order r e f may = ap (λ (b : Bool). b && allows order r.price) (is_on_true order.instrument (not order.buys) r e f) ∙ may

-- an order enters
module _ (instruments : ℕ) (book : OrderBook) (order : Resting) (is : IsBookOf instruments book) (next : order.number ≡ book.last + 1)
    (limits : IsLimitOrder instruments order.instrument order.price order.quantity) (room : has_no_room book (match_of order book.orders) ≡ false) where
  abbrev trades : List Trade
  trades = trades_down order.quantity (partners order book.orders)

  abbrev left : ℕ
  left = order.quantity - volume trades

  number_left : book.last ≢ GREATEST_ORDER
  number_left e = let z : (book.last == GREATEST_ORDER) ≡ true = eq-eqb book.last GREATEST_ORDER e in
      let n : (true || (nat_lt 0 left && nat_lt book.blocks (blocks_of (orders_after trades book.orders) + 2))) ≡ false =
      subst (λ (b : Bool). (b || (nat_lt 0 left && nat_lt book.blocks (blocks_of (orders_after trades book.orders) + 2))) ≡ false) z room in absurd (cc)

  has_blocks : (nat_lt 0 left && nat_lt book.blocks (blocks_of (orders_after trades book.orders) + 2)) ≡ false
  has_blocks = second (book.last == GREATEST_ORDER) (nat_lt 0 left && nat_lt book.blocks (blocks_of (orders_after trades book.orders) + 2)) room
    where
      second : (a b : Bool) → (a || b) ≡ false → b ≡ false
      second true b e = absurd (cc)
      second false b e = e

  entered_room : HasRoom (entered order (match_of order book.orders) book)
  entered_room = subst
      (λ (n : ℕ). HasRoom (record { blocks = book.blocks; last = n; orders = orders_after trades book.orders ++ rest_of order left })) (sym next)
      (entered_has_room book.blocks book.last book.orders trades order is.room next left number_left has_blocks)

  -- each order that rests then is in its ranges
  each_is : (z : Resting) → Has z (orders_after trades book.orders ++ rest_of order left) → IsRestingOrder instruments z
  each_is z h = ⊎_elim (λ (old : Stayed trades book.orders z). let r = old.0 in let was = of_every (IsRestingOrder instruments) book.orders r is.each old.1.0 in
      subst (IsRestingOrder instruments) (sym old.1.1) record {
        number_is = was.number_is;
        limits_are = record {
          instrument_is = was.limits_are.instrument_is;
          price_is = was.limits_are.price_is;
          quantity_is = let some_left = positive (after_trades trades r) (ap has_quantity (sym old.1.1) ∙ old.1.2) in let most = was.limits_are.quantity_is.1 in
              (omega arith, omega arith);
        };
      })
      (λ (new : IsRest order left z). let low = new.0 in let most = is.room.last_is in let below = number_left in
      subst (IsRestingOrder instruments) (sym new.1) record {
        number_is = (omega arith, omega arith);
        limits_are = record {
          instrument_is = limits.instrument_is;
          price_is = limits.price_is;
          quantity_is = let high = limits.quantity_is.1 in (omega arith, omega arith);
        };
      }) (entered_has trades book.orders order left z h)
    where
      positive : (r : Resting) → has_quantity r ≡ true → 0 < r.quantity
      positive r e = grind (arith, nat_tests, e)

  entered_book : IsBookOf instruments (entered order (match_of order book.orders) book)
  entered_book = record {
    room = entered_room;
    instruments_are = is.instruments_are;
    each = of_each (IsRestingOrder instruments) (orders_after trades book.orders ++ rest_of order left) each_is;
  }

  -- an order that rested and still does is not one with which the new one may trade, if something is left of that
  not_partner : (r : Resting) → Has r book.orders → has_quantity (after_trades trades r) ≡ true → left ≢ 0 → may_trade order r ≢ true
  not_partner r h stays some_left may = let gone = no_partner_left order book.orders is.room.rising r h may (omega arith) in
      let z : true ≡ false = sym stays ∙ gone in absurd (cc)

  -- so it is apart from it
  sell_above : AreApart book.orders → (r : Resting) → Has r book.orders → has_quantity (after_trades trades r) ≡ true → left ≢ 0
      → order.buys ≡ true → r.buys ≡ false → r.instrument ≡ order.instrument → order.price < r.price
  sell_above apart r h stays some_left buys sells same = ⊎_elim (λ (lt : order.price < r.price). lt)
      (λ (le : r.price ≤ order.price). absurd (not_partner r h stays some_left (allowed order r same (sells ∙ ap not (sym buys))
      (ap (λ (b : Bool). if b then nat_le r.price order.price else nat_le order.price r.price) buys ∙ at_most r.price order.price le))))
      (cases_lt order.price r.price)
    where
      at_most : (a b : ℕ) → a ≤ b → nat_le a b ≡ true
      at_most a b le = grind (arith, nat_tests)

  buy_below : AreApart book.orders → (r : Resting) → Has r book.orders → has_quantity (after_trades trades r) ≡ true → left ≢ 0
      → order.buys ≡ false → r.buys ≡ true → r.instrument ≡ order.instrument → r.price < order.price
  buy_below apart r h stays some_left sells buys same = ⊎_elim (λ (lt : r.price < order.price). lt)
      (λ (le : order.price ≤ r.price). absurd (not_partner r h stays some_left (allowed order r same (buys ∙ ap not (sym sells))
      (ap (λ (b : Bool). if b then nat_le r.price order.price else nat_le order.price r.price) sells ∙ at_most order.price r.price le))))
      (cases_lt r.price order.price)
    where
      at_most : (a b : ℕ) → a ≤ b → nat_le a b ≡ true
      at_most a b le = grind (arith, nat_tests)

  entered_apart : AreApart book.orders → AreApart (orders_after trades book.orders ++ rest_of order left)
  entered_apart apart b s hb hs buys sells same =
      ⊎_elim (λ (ob : Stayed trades book.orders b). ⊎_elim
      (λ (os : Stayed trades book.orders s). let eb = ob.1.1 in let es = os.1.1 in
      let lt = apart ob.0 os.0 ob.1.0 os.1.0 (ap (λ (w : Resting). w.buys) (sym eb) ∙ buys) (ap (λ (w : Resting). w.buys) (sym es) ∙ sells)
      (ap (λ (w : Resting). w.instrument) (sym eb) ∙ (same ∙ ap (λ (w : Resting). w.instrument) es)) in
      prices b s ob.0.price os.0.price (ap (λ (w : Resting). w.price) eb) (ap (λ (w : Resting). w.price) es) lt)
      (λ (ns : IsRest order left s). let eb = ob.1.1 in let es = ns.1 in
      let lt = buy_below apart ob.0 ob.1.0 (ap has_quantity (sym eb) ∙ ob.1.2) ns.0 (ap (λ (w : Resting). w.buys) (sym es) ∙ sells)
      (ap (λ (w : Resting). w.buys) (sym eb) ∙ buys) (ap (λ (w : Resting). w.instrument) (sym eb) ∙ (same ∙ ap (λ (w : Resting). w.instrument) es)) in
      prices b s ob.0.price order.price (ap (λ (w : Resting). w.price) eb) (ap (λ (w : Resting). w.price) es) lt)
      (entered_has trades book.orders order left s hs))
      (λ (nb : IsRest order left b). ⊎_elim
      (λ (os : Stayed trades book.orders s). let eb = nb.1 in let es = os.1.1 in
      let lt = sell_above apart os.0 os.1.0 (ap has_quantity (sym es) ∙ os.1.2) nb.0 (ap (λ (w : Resting). w.buys) (sym eb) ∙ buys)
      (ap (λ (w : Resting). w.buys) (sym es) ∙ sells) (ap (λ (w : Resting). w.instrument) (sym es) ∙ (sym same ∙ ap (λ (w : Resting). w.instrument) eb)) in
      prices b s order.price os.0.price (ap (λ (w : Resting). w.price) eb) (ap (λ (w : Resting). w.price) es) lt)
      (λ (ns : IsRest order left s). let z : true ≡ false = sym buys
      ∙ (ap (λ (w : Resting). w.buys) nb.1 ∙ (ap (λ (w : Resting). w.buys) (sym ns.1) ∙ sells)) in absurd (cc))
      (entered_has trades book.orders order left s hs)) (entered_has trades book.orders order left b hb)
    where
      prices : (x y : Resting) (p q : ℕ) → x.price ≡ p → y.price ≡ q → p < q → x.price < y.price
      prices x y p q e f lt = omega arith

-- the empty book is a book, in which they are so
pub empty_is : (blocks instruments : ℕ) → IsBlockCount blocks → IsInstrumentCount instruments
    → IsBookOf instruments (empty_book blocks) × BestPricesApart (empty_book blocks).orders
empty_is blocks instruments range count = (
  record { room = empty_has_room blocks range; instruments_are = count; each = λ k d lt. absurd (omega arith) },
  λ instrument some_buy some_sell. absurd (some_buy refl),
)

-- what a step that gives a book says of it
abbrev StepKeeps : ℕ → OrderBook → Step OrderValue OrderBook → Type 0
StepKeeps instruments book = kept.StepKeeps (λ next. IsBookOf instruments next × (AreApart book.orders → AreApart next.orders))

enter_keeps : (instruments : ℕ) (book : OrderBook) (order : Resting) → IsBookOf instruments book → order.number ≡ book.last + 1
    → IsLimitOrder instruments order.instrument order.price order.quantity → StepKeeps instruments book (enter_next book order)
enter_keeps instruments book order is next limits = by (has_no_room book (match_of order book.orders)) refl
  where
    by : (b : Bool) → has_no_room book (match_of order book.orders) ≡ b
        → StepKeeps instruments book (if b then Full
        else Gives (value.Entered order.number (match_of order book.orders).trades) (entered order (match_of order book.orders) book))
    by true e = tt
    by false e = (entered_book instruments book order is next limits e, entered_apart instruments book order is next limits e)

cancel_keeps : (instruments number : ℕ) (book : OrderBook) (found : Option Resting) → IsBookOf instruments book
    → StepKeeps instruments book (with_order found (λ order. Gives (value.Cancelled order.quantity) (record book { orders = all_but number book.orders })))
cancel_keeps instruments number book None is = tt
cancel_keeps instruments number book (Some order) is = (
  record {
    room = fewer_have_room (λ r. not (r.number == number)) book is.room;
    instruments_are = is.instruments_are;
    each = All-filter (λ r. not (r.number == number)) (IsRestingOrder instruments) book.orders is.each;
  },
  λ apart b s hb hs. apart b s (has_filtered (λ r. not (r.number == number)) book.orders b hb).0
      (has_filtered (λ r. not (r.number == number)) book.orders s hs).0,
)

step_keeps : (instruments : ℕ) (o : OrderOp) (book : OrderBook) → IsBookOf instruments book → IsOrderOp instruments o
    → StepKeeps instruments book (order_step_of o book)
step_keeps instruments (op.Buy instrument price quantity) book is range =
    enter_keeps instruments book (incoming book true instrument price quantity) is refl range
step_keeps instruments (op.Sell instrument price quantity) book is range =
    enter_keeps instruments book (incoming book false instrument price quantity) is refl range
step_keeps instruments (op.Cancel number) book is range = cancel_keeps instruments number book (order_at number book.orders) is
step_keeps instruments (op.Best instrument) book is range = (is, λ apart. apart)

priced : (instruments : ℕ) (book : OrderBook) → IsBookOf instruments book → (r : Resting) → Has r book.orders → 1 ≤ r.price
priced instruments book is r h = (of_every (IsRestingOrder instruments) book.orders r is.each h).limits_are.price_is.0

pub books_kept : (instruments : ℕ) (o : OrderOp) (book next : OrderBook) (v : OrderValue) → IsBookOf instruments book → IsOrderOp instruments o
    → order_step_of o book ≡ Gives v next → IsBookOf instruments next
books_kept instruments o book next v is range e = (subst (StepKeeps instruments book) e (step_keeps instruments o book is range)).0

pub apart_kept : (instruments : ℕ) (o : OrderOp) (book next : OrderBook) (v : OrderValue) → IsBookOf instruments book → IsOrderOp instruments o
    → order_step_of o book ≡ Gives v next → BestPricesApart book.orders → BestPricesApart next.orders
apart_kept instruments o book next v is range e apart =
    best_apart next.orders ((subst (StepKeeps instruments book) e (step_keeps instruments o book is range)).1
    (all_apart book.orders (priced instruments book is) apart))

-- a step from a book in which prices are apart keeps both
apart_step : (instruments : ℕ) (book : OrderBook) (s : Step OrderValue OrderBook) → AreApart book.orders → StepKeeps instruments book s
    → kept.StepKeeps (IsApartBook instruments) s
apart_step instruments book (Gives v next) apart step = record { book_is = step.0; apart = step.1 apart }
apart_step instruments book Absent apart step = tt
apart_step instruments book Full apart step = tt

pub scripts_keep : (instruments : ℕ) (script : List OrderOp) (book : OrderBook) → IsBookOf instruments book → IsOrderScript instruments script
    → BestPricesApart book.orders → IsBookOf instruments (order_outcome_of script book).1 × BestPricesApart (order_outcome_of script book).1.orders
scripts_keep instruments script book is ranges apart =
    let after = kept.script_keeps (IsApartBook instruments) order_step_of (IsOrderOp instruments)
    (λ o b range is. apart_step instruments b (order_step_of o b) is.apart (step_keeps instruments o b is.book_is range)) script book ranges.each
    (record { book_is = is; apart = all_apart book.orders (priced instruments book is) apart }) in
    (after.book_is, best_apart (order_outcome_of script book).1.orders after.apart)
