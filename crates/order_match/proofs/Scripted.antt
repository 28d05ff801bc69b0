-- What cancelling an order and telling the best prices come to, on words that stand for a book.
use Rattle.order_match.proofs.Common.{same_Some, option_map, ◌≡◌, ℕ, true, false, List, Option, Some, None, refl, sym, ap, subst, Gives, Resting, OrderBook}
use Rattle.order_match.proofs.Common.{all_but, order_at, with_order, TellsAndChanges, Saw, OrderShape, Stands, best_on, quantity_at, without_order}
use Rattle.books_report.specs.Stores.Interpreter.{Step as step}
use Rattle.order_match.specs.Operating.{MeetsStep}
use Rattle.order_match.proofs.Books.{none_taken}
use Rattle.books_report.specs.declared.stores.outcome.Outcome.TheVariants as outcome
use Rattle.order_text.specs.declared.script.OrderOp.TheVariants as op
use Rattle.order_text.specs.declared.reply.OrderValue.TheVariants as value

module _ (shape : OrderShape) (x y : List ℕ) where
  cancel_step : (number quantity : ℕ) (book : OrderBook) (found : Option Resting) → Some quantity ≡ option_map (λ (r : Resting). r.quantity) found
      → with_order found (λ order. Gives (value.Cancelled order.quantity) (without_order number book))
      ≡ Gives (value.Cancelled quantity) (without_order number book)
  cancel_step number quantity book None is = absurd (cc)
  cancel_step number quantity book (Some r) is = ap (λ q. Gives (value.Cancelled q) (without_order number book)) (sym (same_Some quantity r.quantity is))

  lacks_step : (number : ℕ) (book : OrderBook) (found : Option Resting) → None ≡ option_map (λ (r : Resting). r.quantity) found
      → with_order found (λ order. Gives (value.Cancelled order.quantity) (without_order number book)) ≡ step.Absent
  lacks_step number book None is = refl
  lacks_step number book (Some r) is = absurd (cc)

  pub cancelled_steps : (number quantity : ℕ)
      → TellsAndChanges (Stands shape) (λ book. quantity_at number book.orders) (without_order number) (Some quantity) x y
      → MeetsStep shape (op.Cancel number) (outcome.Gives (value.Cancelled quantity)) x y
  cancelled_steps number quantity t = record {
    comes = λ book stand. (
      without_order number book,
      cancel_step number quantity book (order_at number book.orders) (t.told book stand),
      t.left book stand,
    );
  }

  pub absent_steps : (number : ℕ) → TellsAndChanges (Stands shape) (λ book. quantity_at number book.orders) (without_order number) None x y
      → MeetsStep shape (op.Cancel number) outcome.Absent x y
  absent_steps number t = record {
    comes = λ book stand. (
      book,
      lacks_step number book (order_at number book.orders) (t.told book stand),
      subst (λ (rs : List Resting). Stands shape y (record book { orders = rs })) (all_there book stand) (t.left book stand),
    );
  }
    where
      all_there : (book : OrderBook) → Stands shape x book → all_but number book.orders ≡ book.orders
      all_there book stand = none_taken number book.orders (no_order (order_at number book.orders) (t.told book stand))
        where
          no_order : (o : Option Resting) → None ≡ option_map (λ (r : Resting). r.quantity) o → o ≡ None
          no_order None e = refl
          no_order (Some r) e = absurd (cc)

  pub best_steps : (instrument buy sell : ℕ)
      → Saw (Stands shape) (λ book. (buy ≡ best_on instrument true book.orders) × (sell ≡ best_on instrument false book.orders)) x y
      → MeetsStep shape (op.Best instrument) (outcome.Gives (value.Prices buy sell)) x y
  best_steps instrument buy sell saw = record {
    comes = λ book stand. let k = saw.saw book stand in (
      book,
      λ i. Gives (value.Prices (sym k.0 i) (sym k.1 i)) book,
      subst (λ z. Stands shape z book) (sym saw.same) stand,
    );
  }
