use Rattle.books_model.proofs.Common.{ap, subst, arith, sum_by, sum_by-cons, AreInRange}
use Rattle.books_model.proofs.Sums.{range_cash, cash-fits}
use Rattle.books_model.proofs.books.Books.cash_between.Goals as goal

pub loop-cash-init : goal.loop-cash-init
loop-cash-init c =
    let range = c.range-cash-items in
    let whole = range_cash c.args.self.now c.args.low c.args.high c.self.inside.accounts.entries range.result
    (ap (λ b. b.accounts) c.self.view_is) range.ensures.ordered (range.ensures.between tt) in
    omega (arith, whole, ap (sum_by (λ e. e.1)) c.into_iter-cash-iterator.ensures.into_iter_gives)

pub overflow_add-total : goal.overflow_add-total
overflow_add-total c =
    let in_range = subst AreInRange c.self.view_is c.self.invariant in
    omega (
      arith,
      c.loop-cash.invariant,
      ap (sum_by (λ e. e.1)) c.in-Some.ensures.steps,
      sum_by-cons (λ e. e.1) (c.in-Some.field-0-0.now, c.in-Some.cash.now) c.next.new.self,
      cash-fits c.args.self.now c.args.low c.args.high in_range,
    )
