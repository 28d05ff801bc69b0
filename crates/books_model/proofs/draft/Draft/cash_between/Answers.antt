use Rattle.books_model.proofs.Common.{◌≡◌, ◌+◌, ◌^◌, ◌<◌, ◌≤◌, ℕ, refl, ap, arith, ClearingBooks, cash_between, changed_books, before_between, now_between}
use Rattle.books_model.proofs.Sums.{before_between-le, cash_changed, cash-fits, none_between}
use Rattle.books_model.proofs.draft.Draft.cash_between.Goals.{After-self}
use Rattle.books_model.proofs.draft.Draft.cash_between.Goals as goal

-- the books after the changes
abbrev so_far : After-self → ClearingBooks
so_far c = changed_books c.self.inside.books.now c.self.inside.changes

-- what the changed accounts had
abbrev had : After-self → ℕ
had c = before_between c.self.inside.changes.accounts.entries c.args.low c.args.high

-- what they have
abbrev have : After-self → ℕ
have c = now_between c.self.inside.changes.accounts.entries c.args.low c.args.high

-- what the changed accounts had is a part of the whole
part : (c : After-self) → had c ≤ cash_between c.self.inside.books.now c.args.low c.args.high
part c = before_between-le c.self.inside.books.now (so_far c) c.self.inside.changes.accounts.entries refl
    c.self.invariant.known.ordered c.self.invariant.known.accounts c.args.low c.args.high

-- the cash after the changes
whole : (c : After-self) → cash_between (so_far c) c.args.low c.args.high + had c ≡ cash_between c.self.inside.books.now c.args.low c.args.high + have c
whole c = cash_changed c.self.inside.books.now (so_far c) c.self.inside.changes.accounts.entries refl
    c.self.invariant.known.ordered c.self.invariant.known.accounts c.args.low c.args.high

-- it fits
fits : (c : After-self) → cash_between (so_far c) c.args.low c.args.high < 2 ^ 128
fits c = cash-fits (so_far c) c.args.low c.args.high c.self.invariant.after

pub returns-then-low-high : goal.returns-then-low-high
returns-then-low-high c = none_between c.args.self.now.after c.args.low c.args.high (omega arith)

pub changed_between-before-requires-clause-before : goal.changed_between-before-requires-clause-before
changed_between-before-requires-clause-before c = omega (arith, part c, cash-fits c.self.inside.books.now c.args.low c.args.high c.self.invariant.before)

pub changed_between-before-requires-clause-now : goal.changed_between-before-requires-clause-now
changed_between-before-requires-clause-now c = omega (arith, part c, whole c, fits c)

pub overflow_sub-result : goal.overflow_sub-result
overflow_sub-result c = omega (arith, part (goal.at.overflow_sub-result c).After-self, c.changed_between-before.ensures.before, c.cash_between.ensures)

pub overflow_add-result : goal.overflow_add-result
overflow_add-result c =
    let at = (goal.at.overflow_add-result c).After-self in
    omega (arith, part at, whole at, fits at, c.changed_between-before.ensures.before, c.changed_between-before.ensures.now, c.cash_between.ensures)

pub returns : goal.returns
returns c =
    let at = (goal.at.returns c).After-self in
    let view : cash_between (so_far at) c.args.low c.args.high ≡ cash_between c.args.self.now.after c.args.low
    c.args.high = ap (λ d. cash_between d.after c.args.low c.args.high) c.self.view_is in
    omega (arith, part at, whole at, fits at, c.changed_between-before.ensures.before, c.changed_between-before.ensures.now, c.cash_between.ensures, view)
