use Rattle.books_model.proofs.Common.{◌≡◌, ◌+◌, ℕ, unwrap_or, ap, ◌∙◌, arith, sum_by, sum_by-cons, Change, before_between, now_between}
use Rattle.books_model.proofs.Sums.{sum_between}
use Rattle.books_model.proofs.draft.changed_between.Goals.{In-Some}
use Rattle.books_model.proofs.draft.changed_between.Goals as goal

-- what the change's account had, and what is left
before_step : (c : In-Some) → sum_by (λ (e : ℕ × Change). unwrap_or e.1.before 0) c.loop-change.change-iterator
    ≡ unwrap_or c.in-Some.change.now.before 0 + sum_by (λ (e : ℕ × Change). unwrap_or e.1.before 0) c.next.new.self
before_step c = ap (sum_by (λ (e : ℕ × Change). unwrap_or e.1.before 0)) c.in-Some.ensures.steps
    ∙ sum_by-cons (λ (e : ℕ × Change). unwrap_or e.1.before 0) (c.in-Some.field-0-0.now, c.in-Some.change.now) c.next.new.self

-- what it has now, and what is left
now_step : (c : In-Some) → sum_by (λ (e : ℕ × Change). unwrap_or e.1.now 0) c.loop-change.change-iterator
    ≡ unwrap_or c.in-Some.change.now.now 0 + sum_by (λ (e : ℕ × Change). unwrap_or e.1.now 0) c.next.new.self
now_step c = ap (sum_by (λ (e : ℕ × Change). unwrap_or e.1.now 0)) c.in-Some.ensures.steps
    ∙ sum_by-cons (λ (e : ℕ × Change). unwrap_or e.1.now 0) (c.in-Some.field-0-0.now, c.in-Some.change.now) c.next.new.self

pub loop-change-init : goal.loop-change-init
loop-change-init c =
    let range = c.range-change-items in
    let items = c.into_iter-change-iterator.ensures.into_iter_gives ∙ range.ensures.between tt in
    let before : sum_by {X = ℕ × Change} (λ e. unwrap_or e.1.before 0) c.into_iter-change-iterator.result
    ≡ before_between c.args.changes.now.entries c.args.low c.args.high =
    ap (sum_by (λ (e : ℕ × Change). unwrap_or e.1.before 0)) items
    ∙ sum_between (λ e. unwrap_or e.1.before 0) c.args.low c.args.high c.args.changes.now.entries in
    let now : sum_by {X = ℕ × Change} (λ e. unwrap_or e.1.now 0) c.into_iter-change-iterator.result
    ≡ now_between c.args.changes.now.entries c.args.low c.args.high =
    ap (sum_by (λ (e : ℕ × Change). unwrap_or e.1.now 0)) items
    ∙ sum_between (λ e. unwrap_or e.1.now 0) c.args.low c.args.high c.args.changes.now.entries in
    record {
      before = omega (arith, before);
      now = omega (arith, now);
    }

pub overflow_add-before : goal.overflow_add-before
overflow_add-before c = omega (
  arith,
  before_step (goal.at.overflow_add-before c).In-Some,
  c.loop-change.invariant.before,
  c.requires.before,
  c.unwrap_or.ensures,
  c.from-before.ensures,
)

pub overflow_add-now : goal.overflow_add-now
overflow_add-now c = omega (
  arith,
  now_step (goal.at.overflow_add-now c).In-Some,
  c.loop-change.invariant.now,
  c.requires.now,
  c.unwrap_or-in-loop-change.ensures,
  c.from-now.ensures,
)

pub loop-change-preserved : goal.loop-change-preserved
loop-change-preserved c = record {
  before = omega (arith, before_step (goal.at.loop-change-preserved c).In-Some, c.loop-change.invariant.before, c.unwrap_or.ensures, c.from-before.ensures);
  now = omega (arith, now_step (goal.at.loop-change-preserved c).In-Some, c.loop-change.invariant.now, c.unwrap_or-in-loop-change.ensures, c.from-now.ensures);
}
