use Rattle.books_model.proofs.Common.{◌≡◌, ◌+◌, unwrap_or, sum_by, before_between, now_between}
use Rattle.books_model.proofs.draft.changed_between.Given as goal

-- the totals so far and those of the changes that are left are the whole
abbrev pub invariant-loop-change : goal.invariant-loop-change
invariant-loop-change l = record {
  before : l.before + sum_by (λ e. unwrap_or e.1.before 0) l.change-iterator ≡ before_between l.changes.entries l.low l.high;
  now : l.now + sum_by (λ e. unwrap_or e.1.now 0) l.change-iterator ≡ now_between l.changes.entries l.low l.high;
}
