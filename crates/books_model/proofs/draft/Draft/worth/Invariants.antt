use Rattle.books_model.proofs.Common.{◌≡◌, ◌+◌, ◌*◌, ◌≤◌}
use Rattle.books_model.proofs.Sums.{most_worth, worth_below}
use Rattle.books_model.proofs.draft.Draft.worth.Given as goal

-- the total is the worth of the positions so far, each at most that of the greatest quantity at the greatest price
abbrev pub invariant-loop-instrument : goal.invariant-loop-instrument
invariant-loop-instrument l = record {
  worth : l.total ≡ worth_below l.self.after l.account l.instrument;
  most : l.total + most_worth ≤ l.instrument * most_worth;
}
