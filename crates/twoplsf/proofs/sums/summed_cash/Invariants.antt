use Rattle.twoplsf.proofs.Common.{◌≡◌, ◌-◌, nat_lt, sum_by, entries, up_to}
use Rattle.twoplsf.proofs.sums.summed_cash.Given as goal

-- the accounts up to the last one are summed up
abbrev pub invariant-loop-account : goal.invariant-loop-account
invariant-loop-account l = l.sum ≡ sum_by (λ e. e.1) (up_to nat_lt l.last (entries l.books.accounts))

abbrev pub decreases-loop-account : goal.decreases-loop-account
decreases-loop-account l = 4294967296 - l.last
