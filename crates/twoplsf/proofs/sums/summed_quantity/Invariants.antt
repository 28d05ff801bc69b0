use Rattle.twoplsf.proofs.Common.{◌≡◌, ◌-◌, length, sum_by, is_lt, entries, position_cmp, up_to}
use Rattle.twoplsf.proofs.sums.summed_quantity.Given as goal

-- the positions up to the last one are summed up
abbrev pub invariant-loop-account : goal.invariant-loop-account
invariant-loop-account l = l.sum ≡ sum_by (λ e. e.1) (up_to (λ k q. is_lt (position_cmp k q)) l.last (entries l.books.positions))

abbrev pub decreases-loop-account : goal.decreases-loop-account
decreases-loop-account l = length (entries l.books.positions) - length (up_to (λ k q. is_lt (position_cmp k q)) l.last (entries l.books.positions))
