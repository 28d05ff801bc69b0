use Rattle.books_report.proofs.Common.{◌≡◌, ◌-◌, ◌++◌, length, string_bytes, flat_map, is_lt, entries, position_cmp, position_line}
use Rattle.books_report.proofs.Walking.Walks.{up_to}
use Rattle.books_report.proofs.books.write_positions.Given as goal

-- the positions up to the last one are written
abbrev pub invariant-loop-account : goal.invariant-loop-account
invariant-loop-account l = string_bytes l.text ≡ string_bytes l.fn.text ++ flat_map position_line
    (up_to (λ k q. is_lt (position_cmp k q)) l.last (entries l.books.positions))

abbrev pub decreases-loop-account : goal.decreases-loop-account
decreases-loop-account l = length (entries l.books.positions) - length (up_to (λ k q. is_lt (position_cmp k q)) l.last (entries l.books.positions))
