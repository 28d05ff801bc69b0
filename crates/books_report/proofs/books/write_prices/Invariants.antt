use Rattle.books_report.proofs.Common.{◌≡◌, ◌-◌, ◌^◌, ◌++◌, nat_lt, string_bytes, flat_map, entries, price_line}
use Rattle.books_report.proofs.Walking.Walks.{up_to}
use Rattle.books_report.proofs.books.write_prices.Given as goal

-- the prices up to the last one are written
abbrev pub invariant-loop-instrument : goal.invariant-loop-instrument
invariant-loop-instrument l = string_bytes l.text ≡ string_bytes l.fn.text ++ flat_map price_line (up_to nat_lt l.last (entries l.books.prices))

abbrev pub decreases-loop-instrument : goal.decreases-loop-instrument
decreases-loop-instrument l = 2 ^ 32 - l.last
