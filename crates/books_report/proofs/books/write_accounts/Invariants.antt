use Rattle.books_report.proofs.Common.{◌≡◌, ◌-◌, ◌^◌, ◌++◌, nat_lt, string_bytes, flat_map, entries, account_line}
use Rattle.books_report.proofs.Walking.Walks.{up_to}
use Rattle.books_report.proofs.books.write_accounts.Given as goal

-- the accounts up to the last one are written
abbrev pub invariant-loop-account : goal.invariant-loop-account
invariant-loop-account l = string_bytes l.text ≡ string_bytes l.fn.text ++ flat_map account_line (up_to nat_lt l.last (entries l.books.accounts))

abbrev pub decreases-loop-account : goal.decreases-loop-account
decreases-loop-account l = 2 ^ 32 - l.last
