use Rattle.books_report.proofs.Common.{◌≡◌, ◌++◌, take, string_bytes, flat_map, call_line}
use Rattle.books_report.proofs.books.write_calls.Given as goal

-- the margin calls before this place are written
abbrev pub invariant-loop-place : goal.invariant-loop-place
invariant-loop-place l = string_bytes l.text ≡ string_bytes l.fn.text ++ flat_map call_line (take l.place l.books.calls)
