use Rattle.input_maker.proofs.Common.{◌≡◌, ◌++◌, string_bytes, flat_map, account_line, accounts_to}
use Rattle.input_maker.proofs.books.write_accounts.Given as goal

-- the accounts up to this place are written
abbrev pub invariant-loop-place : goal.invariant-loop-place
invariant-loop-place l = string_bytes l.text ≡ string_bytes l.fn.text ++ flat_map account_line (accounts_to l.place)
