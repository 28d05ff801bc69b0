use Rattle.input_maker.proofs.Common.{◌≡◌, ◌++◌, string_bytes, flat_map, price_line, prices_to}
use Rattle.input_maker.proofs.books.write_prices.Given as goal

-- the prices up to this place are written
abbrev pub invariant-loop-place : goal.invariant-loop-place
invariant-loop-place l = string_bytes l.text ≡ string_bytes l.fn.text ++ flat_map price_line (prices_to l.place)
