use Rattle.input_maker.proofs.Common.{◌≡◌, ◌++◌, string_bytes, flat_map, position_line, positions_to}
use Rattle.input_maker.proofs.books.write_positions.Given as goal

-- the positions of accounts up to this place are written
abbrev pub invariant-loop-place : goal.invariant-loop-place
invariant-loop-place l = string_bytes l.text ≡ string_bytes l.fn.text ++ flat_map position_line (positions_to l.place)
