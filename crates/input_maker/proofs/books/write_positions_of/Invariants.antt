use Rattle.input_maker.proofs.Common.{◌≡◌, ◌++◌, string_bytes, flat_map, position_line, positions_in}
use Rattle.input_maker.proofs.books.write_positions_of.Given as goal

-- the positions up to this place are written
abbrev pub invariant-loop-place : goal.invariant-loop-place
invariant-loop-place l = string_bytes l.text ≡ string_bytes l.fn.text ++ flat_map position_line (positions_in l.account l.place)
