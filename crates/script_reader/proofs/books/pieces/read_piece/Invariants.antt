use Rattle.script_reader.proofs.Common.{◌≡◌, ◌++◌, All, length, flat_map, submission_lines, CanStand}
use Rattle.script_reader.proofs.books.pieces.read_piece.Given as goal

abbrev pub invariant-loop-lines : goal.invariant-loop-lines
invariant-loop-lines l = record {
  text : l.piece ≡ flat_map submission_lines l.scripts.items ++ l.lines;
  each : All (CanStand l.version l.books) l.scripts.items;
}

abbrev pub decreases-loop-lines : goal.decreases-loop-lines
decreases-loop-lines l = length l.lines
