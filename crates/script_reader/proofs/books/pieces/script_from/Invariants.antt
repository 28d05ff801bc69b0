use Rattle.script_reader.proofs.Common.{◌≤◌, ◌-◌, length}
use Rattle.script_reader.proofs.books.pieces.script_from.Given as goal

abbrev pub invariant-loop-place : goal.invariant-loop-place
invariant-loop-place l = l.place ≤ length l.bytes

abbrev pub decreases-loop-place : goal.decreases-loop-place
decreases-loop-place l = length l.bytes - l.place
