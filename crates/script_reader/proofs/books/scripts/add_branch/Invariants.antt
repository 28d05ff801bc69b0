use Rattle.script_reader.proofs.Common.{◌≡◌, ◌≤◌, ◌+◌, ◌++◌, map, length, All, flat_map, MOST_OPERATIONS, line, books_operation_words, IsOperationOf}
use Rattle.script_reader.proofs.books.scripts.add_branch.Given as goal

abbrev pub invariant-loop-words : goal.invariant-loop-words
invariant-loop-words l = record {
  few : l.so_far + length l.operations ≤ MOST_OPERATIONS;
  range : All (IsOperationOf l.version l.books) l.operations;
  text : l.initial.lines ≡ flat_map line (map books_operation_words l.operations) ++ l.lines;
}

abbrev pub decreases-loop-words : goal.decreases-loop-words
decreases-loop-words l = length l.lines
