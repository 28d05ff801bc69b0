use Rattle.script_reader.proofs.Common.{◌≡◌, ◌≤◌, ◌++◌, length, All, MOST_OPERATIONS, IsOperationIn, operations_text}
use Rattle.script_reader.proofs.language.reader.add_operations.Given as goal

abbrev pub invariant-loop-words : goal.invariant-loop-words
invariant-loop-words g l = record {
  range : All (IsOperationIn g.L.Language.language (g.L.Language.sizes_of l.sizes)) (g.L.Language.language.operations l.script);
  few : l.count ≤ MOST_OPERATIONS;
  counted : l.count ≡ length (g.L.Language.language.operations l.script);
  text : l.initial.lines ≡ operations_text g.L.Language.language (g.L.Language.language.operations l.script) ++ l.lines;
}

abbrev pub decreases-loop-words : goal.decreases-loop-words
decreases-loop-words g l = length l.lines
