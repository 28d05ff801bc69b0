use Rattle.script_reader.proofs.Common.{◌≡◌, ◌++◌, length, sum_by, operations_of, alternatives_in, script_lines, IsScriptOf}
use Rattle.script_reader.proofs.books.scripts.add_parts.Given as goal

abbrev pub invariant-loop-words : goal.invariant-loop-words
invariant-loop-words l = record {
  range : IsScriptOf l.version l.books l.script;
  operations : l.operations ≡ length (operations_of l.script);
  alternatives : l.alternatives ≡ sum_by alternatives_in l.script;
  text : l.initial.lines ≡ script_lines l.script ++ l.lines;
}

abbrev pub decreases-loop-words : goal.decreases-loop-words
decreases-loop-words l = length l.lines
