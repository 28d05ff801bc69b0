use Rattle.script_reader.proofs.Common.{◌≡◌, ◌++◌, List, length, flat_map, line, SubmissionOf, AreCallers, IsScriptIn, submission_words, callers_in, IsEven}
use Rattle.script_reader.specs.Gathered.{callers_of}
use Rattle.script_reader.proofs.language.reader.read_scripts.Given as goal

abbrev pub invariant-loop-words : goal.invariant-loop-words
invariant-loop-words g l = record {
  even : IsEven l.callers;
  subs : List (SubmissionOf g.row.L-Script.Denot);
  made : callers_in l.callers ≡ callers_of subs;
  valid : AreCallers (IsScriptIn g.L.Language.language (g.L.Language.sizes_of l.sizes)) (callers_of subs);
  text : l.initial.lines ≡ flat_map line (flat_map (submission_words g.L.Language.language) subs) ++ l.lines;
}

abbrev pub decreases-loop-words : goal.decreases-loop-words
decreases-loop-words g l = length l.lines
