use Rattle.script_reader.proofs.Common.{◌≡◌, ◌++◌, List, length, flat_map, line, Submission, callers_of, books_submission_words, callers_in, IsEven}
use Rattle.script_reader.proofs.Common.{AreCallersOf}
use Rattle.script_reader.proofs.books.scripts.read_scripts.Given as goal

abbrev pub invariant-loop-words : goal.invariant-loop-words
invariant-loop-words l = record {
  even : IsEven l.callers;
  subs : List Submission;
  made : callers_in l.callers ≡ callers_of subs;
  valid : AreCallersOf l.version l.books (callers_of subs);
  text : l.initial.lines ≡ flat_map line (flat_map books_submission_words subs) ++ l.lines;
}

abbrev pub decreases-loop-words : goal.decreases-loop-words
decreases-loop-words l = length l.lines
