use Rattle.script_reader.proofs.Common.{◌≡◌, ◌++◌, List, length, flat_map, AreBooksWithin, line, books_words, Words}
use Rattle.script_reader.proofs.books.fill.Given as goal

abbrev pub invariant-loop-words : goal.invariant-loop-words
invariant-loop-words l = record {
  within : AreBooksWithin l.version l.books;
  more : List Words;
  whole : books_words l.version l.books ≡ books_words l.version l.initial.books ++ more;
  text : l.initial.lines ≡ flat_map line more ++ l.lines;
}

abbrev pub decreases-loop-words : goal.decreases-loop-words
decreases-loop-words l = length l.lines
