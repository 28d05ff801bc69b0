use Rattle.books_report.proofs.Common.{◌≡◌, ◌+◌, ◌++◌, length, All, zip_first, zip_second, iter_rest, string_bytes, IsPlace, journal_lines, lent, place_of_line}
use Rattle.books_report.proofs.Common.{scripts_of, reply_words}
use Rattle.books_report.proofs.journal.write_lines.Given as goal

-- the text so far and the lines that are left are the whole
abbrev pub invariant-loop-line : goal.invariant-loop-line
invariant-loop-line l = record {
  left : l.serial + length (iter_rest (zip_first l.line-iterator)) ≡ l.first + length l.lines;
  beside : length (iter_rest (zip_first l.line-iterator)) ≡ length (iter_rest (zip_second l.line-iterator));
  places : All (λ x. IsPlace l.input (place_of_line x)) (iter_rest (zip_first l.line-iterator));
  text : string_bytes l.text
      ++ journal_lines reply_words l.input.callers l.serial (scripts_of (iter_rest (zip_first l.line-iterator)) (lent (iter_rest (zip_second l.line-iterator))))
      ≡ string_bytes l.fn.text ++ journal_lines reply_words l.input.callers l.first (scripts_of l.lines (lent l.replies));
}
