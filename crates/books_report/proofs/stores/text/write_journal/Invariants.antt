use Rattle.books_report.proofs.Common.{◌≡◌, ◌+◌, ◌++◌, length, All, zip_first, zip_second, iter_rest, string_bytes, place_of_line, lent, scripts_of, IsPlaceOf}
use Rattle.books_report.proofs.Common.{journal_lines, store_reply_words}
use Rattle.books_report.proofs.stores.text.write_journal.Given as goal

-- the text so far and the lines that are left are the whole
abbrev pub invariant-loop-line : goal.invariant-loop-line
invariant-loop-line g l = record {
  left : l.serial + length (iter_rest (zip_first l.line-iterator)) ≡ length l.lines + 1;
  beside : length (iter_rest (zip_first l.line-iterator)) ≡ length (iter_rest (zip_second l.line-iterator));
  places : All (λ x. IsPlaceOf l.callers (place_of_line x)) (iter_rest (zip_first l.line-iterator));
  text : string_bytes l.text ++ journal_lines (store_reply_words g.V.ToldValue.word) l.callers l.serial
      (scripts_of (iter_rest (zip_first l.line-iterator)) (lent (iter_rest (zip_second l.line-iterator))))
      ≡ string_bytes l.fn.text ++ journal_lines (store_reply_words g.V.ToldValue.word) l.callers 1 (scripts_of l.lines (lent l.replies));
}
