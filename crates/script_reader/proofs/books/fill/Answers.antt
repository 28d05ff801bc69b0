use Rattle.script_reader.proofs.Common.{◌≡◌, ◌∷◌, [], ◌++◌, List, codes, Some, sym, ap, subst, ◌∙◌, append_assoc, flat_map, flat_map-append, ClearingBooks}
use Rattle.script_reader.proofs.Common.{AreInRange, Version, AreBooksWithin, line, books_words, Words, fault_of}
use Rattle.script_reader.proofs.HandedOn.{same_reason}
use Rattle.script_reader.proofs.books.NoneFaulty.{AreFaultless}
use Rattle.script_reader.proofs.books.Versions.{row_within}
use Rattle.script_reader.proofs.LineFaults.LineKinds.{only_word}
use Rattle.script_reader.proofs.books.WithoutFault.BooksFaultless.{books_faultless}
use Rattle.script_reader.proofs.books.Texts.Following.{line_shorter, more_text}
use Rattle.script_reader.proofs.Judging.{behind_end, behind_line, behind_more, faultless_rest}
use Rattle.script_reader.proofs.books.fill.Goals as goal

-- the lines that were read are those of books in range
read_so_far : {version : Version} {books : ClearingBooks} (first : ClearingBooks) (more : List Words) → AreInRange books → AreBooksWithin version books
    → books_words version books ≡ books_words version first ++ more → AreFaultless (books_words version first) more
read_so_far {version} first more range within whole =
    faultless_rest fault_of [] (books_words version first) more (subst (AreFaultless []) whole (books_faultless range within))

pub loop-words-preserved : goal.loop-words-preserved
loop-words-preserved c = record {
  within = subst (AreBooksWithin c.args.version) (sym c.in_ok-add_row.ensures)
      (row_within c.in_ok-row.row c.loop-words.invariant.within c.in_ok-row.ensures.row.within);
  more = c.loop-words.invariant.more ++ c.in_ok-words.words ∷ [];
  whole = (ap (books_words c.args.version) c.in_ok-add_row.ensures ∙ c.in_ok-row.ensures.row.lines)
      ∙ ap (λ l. l ++ c.in_ok-words.words ∷ []) c.loop-words.invariant.whole
      ∙ append_assoc (books_words c.args.version c.args.books.now) c.loop-words.invariant.more (c.in_ok-words.words ∷ []);
  text = more_text c.loop-words.lines c.words.new.self c.loop-words.invariant.more c.in_ok-words.words
      c.loop-words.invariant.text c.in_ok-words.ensures.found.1;
}

pub loop-words-smaller : goal.loop-words-smaller
loop-words-smaller c = line_shorter c.in_ok-words.words c.words.new.self c.in_ok-words.ensures.found.1

pub returns-in_err-words-clause-fault : goal.returns-in_err-words-clause-fault
returns-in_err-words-clause-fault c why e =
    behind_more c.loop-words.invariant.more
    (read_so_far c.args.books.now c.loop-words.invariant.more
    c.ranges-in-loop-words.ensures c.loop-words.invariant.within c.loop-words.invariant.whole) c.loop-words.invariant.text
    (behind_end (same_reason c.from_residual.ensures.1 e) c.in_err-words.ensures.end)

pub returns-then-is_only-clause-text : goal.returns-then-is_only-clause-text
returns-then-is_only-clause-text c =
    let scripts = only_word (codes "scripts") c.in_ok-words.words (sym c.is_only.ensures ∙ c.if-is_only.true) in
    ap (λ l. flat_map line (books_words c.args.version c.args.books.now) ++ l) c.loop-words.invariant.text
    ∙ sym (append_assoc (flat_map line (books_words c.args.version c.args.books.now)) (flat_map line c.loop-words.invariant.more) c.loop-words.lines)
    ∙ ap (λ l. l ++ c.loop-words.lines)
    (sym (flat_map-append line (books_words c.args.version c.args.books.now) c.loop-words.invariant.more)
    ∙ ap (flat_map line) (sym c.loop-words.invariant.whole))
    ∙ ap (λ l. flat_map line (books_words c.args.version c.loop-words.books) ++ l) (c.in_ok-words.ensures.found.1
    ∙ ap (λ w. line w ++ c.words.new.self) scripts)

pub returns-in_err-row-clause-fault : goal.returns-in_err-row-clause-fault
returns-in_err-row-clause-fault c why e =
    behind_more c.loop-words.invariant.more
    (read_so_far c.args.books.now c.loop-words.invariant.more
    c.ranges-in-loop-words.ensures c.loop-words.invariant.within c.loop-words.invariant.whole) c.loop-words.invariant.text
    (behind_line c.in_ok-words.ensures.found.0 c.in_ok-words.ensures.found.1
    (ap (λ b. fault_of b c.in_ok-words.words) (sym c.loop-words.invariant.whole) ∙ c.in_err-row.ensures.err ∙ ap Some
    (same_reason c.from_residual-in_err-row.ensures.1 e)))
