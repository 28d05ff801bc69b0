use Rattle.script_reader.proofs.Common.{◌∷◌, [], ◌++◌, Some, sym, ap, subst, ◌∙◌, append-nil, flat_map, line, IsFaultyBehind}
use Rattle.script_reader.proofs.HandedOn.{same_reason, same_refusal}
use Rattle.script_reader.proofs.books.NoneFaulty.{AreFaultless}
use Rattle.script_reader.proofs.books.WithoutFault.BooksFaultless.{books_faultless}
use Rattle.script_reader.proofs.books.Printing.Extending.{header_adds}
use Rattle.script_reader.proofs.Judging.{behind_end, behind_line, behind_more}
use Rattle.script_reader.proofs.books.books_of.Goals as goal

pub returns-in_err-words-clause-fault : goal.returns-in_err-words-clause-fault
returns-in_err-words-clause-fault c why e =
    behind_end (same_reason c.from_residual.ensures.1 e) c.in_err-words.ensures.end

pub returns-in_err-version-clause-fault : goal.returns-in_err-version-clause-fault
returns-in_err-version-clause-fault c why e =
    behind_line c.in_ok-words.ensures.found.0
    c.in_ok-words.ensures.found.1 (c.in_err-version.ensures.err ∙ ap Some (same_reason c.from_residual-in_err-version.ensures.1 e))

pub returns-in_err-fill-clause-fault : goal.returns-in_err-fill-clause-fault
returns-in_err-fill-clause-fault c why e =
    let h = header_adds c.in_ok-words.words c.in_ok-version.ensures.fine in
    behind_more (c.in_ok-words.words ∷ [])
    (subst (AreFaultless []) h.lines (books_faultless h.in_range h.within))
    (c.in_ok-words.ensures.found.1 ∙ ap (λ l. l ++ c.words.new.self) (sym (append-nil (line c.in_ok-words.words))))
    (subst (λ b. IsFaultyBehind b c.words.new.self c.fill.new.lines why) c.in_ok-version.ensures.found
    (c.fill.ensures.fault why (same_refusal c.in_err-fill.was c.from_residual-in_err-fill.ensures.1 e)))

pub returns-clause-text : goal.returns-clause-text
returns-clause-text c =
    c.in_ok-words.ensures.found.1
    ∙ ap (λ l. l ++ c.words.new.self) (sym (append-nil (line c.in_ok-words.words)) ∙ ap (flat_map line) (sym c.in_ok-version.ensures.found))
    ∙ c.in_ok-fill.ensures.text
