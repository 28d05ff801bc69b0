use Rattle.books_report.proofs.Common.{replicate, sym, ap, ◌∙◌, subst, IfOk, IsFound}
use Rattle.books_report.proofs.check.check_lines.Goals as goal

pub check_journal-requires : goal.check_journal-requires
check_journal-requires c = record {
  valid = c.requires.valid;
  opening = c.in_ok-books.ensures ∙ c.books.ensures;
  nothing_done = c.deref_mut.ensures.value ∙ c.in_ok-done.ensures.items_if_clones_equal (λ y e. e) ∙ ap (λ n. replicate n 0) c.callers.ensures.value;
}

pub returns : goal.returns
returns c = subst (λ text. IfOk c.check_journal.result (IsFound c.args.input.now text)) (sym c.in-Some.ensures.begins) c.check_journal.ensures
