use Rattle.script_reader.proofs.Common.{sym, ap, subst, ◌∙◌, AreCallersFor, callers_in, HasFront}
use Rattle.script_reader.proofs.HandedOn.{same_refusal}
use Rattle.script_reader.proofs.books.Versions.{callers_for}
use Rattle.script_reader.proofs.books.Texts.Fronting.{behind_books, front_of}
use Rattle.script_reader.proofs.books.front.input_of.Goals as goal

pub returns-in_err-callers-clause-fault : goal.returns-in_err-callers-clause-fault
returns-in_err-callers-clause-fault c why e =
    behind_books c.in_ok-version.ensures.range c.in_ok-version.ensures.within
    c.in_ok-version.ensures.text (c.scripts_of.ensures.fault why (same_refusal c.in_err-callers.was c.from_residual-in_err-callers.ensures.1 e))

pub new-requires : goal.new-requires
new-requires c = record {
  even = c.in_ok-callers.ensures.even;
  few = c.in_ok-callers.ensures.found.valid.few;
  few_scripts = c.in_ok-callers.ensures.found.valid.few_scripts;
}

pub new-requires-2 : goal.new-requires-2
new-requires-2 c = record {
  books = c.in_ok-version.ensures.range;
  callers = subst (AreCallersFor c.in_ok-version.books) (sym c.new.ensures)
      (callers_for c.in_ok-version.version c.in_ok-version.books (callers_in c.in_ok-callers.callers) c.in_ok-callers.ensures.found.valid);
}

pub returns-clause-found : goal.returns-clause-found
returns-clause-found c =
    subst (λ x. HasFront x c.args.lines.now c.scripts_of.new.lines)
    (sym (c.new-2.ensures ∙ ap (λ l. record { books = c.in_ok-version.books; callers = l }) c.new.ensures))
    (front_of
    c.in_ok-version.ensures.range c.in_ok-version.ensures.within c.in_ok-version.ensures.text c.in_ok-callers.ensures.found)
