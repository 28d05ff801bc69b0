use Rattle.script_reader.proofs.HandedOn.{same_refusal}
use Rattle.script_reader.proofs.books.scripts.script_of.Goals as goal

pub returns-in_err-add_parts-clause-fault : goal.returns-in_err-add_parts-clause-fault
returns-in_err-add_parts-clause-fault c why e subs name =
    c.add_parts.ensures.fault why (same_refusal c.in_err-add_parts.was c.from_residual.ensures.1 e) subs name
