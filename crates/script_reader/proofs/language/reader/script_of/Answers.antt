use Rattle.script_reader.proofs.HandedOn.{same_refusal}
use Rattle.script_reader.proofs.language.reader.script_of.Goals as goal

pub returns-in_err-add_operations-clause-fault : goal.returns-in_err-add_operations-clause-fault
returns-in_err-add_operations-clause-fault g c why e subs name =
    c.add_operations.ensures.fault why (same_refusal c.in_err-add_operations.was c.from_residual.ensures.1 e) subs name
