use Rattle.script_reader.proofs.HandedOn.{same_refusal}
use Rattle.script_reader.proofs.books.scripts.scripts_of.Goals as goal

pub returns-in_err-read_scripts-clause-fault : goal.returns-in_err-read_scripts-clause-fault
returns-in_err-read_scripts-clause-fault c why e =
    c.read_scripts.ensures.fault why (same_refusal c.in_err-read_scripts.was c.from_residual.ensures.1 e)
