use Rattle.script_reader.proofs.Common.{[], arith}
use Rattle.script_reader.proofs.HandedOn.{same_refusal}
use Rattle.script_reader.proofs.books.Printing.Opened.{first_count, second_count}
use Rattle.script_reader.proofs.books.Texts.Branching.{behind_first}
use Rattle.script_reader.proofs.books.scripts.alternative_of.Goals as goal

pub returns-in_err-first-clause-fault : goal.returns-in_err-first-clause-fault
returns-in_err-first-clause-fault c why e subs name parts counted =
    c.branch_of.ensures.fault why (same_refusal c.in_err-first.was c.from_residual.ensures.1 e) subs name parts [] (omega
    (arith, first_count parts [], counted))

pub returns-in_err-second-clause-fault : goal.returns-in_err-second-clause-fault
returns-in_err-second-clause-fault c why e subs name parts counted =
    behind_first c.args.version c.ranges-2.ensures subs name parts c.in_ok-first.first
    c.in_ok-first.ensures.range (omega (arith, c.in_ok-first.ensures.few, counted)) c.in_ok-first.ensures.text
    (c.branch_of-2.ensures.fault why (same_refusal c.in_err-second.was c.from_residual-in_err-second.ensures.1 e) subs name parts c.in_ok-first.first
    (omega (arith, second_count parts c.in_ok-first.first [], counted, c.len.ensures)))
