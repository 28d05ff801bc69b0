use Rattle.script_reader.proofs.HandedOn.{handed_on}
use Rattle.script_reader.proofs.text.numbers.both_within.Goals as goal

pub returns-in_err-within-clause-err : goal.returns-in_err-within-clause-err
returns-in_err-within-clause-err c =
    rw (handed_on c.from_residual.ensures.1) (c.in_err-within.ensures.err, λ h. c.in_err-within.ensures.range h.0)

pub returns-in_err-within-2-clause-err : goal.returns-in_err-within-2-clause-err
returns-in_err-within-2-clause-err c =
    rw (handed_on c.from_residual-in_err-within-2.ensures.1) (c.in_err-within-2.ensures.err, λ h. c.in_err-within-2.ensures.range h.1)

pub returns-clause-ok : goal.returns-clause-ok
returns-clause-ok c = (c.in_ok-within.ensures.range.0, c.in_ok-within-2.ensures.range.0)
