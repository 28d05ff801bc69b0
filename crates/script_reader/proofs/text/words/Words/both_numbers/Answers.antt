use Rattle.script_reader.proofs.Common.{◌&&◌, is_number, word_at}
use Rattle.script_reader.proofs.HandedOn.{handed_on}
use Rattle.script_reader.proofs.text.words.Words.both_numbers.Goals as goal

pub returns-in_err-a-clause-err : goal.returns-in_err-a-clause-err
returns-in_err-a-clause-err c =
    rw (handed_on c.from_residual.ensures.1) (c.in_err-a.ensures.err.0, λ t. c.in_err-a.ensures.err.1 t && is_number (word_at c.args.self.now c.args.other))

pub returns-in_err-b-clause-err : goal.returns-in_err-b-clause-err
returns-in_err-b-clause-err c =
    rw (handed_on c.from_residual-in_err-b.ensures.1) (c.in_err-b.ensures.err.0, λ t. c.in_ok-a.ensures.found.0 t && c.in_err-b.ensures.err.1 t)

pub returns-clause-found : goal.returns-clause-found
returns-clause-found c = (c.in_ok-a.ensures.found.0, c.in_ok-b.ensures.found.0, c.in_ok-a.ensures.found.1, c.in_ok-b.ensures.found.1)
