use Rattle.twoplsf.proofs.Common.{◌≡◌, arith}
use Rattle.script_reader.proofs.text.Tokens.Numerals.{number_is_read}
use Rattle.twoplsf.proofs.Commands.{number_of, other_some}
use Rattle.twoplsf.proofs.command.number_within.Goals as goal

pub returns-in-Some-clause-some : goal.returns-in-Some-clause-some
returns-in-Some-clause-some c = (
  number_of c.numeral.result c.args.word.now c.in-Some.found c.numeral.ensures c.in-Some.is (omega arith),
  (omega arith, omega arith),
)

-- more than the most
pub returns-in_default-clause-none : goal.returns-in_default-clause-none
returns-in_default-clause-none c n is range =
    let read = number_is_read c.numeral.result c.args.word.now n c.numeral.ensures (omega (arith, range.1, c.ranges.most.fits)) is in
    let same : n ≡ c.in-Some.found = other_some c.numeral.result n c.in-Some.found read c.in-Some.is in
    omega (arith, range.1)

-- less than the least
pub returns-in_default-2-clause-none : goal.returns-in_default-2-clause-none
returns-in_default-2-clause-none c n is range =
    let read = number_is_read c.numeral.result c.args.word.now n c.numeral.ensures (omega (arith, range.1, c.ranges.most.fits)) is in
    let same : n ≡ c.in-Some.found = other_some c.numeral.result n c.in-Some.found read c.in-Some.is in
    omega (arith, range.0)

-- no number at all
pub returns-in_default-3-clause-none : goal.returns-in_default-3-clause-none
returns-in_default-3-clause-none c n is range =
    let read = number_is_read c.numeral.result c.args.word.now n c.numeral.ensures (omega (arith, range.1, c.ranges.most.fits)) is in
    cc
