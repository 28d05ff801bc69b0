use Rattle.twoplsf.proofs.Common.{not_both}
use Rattle.script_reader.proofs.books.Texts.OneInput.{one_input}
use Rattle.twoplsf.proofs.reading.read_shared.Goals as goal

pub returns-in-Some-clause-read : goal.returns-in-Some-clause-read
returns-in-Some-clause-read g c input h = one_input c.args.bytes.now c.in-Some.input input c.in-Some.ensures h

pub returns-in-Some-clause-faulty : goal.returns-in-Some-clause-faulty
returns-in-Some-clause-faulty g c number why h = not_both c.args.bytes.now (c.in-Some.input, c.in-Some.ensures) (number, why, h)
