use Rattle.script_reader.proofs.Common.{◌==◌, length, ap, arith, length-slice_split, SPACE}
use Rattle.script_reader.proofs.text.words.Words.len.Goals as goal

pub returns : goal.returns
returns c = omega (arith, c.self.invariant.counted, length-slice_split (λ b. b == SPACE) c.self.inside.line.now, ap length c.self.view_is)
