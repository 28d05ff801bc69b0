use Rattle.word_table.proofs.Common.{arith}
use Rattle.word_table.proofs.Copied.Rows.{least_bit}
use Rattle.word_table.proofs.bits.least_seat.Goals as goal

pub returns : goal.returns
returns c = least_bit c.args.seats c.if-seats-eq0.false (omega arith)
