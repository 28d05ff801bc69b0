use Rattle.word_table.proofs.Common.{rules, arith}
use Rattle.word_table.proofs.Copied.Rows.{least_within, none_within}
use Rattle.word_table.proofs.bits.least_in.Goals as goal

pub returns-then-word-eq0 : goal.returns-then-word-eq0
returns-then-word-eq0 c locks h = none_within c.args.row.now locks c.args.i c.if-word-eq0.true h

pub returns : goal.returns
returns c locks h = least_within c.args.row.now locks c.args.i (omega arith) c.if-word-eq0.false (search rules) h
