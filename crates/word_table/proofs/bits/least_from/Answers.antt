use Rattle.word_table.proofs.Common.{◌/◌, refl, arith, rules, slice_index}
use Rattle.word_table.proofs.Copied.Rows.{least_at}
use Rattle.word_table.proofs.bits.least_from.Goals as goal

pub returns-then-rest-ne0 : goal.returns-then-rest-ne0
returns-then-rest-ne0 c locks h = least_at c.args.row.now locks c.args.from (c.args.from / 64) c.high_bits-rest.result
    (omega arith) c.if-rest-ne0.true (search rules)
    (λ b lt le. c.high_bits-rest.ensures.above b (omega arith) lt) (λ b lt. c.high_bits-rest.ensures.below b (omega arith)) (λ k le lt. absurd (omega arith)) h

pub returns-then-word-ne0 : goal.returns-then-word-ne0
returns-then-word-ne0 c locks h =
    least_at c.args.row.now locks c.args.from c.loop-i.i (slice_index c.args.row.now c.loop-i.i) c.loop-i-test.true c.if-word-ne0.true (search rules)
    (λ b lt le. refl) (λ b lt. absurd (omega arith)) c.loop-i.invariant h
