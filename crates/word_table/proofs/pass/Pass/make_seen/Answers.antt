use Rattle.word_table.proofs.Common.{sym, subst, lock_of_word, View, HasBit, has-join_same}
use Rattle.word_table.proofs.pass.Pass.make_seen.Goals as goal

pub returns-clause-bit : goal.returns-clause-bit
returns-clause-bit g c = subst (λ (v : View). HasBit v (lock_of_word c.args.a)) (sym c.set_read_bit.ensures.view)
    (has-join_same (lock_of_word c.args.a) c.args.self.now.view.bits)
