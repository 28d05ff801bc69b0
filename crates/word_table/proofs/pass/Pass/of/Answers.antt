use Rattle.word_table.proofs.Common.{refl, arith}
use Rattle.word_table.proofs.Openings.Opening.{opening_copy}
use Rattle.word_table.proofs.pass.Pass.of.Goals as goal

pub invariant_of-result : goal.invariant_of-result
invariant_of-result g c = opening_copy c.args.seat.me.0.base _ _ c.args.seat.table_id c.args.seat.me c.requires.seat
    refl refl refl refl c.all_but.ensures (omega arith) (omega arith) (omega arith) (omega arith) c.requires.counts.0 c.requires.counts.1
    c.requires.counts.2 c.requires.table refl refl refl c.requires.scans refl refl c.requires.found
