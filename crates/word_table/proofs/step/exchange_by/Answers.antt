use Rattle.word_table.proofs.Common.{◌==◌, either, IsGood, GroundHolds}
use Rattle.word_table.proofs.Kept.Numbered.{step_allowed}
use Rattle.word_table.proofs.Kept.Soundness.{Tells, exchange_allowed}
use Rattle.word_table.proofs.step.exchange_by.Goals as goal

pub compare_exchange-requires : goal.compare_exchange-requires
compare_exchange-requires g c = let t = c.args.table.now in let s = c.args.seat.now in let own = c.seat.inside.seat in
    step_allowed (GroundHolds g.S.Shape.word_count g.S.Shape.good) _ t c.table.view_is own.table_id own.id own.me s c.seat.view_is c.args.word
    (λ k. either (k == c.args.old) c.args.new k) (Tells g.A.Kind.sound g.A.Kind.step) c.requires.table.0 c.requires.table.1
    (exchange_allowed (IsGood (g.S.Shape.word_count t.key.shape) (g.S.Shape.good t.key.shape)) t.key.seats t.key.base.items t.table_id.slots s.id s.me
    c.args.step.now g.A.Kind.step c.requires.kind c.args.word c.requires.action.0
    c.requires.may g.A.Kind.sound c.requires.sound c.args.old c.args.new c.requires.action.1)
