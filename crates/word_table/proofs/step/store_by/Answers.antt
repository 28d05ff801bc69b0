use Rattle.word_table.proofs.Common.{IsGood, GroundHolds}
use Rattle.word_table.proofs.Kept.Numbered.{step_allowed}
use Rattle.word_table.proofs.Kept.Soundness.{PutsTo, store_allowed}
use Rattle.word_table.proofs.step.store_by.Goals as goal

pub store-requires : goal.store-requires
store-requires g c = let t = c.args.table.now in let s = c.args.seat.now in let own = c.seat.inside.seat in
    step_allowed (GroundHolds g.S.Shape.word_count g.S.Shape.good) _ t c.table.view_is own.table_id own.id own.me s c.seat.view_is c.args.word
    (λ _. c.args.new) (λ me _. PutsTo g.A.Kind.sound g.A.Kind.step me c.args.new) c.requires.table.0 c.requires.table.1
    (store_allowed (IsGood (g.S.Shape.word_count t.key.shape) (g.S.Shape.good t.key.shape)) t.key.seats t.key.base.items t.table_id.slots s.id s.me
    c.args.step.now g.A.Kind.step c.requires.kind c.args.word c.requires.action.0
    c.requires.may g.A.Kind.sound c.requires.sound c.args.new c.requires.action.1 c.requires.stored)
