use Rattle.word_table.proofs.Common.{GroundHolds}
use Rattle.word_table.proofs.Kept.Numbered.{join_allowed}
use Rattle.word_table.proofs.step.join.Goals as goal

pub join_seat-requires : goal.join_seat-requires
join_seat-requires g c = let own = c.seat.inside.seat in let other = c.other.inside.seat in
    join_allowed (GroundHolds g.S.Shape.word_count g.S.Shape.good) _ c.args.table.now c.table.view_is own.table_id own.id own.me c.args.seat.now
    c.seat.view_is other.table_id other.id other.me c.args.other c.other.view_is g.A.Join.both g.A.Join.spent c.requires.table.0
    c.requires.table.1 c.requires.other c.requires.table.2 c.requires.joins
