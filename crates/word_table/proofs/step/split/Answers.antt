use Rattle.word_table.proofs.Common.{GroundHolds}
use Rattle.word_table.proofs.Kept.Numbered.{cut_allowed}
use Rattle.word_table.proofs.step.split.Goals as goal

pub split_seat-requires : goal.split_seat-requires
split_seat-requires g c = let own = c.seat.inside.seat in
    cut_allowed (GroundHolds g.S.Shape.word_count g.S.Shape.good) _ c.args.table.now c.table.view_is own.table_id own.id own.me c.args.seat.now
    c.seat.view_is g.A.Split.left g.A.Split.right c.requires.table.0 c.requires.table.1 c.requires.splits
