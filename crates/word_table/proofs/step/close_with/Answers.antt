use Rattle.word_table.proofs.Common.{GroundHolds}
use Rattle.word_table.proofs.Kept.Numbered.{known_at_end}
use Rattle.word_table.proofs.step.close_with.Goals as goal

pub returns-clause-values : goal.returns-clause-values
returns-clause-values g c = let own = c.seat.inside.seat in let ended = c.close_with.ensures.values in (
  ended.0,
  ended.1,
  known_at_end (GroundHolds g.S.Shape.word_count g.S.Shape.good) _ c.args.table c.table.view_is own.table_id own.id own.me c.args.seat
      c.seat.view_is _ _ ended.2,
)
