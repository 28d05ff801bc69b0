use Rattle.word_table.proofs.Common.{IsGood}
use Rattle.word_table.proofs.Joined.Noting.{gives_at, seat_phase}
use Rattle.word_table.proofs.pass.Pass.take_note.Goals as goal

pub split-seat-requires-clause-splits : goal.split-seat-requires-clause-splits
split-seat-requires-clause-splits g c = let p = c.self.inside in
    gives_at (IsGood (g.S.Shape.word_count c.args.table.now.key.shape) (g.S.Shape.good c.args.table.now.key.shape))
    c.args.table.now.key.seats c.args.table.now.key.base.items p.seat.id p.seat.me.0
    (seat_phase p.seat.me.0 p.seat.table_id c.args.self.now c.self.view_is c.requires.phase)
