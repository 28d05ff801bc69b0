use Rattle.word_table.proofs.Common.{ap, Me, View, IsGood}
use Rattle.word_table.proofs.Joined.Noting.{meets_at, met_by, seat_phase}
use Rattle.word_table.proofs.pass.Pass.meet_note.Goals as goal

pub join-requires-clause-joins : goal.join-requires-clause-joins
join-requires-clause-joins g c = let p = c.self.inside in let q = c.note.inside in let j = c.note.invariant in
    meets_at (IsGood (g.S.Shape.word_count c.args.table.now.key.shape) (g.S.Shape.good c.args.table.now.key.shape))
    c.args.table.now.key.seats c.args.table.now.key.base.items p.seat.id q.seat.id p.seat.me.0 q.seat.me.0
    (seat_phase p.seat.me.0 p.seat.table_id c.args.self.now c.self.view_is c.requires.phase) j.phase j.unnumbered

pub returns-clause-view : goal.returns-clause-view
returns-clause-view g c = let p = c.self.inside in let q = c.note.inside in
    met_by p.seat.me.0 q.seat.me.0 c.join.new.seat.me.0 p.seat.table_id q.seat.table_id c.args.self.now
    c.args.note c.self.view_is c.note.view_is (ap (λ (m : Me (Unit {0}) View). m.0) c.join.ensures.seat)
