use Rattle.word_table.proofs.Common.{IsGood}
use Rattle.word_table.proofs.Joined.Gathering.{joins_at}
use Rattle.word_table.proofs.closing.join_one.Goals as goal

pub join-requires-clause-joins : goal.join-requires-clause-joins
join-requires-clause-joins g c = let s = c.requires.seat in let o = c.requires.other in
    joins_at (IsGood (g.S.Shape.word_count c.args.table.now.key.shape) (g.S.Shape.good c.args.table.now.key.shape))
    c.args.table.now.key.seats c.args.table.now.key.base.items c.args.seat.now.id c.args.other.id c.args.seat.now.me.0 c.args.other.me.0
    s.0 o.1 (s.1, s.2) (o.2, o.3)
