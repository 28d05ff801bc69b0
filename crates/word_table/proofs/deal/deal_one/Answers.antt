use Rattle.word_table.proofs.Common.{ℕ, ◌+◌, ◌<◌, arith, IsGood}
use Rattle.word_table.proofs.Openings.Opening.{deals_at, dealt_left, dealt_right}
use Rattle.word_table.proofs.deal.deal_one.Goals as goal

-- a number that another follows
below : (j n : ℕ) → j + 1 < n → j < n
below j n lt = omega arith

pub split-requires-clause-splits : goal.split-requires-clause-splits
split-requires-clause-splits g c =
    deals_at c.args.table.now.key.base.items c.args.n c.args.j c.args.seat.now.me
    (below c.args.j c.args.n c.requires.counts.0) c.requires.seat c.requires.counts.0
    (IsGood (g.S.Shape.word_count c.args.table.now.key.shape) (g.S.Shape.good c.args.table.now.key.shape)) c.args.table.now.key.seats c.args.seat.now.id

pub returns-clause-left : goal.returns-clause-left
returns-clause-left g c = dealt_left c.args.table.now.key.base.items c.args.n c.args.j c.args.seat.now.me
    (below c.args.j c.args.n c.requires.counts.0) c.requires.seat c.split.new.seat.me c.split.ensures.left

pub returns-clause-dealt : goal.returns-clause-dealt
returns-clause-dealt g c = dealt_right c.args.table.now.key.base.items c.args.n c.args.j c.args.seat.now.me
    (below c.args.j c.args.n c.requires.counts.0) c.requires.seat c.split.result.me c.split.ensures.right
