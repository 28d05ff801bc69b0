use Rattle.word_table.proofs.Common.{inr, number, MakesSeen, Looked, DeskHolds}
use Rattle.word_table.proofs.Calls.Answering.{one_before, asks_shared, share_granted, share_met, share_bit}
use Rattle.word_table.proofs.Calls.Taken.{of_desk}
use Rattle.word_table.proofs.Calls.Staying.{share_leaves, share_unchanged}
use Rattle.word_table.proofs.desk.Desk.share_new.Goals as goal

-- both steps were taken
pub returns-clause-step : goal.returns-clause-step
returns-clause-step g c = inr (
  c.requires.free,
  asks_shared (DeskHolds g.S.Shape.word_count g.S.Shape.good c.args.self.now) c.args.pass.now.view
      c.make_seen.new.self.view c.look.new.self.view c.args.a c.look.result
      (of_desk g.S.Shape.word_count g.S.Shape.good _ c.args.self.now
      (λ sound. MakesSeen sound c.args.pass.now.view c.args.a) c.self.view_is c.make_seen.ensures.seen)
      c.make_seen.ensures.view
      (of_desk g.S.Shape.word_count g.S.Shape.good _ c.args.self.now
      (λ sound. Looked sound c.make_seen.new.self.view c.args.a c.look.result c.look.new.self.view) c.self.view_is c.look.ensures.looked),
)

pub returns-clause-granted : goal.returns-clause-granted
returns-clause-granted g c = share_granted (DeskHolds g.S.Shape.word_count g.S.Shape.good c.args.self.now)
    c.args.pass.now.view c.args.a c.look.result c.look.new.self.view (returns-clause-step g c)

pub returns-clause-met : goal.returns-clause-met
returns-clause-met g c = share_met (DeskHolds g.S.Shape.word_count g.S.Shape.good c.args.self.now) c.args.self.now.seats
    c.args.self.now.base (λ ws vs h. h.locks) c.args.pass.now.view c.args.a (number c.args.pass.now.view) c.look.result
    c.look.new.self.view (one_before c.args.pass.now.view c.make_seen.new.self.view c.args.a c.make_seen.ensures.view
    c.look.ensures.one) (returns-clause-step g c)

pub returns-clause-bit : goal.returns-clause-bit
returns-clause-bit g c = share_bit (DeskHolds g.S.Shape.word_count g.S.Shape.good c.args.self.now) c.args.pass.now.view
    c.args.a c.look.result c.look.new.self.view (returns-clause-step g c)

pub returns-clause-call : goal.returns-clause-call
returns-clause-call g c = (share_leaves (DeskHolds g.S.Shape.word_count g.S.Shape.good c.args.self.now)
    c.args.pass.now.view c.args.a c.look.result c.look.new.self.view (returns-clause-step g c)).call

pub returns-clause-grants : goal.returns-clause-grants
returns-clause-grants g c = (share_leaves (DeskHolds g.S.Shape.word_count g.S.Shape.good c.args.self.now)
    c.args.pass.now.view c.args.a c.look.result c.look.new.self.view (returns-clause-step g c)).grants

pub returns-clause-moves : goal.returns-clause-moves
returns-clause-moves g c same = c.requires.free (share_unchanged (DeskHolds g.S.Shape.word_count g.S.Shape.good c.args.self.now)
    c.args.pass.now.view c.args.a c.look.result c.look.new.self.view (returns-clause-step g c) same)
