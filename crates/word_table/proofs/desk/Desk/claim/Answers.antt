use Rattle.word_table.proofs.Common.{inr, lock_of_word, number, claim_writer_action, DeskHolds, TakenIn}
use Rattle.word_table.proofs.Calls.Answering.{not_claimed, asks_claim, claim_pending, claim_met}
use Rattle.word_table.proofs.Calls.Taken.{of_desk}
use Rattle.word_table.proofs.Calls.Staying.{claim_leaves, claim_unchanged}
use Rattle.word_table.proofs.desk.Desk.claim.Goals as goal

-- there was no claim, and the step was taken
pub returns-clause-step : goal.returns-clause-step
returns-clause-step g c = inr (
  not_claimed c.args.pass.now.view (lock_of_word c.args.a) c.lock_of.result c.has_claim.result c.lock_of.ensures.lock c.has_claim.ensures c.if-has_claim.false,
  asks_claim (DeskHolds g.S.Shape.word_count g.S.Shape.good c.args.self.now) c.args.pass.now.view
      c.claim_writer-found.new.self.view c.args.a c.claim_writer-found.result c.claimed_by.result
      (of_desk g.S.Shape.word_count g.S.Shape.good _ c.args.self.now
      (λ sound. TakenIn sound (claim_writer_action (number c.args.pass.now.view) (lock_of_word c.args.a) c.args.a
      c.args.pass.now.view) c.args.pass.now.view c.claim_writer-found.result c.claim_writer-found.new.self.view)
      c.self.view_is c.claim_writer-found.ensures.taken)
      c.claim_writer-found.ensures.other c.claimed_by.ensures,
)

pub returns-clause-pending : goal.returns-clause-pending
returns-clause-pending g c = claim_pending (DeskHolds g.S.Shape.word_count g.S.Shape.good c.args.self.now)
    c.args.pass.now.view c.args.a c.claimed_by.result c.claim_writer-found.new.self.view (returns-clause-step g c)

pub returns-clause-met : goal.returns-clause-met
returns-clause-met g c = claim_met (DeskHolds g.S.Shape.word_count g.S.Shape.good c.args.self.now) c.args.self.now.seats
    c.args.self.now.base (λ ws vs h. h.locks) c.args.pass.now.view c.args.a (number c.args.pass.now.view)
    c.claimed_by.result c.claim_writer-found.new.self.view c.claim_writer-found.ensures.one (returns-clause-step g c)

pub returns-clause-call : goal.returns-clause-call
returns-clause-call g c = (claim_leaves (DeskHolds g.S.Shape.word_count g.S.Shape.good c.args.self.now)
    c.args.pass.now.view c.args.a c.claimed_by.result c.claim_writer-found.new.self.view (returns-clause-step g c)).call

pub returns-clause-grants : goal.returns-clause-grants
returns-clause-grants g c = (claim_leaves (DeskHolds g.S.Shape.word_count g.S.Shape.good c.args.self.now)
    c.args.pass.now.view c.args.a c.claimed_by.result c.claim_writer-found.new.self.view (returns-clause-step g c)).grants

pub returns-clause-held_if : goal.returns-clause-held_if
returns-clause-held_if g c = claim_unchanged (DeskHolds g.S.Shape.word_count g.S.Shape.good c.args.self.now)
    c.args.pass.now.view c.args.a c.claimed_by.result c.claim_writer-found.new.self.view (returns-clause-step g c)
