use Rattle.word_table.specs.declared.answer.Claimed.TheVariants as claimed
use Rattle.lock_or_yield.proofs.Common.{DeskHolds, refl}
use Rattle.lock_or_yield.proofs.Claiming.{claim_leaves, claims_and_scans, scans_met, claim_meets}
use Rattle.lock_or_yield.proofs.turn.claim_and_scan.Goals as goal

pub returns-in-Pending-clause-asks : goal.returns-in-Pending-clause-asks
returns-in-Pending-clause-asks g c = claims_and_scans (DeskHolds g.S.Shape.word_count g.S.Shape.good c.args.desk.now)
    c.args.a c.lock_of.result c.scan_rest.result c.args.pass.now.view c.claim.new.pass.view c.scan_rest.new.pass.view
    c.lock_of.ensures.lock c.in-Pending.ensures.call c.in-Pending.ensures.grants c.in-Pending.ensures.step c.scan_rest.ensures.clear c.scan_rest.ensures.met

pub returns-in-Pending-clause-met : goal.returns-in-Pending-clause-met
returns-in-Pending-clause-met g c = scans_met (DeskHolds g.S.Shape.word_count g.S.Shape.good c.args.desk.now) c.args.a
    c.lock_of.result c.scan_rest.result c.args.pass.now.view c.claim.new.pass.view c.scan_rest.new.pass.view
    c.lock_of.ensures.lock c.in-Pending.ensures.call c.in-Pending.ensures.step c.scan_rest.ensures.met

pub returns-in-Met-clause-asks : goal.returns-in-Met-clause-asks
returns-in-Met-clause-asks g c =
    let left = claim_leaves (DeskHolds g.S.Shape.word_count g.S.Shape.good c.args.desk.now) c.args.pass.now.view
    c.args.a (claimed.Met c.in-Met.seat) c.claim.new.pass.view c.in-Met.ensures.step in
    record { call = c.in-Met.ensures.call; locks = left.writes; asked = left.asked; grants = c.in-Met.ensures.grants }

pub returns-in-Met-clause-met : goal.returns-in-Met-clause-met
returns-in-Met-clause-met g c = claim_meets (DeskHolds g.S.Shape.word_count g.S.Shape.good c.args.desk.now) c.args.a
    c.in-Met.seat c.args.pass.now.view c.claim.new.pass.view c.in-Met.ensures.step (c.in-Met.ensures.met c.in-Met.seat refl)
