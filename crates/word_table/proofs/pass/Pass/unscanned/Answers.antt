use Rattle.word_table.proofs.Common.{sym, ap, ◌∙◌, subst, has, HasClaim, PassView, IsLeast, IsUnscanned}
use Rattle.word_table.proofs.Copied.Passes.{least_unscanned, all_scanned}
use Rattle.word_table.proofs.pass.Pass.unscanned.Goals as goal

pub returns-clause-least : goal.returns-clause-least
returns-clause-least g c = let i = c.self.invariant in let p = c.self.inside in
    let claim : HasClaim p.seat.me.0 c.args.k = ap (λ (x : PassView). has c.args.k x.view.claims) c.self.view_is
    ∙ (sym c.has_claim.ensures ∙ c.if-not-has_claim.false) in
    subst (λ (x : PassView). IsLeast (IsUnscanned x.view c.args.k) c.least_seat.result) c.self.view_is
    (least_unscanned p.seat.me.0 c.args.k p.call.seats p.call.who p.call.others _ claim i.call_is.seats_are i.call_is.who_is i.below i.few i.others_are
    (λ j lt. i.locks_are.scans_are.bits c.args.k j c.requires lt) c.left_to_scan-left.ensures.fits
    c.left_to_scan-left.result c.least_seat.result c.left_to_scan-left.ensures.value c.least_seat.ensures)

pub returns-clause-all_scanned : goal.returns-clause-all_scanned
returns-clause-all_scanned g c = all_scanned c.args.self.now.view c.args.k c.least_seat.result (returns-clause-least g c)
