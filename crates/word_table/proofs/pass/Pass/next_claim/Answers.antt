use Rattle.word_table.proofs.Common.{◌≤◌, subst, HasClaim, PassView, IsLeast}
use Rattle.word_table.proofs.Copied.Passes.{least_of_all, near_least}
use Rattle.word_table.proofs.pass.Pass.next_claim.Goals as goal

pub returns-clause-least : goal.returns-clause-least
returns-clause-least g c = let v = c.self.inside.seat.me.0 in let i = c.self.invariant.locks_are in
    subst (λ (p : PassView). IsLeast (HasClaim p.view) c.least_from.result) c.self.view_is
    (least_of_all v.claims c.least_from.result (c.least_from.ensures v.claims i.claims_are))

pub returns-clause-lock : goal.returns-clause-lock
returns-clause-lock g c = let v = c.self.inside.seat.me.0 in let i = c.self.invariant.locks_are in
    near_least c.self.inside.locks.claims v.claims (λ k. 0 ≤ k) c.least_from.result i.claims_are (c.least_from.ensures v.claims i.claims_are)
