use Rattle.word_table.proofs.Common.{◌≤◌, subst, HasClaim, PassView, IsLeast}
use Rattle.word_table.proofs.Copied.Passes.{near_least}
use Rattle.word_table.proofs.pass.Pass.next_claim_from.Goals as goal

pub returns-clause-least : goal.returns-clause-least
returns-clause-least g c = subst (λ (p : PassView). IsLeast (λ k. (c.args.from ≤ k)
    × HasClaim p.view k) c.least_from.result) c.self.view_is (c.least_from.ensures c.self.inside.seat.me.0.claims c.self.invariant.locks_are.claims_are)

pub returns-clause-lock : goal.returns-clause-lock
returns-clause-lock g c = let v = c.self.inside.seat.me.0 in let i = c.self.invariant.locks_are in
    near_least c.self.inside.locks.claims v.claims (λ k. c.args.from ≤ k) c.least_from.result i.claims_are (c.least_from.ensures v.claims i.claims_are)
