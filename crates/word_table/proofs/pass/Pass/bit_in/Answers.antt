use Rattle.word_table.proofs.Common.{◌≡◌, ◌/◌, subst, HasBit, PassView, IsLeast}
use Rattle.word_table.proofs.Copied.Passes.{near_least}
use Rattle.word_table.proofs.pass.Pass.bit_in.Goals as goal

pub returns-clause-least : goal.returns-clause-least
returns-clause-least g c = subst (λ (p : PassView). IsLeast (λ k. (k / 64 ≡ c.args.i)
    × HasBit p.view k) c.least_in.result) c.self.view_is (c.least_in.ensures c.self.inside.seat.me.0.bits c.self.invariant.locks_are.bits_are)

pub returns-clause-lock : goal.returns-clause-lock
returns-clause-lock g c = let v = c.self.inside.seat.me.0 in let i = c.self.invariant.locks_are in
    near_least c.self.inside.locks.bits v.bits (λ k. k / 64 ≡ c.args.i) c.least_in.result i.bits_are (c.least_in.ensures v.bits i.bits_are)
