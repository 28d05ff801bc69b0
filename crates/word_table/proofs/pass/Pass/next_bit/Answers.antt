use Rattle.word_table.proofs.Common.{◌≤◌, subst, HasBit, PassView, IsLeast}
use Rattle.word_table.proofs.Copied.Passes.{least_of_all, near_least}
use Rattle.word_table.proofs.pass.Pass.next_bit.Goals as goal

pub returns-clause-least : goal.returns-clause-least
returns-clause-least g c = let v = c.self.inside.seat.me.0 in let i = c.self.invariant.locks_are in
    subst (λ (p : PassView). IsLeast (HasBit p.view) c.least_from.result) c.self.view_is
    (least_of_all v.bits c.least_from.result (c.least_from.ensures v.bits i.bits_are))

pub returns-clause-lock : goal.returns-clause-lock
returns-clause-lock g c = let v = c.self.inside.seat.me.0 in let i = c.self.invariant.locks_are in
    near_least c.self.inside.locks.bits v.bits (λ k. 0 ≤ k) c.least_from.result i.bits_are (c.least_from.ensures v.bits i.bits_are)
