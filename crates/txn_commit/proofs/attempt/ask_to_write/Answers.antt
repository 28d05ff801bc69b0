use Rattle.txn_commit.proofs.Common.{ℕ, subst, HasWriteGrant}
use Rattle.txn_commit.proofs.Asking.{asked_granted, asked_held, asked_yields}
use Rattle.lock_or_yield.specs.declared.turn.Intent.TheVariants as intent
use Rattle.txn_commit.proofs.attempt.ask_to_write.Goals as goal

pub returns-then-has_write-clause-asked : goal.returns-then-has_write-clause-asked
returns-then-has_write-clause-asked g c = asked_held c.args.desk.now.seats intent.Write c.args.a c.args.pass.now.view c.args.halt.now c.requires.judged
    (subst (λ (k : ℕ). HasWriteGrant c.args.pass.now.view k) c.lock_of.ensures.lock (c.has_write.ensures.0 c.if-has_write.true))

pub returns-in-Granted-clause-asked : goal.returns-in-Granted-clause-asked
returns-in-Granted-clause-asked g c = let h = c.in-Granted.ensures in
    asked_granted _ _ intent.Write c.args.a c.args.pass.now.view c.want_write.new.pass.view c.args.halt.now
    (record { asks = h.asks; locks = h.writes; judged = h.judged; answer = h.answer })

pub returns-in-Yield-clause-asked : goal.returns-in-Yield-clause-asked
returns-in-Yield-clause-asked g c = let h = c.in-Yield.ensures in
    asked_yields _ _ intent.Write c.args.a c.args.pass.now.view c.want_write.new.pass.view c.args.halt.now c.in-Yield.cause
    (record { asks = h.asks; locks = h.writes; judged = h.judged; answer = h.answer })
