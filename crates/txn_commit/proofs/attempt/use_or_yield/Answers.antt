use Rattle.txn_commit.proofs.Common.{ℕ, sym, subst, IsGranted, HasUseOf}
use Rattle.txn_commit.proofs.Asking.{used_before}
use Rattle.txn_commit.proofs.attempt.use_or_yield.Goals as goal

pub returns-then-has_use-clause-uses : goal.returns-then-has_use-clause-uses
returns-then-has_use-clause-uses g c = used_before _ c.args.a c.args.attempt.now.pass.now.view c.args.attempt.now.halt c.requires.judged
    (subst (λ (k : ℕ). IsGranted c.args.attempt.now.pass.now.view k) c.lock_of.ensures.lock (c.has_use.ensures.granted c.if-has_use.true c.requires.phase))
    (subst (λ (k : ℕ). HasUseOf c.args.attempt.now.pass.now.view k) c.lock_of.ensures.lock (c.has_use.ensures.used.0 c.if-has_use.true))

pub first_use-requires-clause-unused : goal.first_use-requires-clause-unused
first_use-requires-clause-unused g c used = let found = c.has_use.ensures.used.1 (subst (λ (k : ℕ). HasUseOf c.args.attempt.now.pass.now.view k)
    (sym c.lock_of.ensures.lock) used) in let none = c.if-has_use.false in cc
