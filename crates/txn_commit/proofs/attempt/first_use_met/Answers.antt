use Rattle.txn_commit.proofs.Common.{refl, sym, ap, ◌∙◌, View, lock_of_word, has, RuleHolds, locks_found}
use Rattle.lock_or_yield.proofs.Turning.{met_alone, met_seat}
use Rattle.txn_commit.proofs.Asking.{asked_granted, asked_yields, goes_on_used, yields_unused}
use Rattle.txn_commit.proofs.Attempts.{granted_not_yield}
use Rattle.lock_or_yield.specs.declared.turn.Intent.TheVariants as intent
use Rattle.txn_commit.specs.declared.attempt.Asked.TheVariants as asked
use Rattle.txn_commit.proofs.attempt.first_use_met.Goals as goal

pub go_on-requires-clause-other : goal.go_on-requires-clause-other
go_on-requires-clause-other g c = met_seat intent.Read (RuleHolds g.S.Shape c.args.attempt.now.desk.now) c.args.a c.args.other c.requires.met.0
    c.args.attempt.now.pass.now.view c.requires.met.1

pub go_on-requires-clause-met : goal.go_on-requires-clause-met
go_on-requires-clause-met g c = met_alone intent.Read (RuleHolds g.S.Shape c.args.attempt.now.desk.now) c.args.a c.args.other c.requires.met.0
    c.args.attempt.now.pass.now.view c.requires.met.1

-- the lock is granted, and all else is as before the seat was met
pub use_lock-requires : goal.use_lock-requires
use_lock-requires g c = let old : View = c.requires.met.0 in let first = c.requires.met.1 in let new : View = c.go_on.new.pass.view in
    let since = c.in-Granted.ensures.answer old first in let held = since.answer.granted refl in record {
      desk = c.go_on.ensures.desk ∙ c.requires.desk;
      phase = ap (λ (v : View). v.phase) held.1 ∙ (sym (ap (λ (v : View). v.phase) first.once.asks.call) ∙ c.requires.phase);
      granted = held.0;
      unused = λ used. c.requires.unused (ap (λ (v : View). has (lock_of_word c.args.a) (locks_found v.uses)) first.once.asks.call
          ∙ (sym (ap (λ (v : View). has (lock_of_word c.args.a) (locks_found v.uses)) since.asks.rest) ∙ used));
    }

pub returns-in-Granted-clause-uses : goal.returns-in-Granted-clause-uses
returns-in-Granted-clause-uses g c old first = let new : View = c.go_on.new.pass.view in let halt = c.args.attempt.now.halt in
    goes_on_used _ c.args.a old new c.use_lock.new.attempt.pass.now.view halt _ asked.Granted
    (asked_granted _ _ intent.Read c.args.a old new halt (c.in-Granted.ensures.answer old first)) granted_not_yield
    c.use_lock.ensures.halt c.use_lock.ensures.finds

pub returns-in-Yield-clause-uses : goal.returns-in-Yield-clause-uses
returns-in-Yield-clause-uses g c old first = yields_unused _ c.args.a old c.go_on.new.pass.view c.args.attempt.now.halt _
    (asked_yields _ _ intent.Read c.args.a old c.go_on.new.pass.view c.args.attempt.now.halt c.in-Yield.cause (c.in-Yield.ensures.answer old first))
