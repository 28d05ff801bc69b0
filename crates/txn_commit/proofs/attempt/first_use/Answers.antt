use Rattle.txn_commit.proofs.Common.{◌<◌, ℕ, length, refl, sym, ap, ◌∙◌, subst, View, lock_of_word, has, IsGranted, RuleHolds, locks_found}
use Rattle.lock_or_yield.proofs.Common.{MeetsFirst}
use Rattle.lock_or_yield.proofs.Turning.{share_clear, share_meets}
use Rattle.lock_or_yield.proofs.Wanting.{since_clear}
use Rattle.txn_commit.proofs.Asking.{asked_granted, asked_held, goes_on_used}
use Rattle.txn_commit.proofs.Attempts.{granted_not_yield, held_not_yield}
use Rattle.lock_or_yield.specs.declared.turn.Intent.TheVariants as intent
use Rattle.txn_commit.specs.declared.attempt.Asked.TheVariants as asked
use Rattle.txn_commit.proofs.attempt.first_use.Goals as goal

pub find_new-requires-clause-granted : goal.find_new-requires-clause-granted
find_new-requires-clause-granted g c = subst (λ (k : ℕ). IsGranted c.args.attempt.now.pass.now.view k) c.lock_of.ensures.lock
    (c.is_granted.ensures.0 c.if-is_granted.true)

pub returns-then-is_granted-clause-uses : goal.returns-then-is_granted-clause-uses
returns-then-is_granted-clause-uses g c = let old : View = c.args.attempt.now.pass.now.view in let halt = c.args.attempt.now.halt in
    goes_on_used _ c.args.a old old c.find_new.new.pass.view halt _ asked.Held
    (asked_held _ intent.Read c.args.a old halt c.requires.judged
    (subst (λ (k : ℕ). IsGranted old k) c.lock_of.ensures.lock (c.is_granted.ensures.0 c.if-is_granted.true))) held_not_yield refl
    (c.find_new.ensures.view, c.find_new.ensures.used)

pub share_new-requires-clause-free : goal.share_new-requires-clause-free
share_new-requires-clause-free g c held = let found = c.is_granted.ensures.1 (subst (λ (k : ℕ). IsGranted c.args.attempt.now.pass.now.view k)
    (sym c.lock_of.ensures.lock) held) in let none = c.if-is_granted.false in cc

pub use_lock-requires : goal.use_lock-requires
use_lock-requires g c = let h = c.in-Granted.ensures in record {
  desk = h.desk ∙ c.requires.desk;
  phase = ap (λ (v : View). v.phase) h.call ∙ c.requires.phase;
  granted = h.granted refl;
  unused = λ used. c.requires.unused (sym (ap (λ (v : View). has (lock_of_word c.args.a) (locks_found v.uses)) h.call) ∙ used);
}

pub returns-in-Granted-clause-uses : goal.returns-in-Granted-clause-uses
returns-in-Granted-clause-uses g c = let h = c.in-Granted.ensures in let old : View = c.args.attempt.now.pass.now.view in
    let new : View = c.share_new.new.pass.view in let halt = c.args.attempt.now.halt in let desk = c.args.attempt.now.desk.now in
    goes_on_used _ c.args.a old new c.use_lock.new.attempt.pass.now.view halt _ asked.Granted
    (asked_granted g.S.Shape desk intent.Read c.args.a old new halt (since_clear g.S.Shape desk intent.Read c.args.a old new c.requires.judged
    (share_clear (RuleHolds g.S.Shape desk) c.args.a old new h.step h.call h.grants (h.granted refl)))) granted_not_yield
    c.use_lock.ensures.halt c.use_lock.ensures.finds

pub first_use_met-requires : goal.first_use_met-requires
first_use_met-requires g c = let h = c.in-Met.ensures in let old : View = c.args.attempt.now.pass.now.view in let met : View = c.share_new.new.pass.view in
    let sound = RuleHolds g.S.Shape c.args.attempt.now.desk.now in let j = c.in-Met.other in
    let first : MeetsFirst intent.Read sound c.args.a j old met =
    record { judged = c.requires.judged; once = share_meets sound c.args.a j old met h.step h.call h.grants (h.met j refl) } in record {
      desk = h.desk ∙ c.requires.desk;
      phase = ap (λ (v : View). v.phase) h.call ∙ c.requires.phase;
      word = subst (λ (n : ℕ). c.args.a < n) (sym (ap (λ (v : View). length v.base) h.call)) c.requires.word;
      met = (old, first);
      unused = λ used. c.requires.unused (sym (ap (λ (v : View). has (lock_of_word c.args.a) (locks_found v.uses)) h.call) ∙ used);
    }

pub returns-in-Met-clause-uses : goal.returns-in-Met-clause-uses
returns-in-Met-clause-uses g c = let h = c.in-Met.ensures in let old : View = c.args.attempt.now.pass.now.view in let j = c.in-Met.other in
    c.first_use_met.ensures.uses old (record {
      judged = c.requires.judged;
      once = share_meets (RuleHolds g.S.Shape c.args.attempt.now.desk.now) c.args.a j old c.share_new.new.pass.view h.step h.call h.grants (h.met j refl);
    })
