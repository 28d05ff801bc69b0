use Rattle.txn_commit.proofs.Common.{◌≡◌, ℕ, ◌+◌, ◌<◌, ◌≤◌, [], Some, sym, ap, ◌∙◌, subst, arith, dite, ℕ_discrete, Running, Yielding, View, HasClaim}
use Rattle.txn_commit.proofs.Common.{RuleHolds, WaitedForCause}
use Rattle.word_table.proofs.Common.{HasBit, newest, past_causes}
use Rattle.txn_commit.proofs.transaction.wait_out.Goals as goal

-- one more look at the cause, which is there or is gone
waited : (first now new : View) → now ≡ record first { waits = now.waits } → new ≡ record now { waits = now.waits + 1 }
    → new ≡ record first { waits = new.waits }
waited first now new same step =
    step ∙ (ap (λ (v : View). record v { waits = now.waits + 1 }) same ∙ ap (λ (n : ℕ). record first { waits = n }) (sym (ap (λ (v : View). v.waits) step)))

restarted : (first now new : View) → now ≡ record first { waits = now.waits } → new ≡ record now { phase = Running; trace = []; uses = [] }
    → new ≡ record first { phase = Running; trace = []; uses = []; waits = new.waits }
restarted first now new same step =
    step ∙ (ap (λ (v : View). record v { phase = Running; trace = []; uses = [] }) same
    ∙ ap (λ (n : ℕ). record first { phase = Running; trace = []; uses = []; waits = n }) (sym (ap (λ (v : View). v.waits) step)))

pub gone-requires : goal.gone-requires
gone-requires g c = let same = sym c.loop.invariant.1 in record {
  desk = c.loop.invariant.0 ∙ c.requires.desk;
  phase = subst (λ (v : View). v.phase ≡ Yielding) same c.requires.phase;
  other = subst (λ (v : View). c.args.cause.seat < v.seats) same c.requires.other;
  cause = subst (λ (v : View). newest (past_causes v) ≡ Some c.args.cause) same c.requires.cause;
  no_bit = subst (λ (v : View). (k : ℕ) → ¬ HasBit v k) same c.requires.nothing.no_bit;
  no_claim = subst (λ (v : View). (k : ℕ) → ¬ HasClaim v k) same c.requires.nothing.no_claim;
  undone = subst (λ (v : View). v.undo ≡ []) same c.requires.undone;
}

pub returns-then-gone : goal.returns-then-gone
returns-then-gone g c = let step = c.gone.ensures.restarts c.if-gone.true in record {
  desk = c.gone.ensures.desk ∙ c.loop.invariant.0;
  restarts = restarted c.args.pass.now.view c.loop.pass.view c.gone.new.pass.view c.loop.invariant.1 step;
  found = subst (λ (m : ℕ). (waits : ℕ) → c.args.pass.now.view.waits ≤ waits → waits < m
      → WaitedForCause (RuleHolds g.S.Shape c.args.desk.now) c.args.desk.now.seats c.args.cause (record c.args.pass.now.view { waits = waits }))
      (sym (ap (λ (v : View). v.waits) step)) c.loop.invariant.2;
  fits = c.gone.ensures.fits c.if-gone.true;
}

pub loop-preserved : goal.loop-preserved
loop-preserved g c = (
  c.gone.ensures.desk ∙ c.loop.invariant.0,
  waited c.args.pass.now.view c.loop.pass.view c.gone.new.pass.view c.loop.invariant.1 (c.gone.ensures.waits c.if-gone.false),
  λ waits low high. let more : c.gone.new.pass.view.waits ≡ c.loop.pass.view.waits + 1 = ap (λ (v : View). v.waits) (c.gone.ensures.waits c.if-gone.false) in
      dite (ℕ_discrete waits c.loop.pass.view.waits)
      (λ last. subst (λ (v : View). WaitedForCause (RuleHolds g.S.Shape c.args.desk.now) c.args.desk.now.seats c.args.cause v)
      (c.loop.invariant.1 ∙ ap (λ (m : ℕ). record c.args.pass.now.view { waits = m }) (sym last)) (c.gone.ensures.found c.if-gone.false))
      (λ before. c.loop.invariant.2 waits low (omega arith)),
)
