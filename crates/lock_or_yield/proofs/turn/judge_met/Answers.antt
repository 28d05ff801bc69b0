use Rattle.lock_or_yield.proofs.Common.{◌≡◌, ℕ, List, [], refl, sym, ap, ◌∙◌, subst, Cause, View, has, has_pair, has-join_same, JudgedToYield}
use Rattle.word_table.proofs.Common.{IsGood}
use Rattle.lock_or_yield.proofs.Turning.{wait_same, yield_same, settled_to_wait, settled_to_yield}
use Rattle.lock_or_yield.proofs.turn.judge_met.Goals as goal

-- the seat that was met is still to be judged
pub judge-requires-clause-met : goal.judge-requires-clause-met
judge-requires-clause-met g c = ap (λ (v : View). has c.args.other v.met) c.announce_once.ensures.view
    ∙ (ap (λ (v : View). has c.args.other v.met) c.draw_once.ensures.view
    ∙ (ap (λ (l : List ℕ). has c.args.other l) c.requires.met ∙ has-join_same c.args.other []))

pub returns-in-Wait-clause-waits : goal.returns-in-Wait-clause-waits
returns-in-Wait-clause-waits g c j e = (
  sym (wait_same c.args.other j e),
  settled_to_wait c.args.other c.args.pass.now.view c.draw_once.new.pass.view c.announce_once.new.pass.view
      c.judge.new.pass.view c.requires.met c.draw_once.ensures.view c.draw_once.ensures.stamped c.draw_once.ensures.kept
      c.announce_once.ensures.view (c.in-Wait.ensures.waits refl),
)

pub returns-in-Wait-clause-found : goal.returns-in-Wait-clause-found
returns-in-Wait-clause-found g c k e met = c.in-Wait.ensures.found k refl
    (ap (λ (v : View). has_pair k c.args.other v.meetings) c.announce_once.ensures.view
    ∙ (ap (λ (v : View). has_pair k c.args.other v.meetings) c.draw_once.ensures.view ∙ met))

pub returns-in-Yield-clause-yields : goal.returns-in-Yield-clause-yields
returns-in-Yield-clause-yields g c cause e =
    let good = IsGood (g.S.Shape.word_count c.args.desk.now.shape) (g.S.Shape.good c.args.desk.now.shape) in
    let y = c.in-Yield.ensures.yields c.in-Yield.stamp refl in
    subst (λ (x : Cause). (x.seat ≡ c.args.other)
    × JudgedToYield x c.args.pass.now.view c.judge.new.pass.view)
    (yield_same (record { seat = c.args.other; stamp = c.in-Yield.stamp }) cause e) (
      refl,
      settled_to_yield (record {
        seat = c.args.other;
        stamp =
            c.in-Yield.stamp;
      }) c.args.pass.now.view c.draw_once.new.pass.view c.announce_once.new.pass.view c.judge.new.pass.view
          c.draw_once.ensures.view c.draw_once.ensures.kept c.announce_once.ensures.view y.0 y.1 y.2 (c.in-Yield.ensures.cause c.in-Yield.stamp refl),
    )
