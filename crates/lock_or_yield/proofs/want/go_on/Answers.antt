use Rattle.lock_or_yield.proofs.Common.{◌<◌, ℕ, length, refl, sym, ap, ◌∙◌, subst, View}
use Rattle.lock_or_yield.proofs.Turning.{turn_met}
use Rattle.lock_or_yield.proofs.Wanting.{ends_giving_way, ends_granted, since_waiting}
use Rattle.lock_or_yield.proofs.want.go_on.Goals as goal

-- the call goes on
pub ask_again-requires : goal.ask_again-requires
ask_again-requires g c = let view = (c.in-Wait.ensures.waits c.in-Wait.field-0 refl).1.view in record {
  desk = c.in-Wait.ensures.desk ∙ c.requires.desk;
  phase = ap (λ (v : View). v.phase) view ∙ c.requires.phase;
  word = subst (λ (n : ℕ). c.args.a < n) (sym (ap (λ (v : View). length v.base) view)) c.requires.word;
  judged = ap (λ (v : View). v.met) view;
}

pub returns-in-Granted-clause-answer : goal.returns-in-Granted-clause-answer
returns-in-Granted-clause-answer g c old first = let i = c.args.intent in let new = c.judge_met.new.pass.view in let h = c.in-Granted.ensures in
    let t = turn_met g.S.Shape c.args.desk.now i c.args.a old c.args.other c.args.pass.now.view _ new first h.judged h.waits h.found h.yields h.bounded in
    record { asks = t.asks; locks = t.locks; judged = t.judged; answer = ends_granted _ _ i c.args.a old new t.turn }

pub returns-in-Yield-clause-answer : goal.returns-in-Yield-clause-answer
returns-in-Yield-clause-answer g c old first = let i = c.args.intent in let new = c.judge_met.new.pass.view in let h = c.in-Yield.ensures in
    let t = turn_met g.S.Shape c.args.desk.now i c.args.a old c.args.other c.args.pass.now.view _ new first h.judged h.waits h.found h.yields h.bounded in
    record { asks = t.asks; locks = t.locks; judged = t.judged; answer = ends_giving_way _ _ i c.args.a old c.in-Yield.cause new t.turn }

pub returns-in-Wait-clause-answer : goal.returns-in-Wait-clause-answer
returns-in-Wait-clause-answer g c old first = let i = c.args.intent in let mid = c.judge_met.new.pass.view in let h = c.in-Wait.ensures in
    since_waiting g.S.Shape c.args.desk.now i c.args.a old c.in-Wait.field-0 mid c.ask_again.new.pass.view c.ask_again.result
    (turn_met g.S.Shape c.args.desk.now i c.args.a old c.args.other c.args.pass.now.view _ mid first h.judged h.waits h.found h.yields h.bounded)
    c.ask_again.ensures.answer
