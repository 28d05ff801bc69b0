use Rattle.lock_or_yield.proofs.Common.{◌<◌, ℕ, length, sym, ap, ◌∙◌, subst, View, RuleHolds, MeetsFirst}
use Rattle.lock_or_yield.proofs.Turning.{met_alone, met_seat}
use Rattle.lock_or_yield.proofs.Wanting.{since_clear}
use Rattle.lock_or_yield.proofs.want.want.Goals as goal

pub go_on-requires : goal.go_on-requires
go_on-requires g c = let h = c.in-Some.ensures in let old = c.args.pass.now.view in let met = c.ask_once.new.pass.view in
    let first : MeetsFirst c.args.intent (RuleHolds g.S.Shape c.args.desk.now) c.args.a c.in-Some.other old met =
    record { judged = c.requires.judged; once = h.once } in record {
      desk = h.desk ∙ c.requires.desk;
      phase = ap (λ (v : View). v.phase) h.once.asks.call ∙ c.requires.phase;
      word = subst (λ (n : ℕ). c.args.a < n) (sym (ap (λ (v : View). length v.base) h.once.asks.call)) c.requires.word;
      other = met_seat c.args.intent _ c.args.a c.in-Some.other old met first;
      met = met_alone c.args.intent _ c.args.a c.in-Some.other old met first;
    }

pub returns-in-None-clause-answer : goal.returns-in-None-clause-answer
returns-in-None-clause-answer g c = since_clear g.S.Shape c.args.desk.now c.args.intent c.args.a c.args.pass.now.view c.ask_once.new.pass.view
    c.requires.judged c.in-None.ensures.once

pub returns-in-Some-clause-answer : goal.returns-in-Some-clause-answer
returns-in-Some-clause-answer g c = c.go_on.ensures.answer c.args.pass.now.view (record { judged = c.requires.judged; once = c.in-Some.ensures.once })
