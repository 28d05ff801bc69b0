use Rattle.lock_or_yield.proofs.Common.{ap, ◌∙◌, View, RuleHolds, MeetsFirst}
use Rattle.lock_or_yield.proofs.Turning.{met_alone, met_seat, turn_clear, turn_met}
use Rattle.lock_or_yield.proofs.turn.try_to.Goals as goal

pub judge_met-requires : goal.judge_met-requires
judge_met-requires g c = let h = c.in-Some.ensures in let old = c.args.pass.now.view in let met = c.ask_once.new.pass.view in
    let first : MeetsFirst c.args.intent (RuleHolds g.S.Shape c.args.desk.now) c.args.a c.in-Some.other old met =
    record { judged = c.requires.judged; once = h.once } in record {
      desk = h.desk ∙ c.requires.desk;
      phase = ap (λ (v : View). v.phase) h.once.asks.call ∙ c.requires.phase;
      other = met_seat c.args.intent _ c.args.a c.in-Some.other old met first;
      met = met_alone c.args.intent _ c.args.a c.in-Some.other old met first;
    }

pub returns-in-None-clause-turn : goal.returns-in-None-clause-turn
returns-in-None-clause-turn g c = turn_clear g.S.Shape c.args.desk.now c.args.intent c.args.a c.args.pass.now.view c.ask_once.new.pass.view
    c.requires.judged c.in-None.ensures.once

pub returns-in-Some-clause-turn : goal.returns-in-Some-clause-turn
returns-in-Some-clause-turn g c = let judges = c.judge_met.ensures in
    turn_met g.S.Shape c.args.desk.now c.args.intent c.args.a c.args.pass.now.view c.in-Some.other c.ask_once.new.pass.view
    c.judge_met.result c.judge_met.new.pass.view (record { judged = c.requires.judged; once = c.in-Some.ensures.once })
    judges.judged judges.waits judges.found judges.yields judges.bounded
