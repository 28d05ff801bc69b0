use Rattle.lock_or_yield.proofs.Common.{[], ◌∷◌, refl, ap, ◌∙◌, View, lock_of_word, WentOn}
use Rattle.lock_or_yield.proofs.Wanting.{asked_before, asks_more, asks_none, ends_giving_way, ends_granted, locks_more, locks_none, went_more, went_on}
use Rattle.lock_or_yield.proofs.want.ask_again.Goals as goal

pub loop-init : goal.loop-init
loop-init g c = let v = c.args.pass.now.view in record {
  table = c.requires.desk;
  phase = c.requires.phase;
  judged = c.requires.judged;
  base = refl;
  asks = asks_none c.args.a v;
  locks = locks_none c.args.intent (lock_of_word c.args.a) v;
  went = refl;
}

pub loop-preserved : goal.loop-preserved
loop-preserved g c = let old = c.args.pass.now.view in let mid = c.loop.pass.view in let new = c.try_to.new.pass.view in let inv = c.loop.invariant in
    let h = c.in-Wait.ensures in let j = c.in-Wait.field-0 in
    let went : WentOn old new = went_more old mid new inv.went (went_on ((lock_of_word c.args.a, j) ∷ []) mid new (h.turn.turn.waits j refl)) in record {
      table = h.desk ∙ inv.table;
      phase = ap (λ (v : View). v.phase) went ∙ c.requires.phase;
      judged = h.turn.judged;
      base = ap (λ (v : View). v.base) went;
      asks = asks_more c.args.a old mid new inv.asks h.turn.asks;
      locks = locks_more c.args.intent (lock_of_word c.args.a) old mid new inv.locks h.turn.locks;
      went = went;
    }

pub returns-in-Granted-clause-answer : goal.returns-in-Granted-clause-answer
returns-in-Granted-clause-answer g c = let old = c.args.pass.now.view in let mid = c.loop.pass.view in let new = c.try_to.new.pass.view in
    let inv = c.loop.invariant in let h = c.in-Granted.ensures in record {
      asks = asks_more c.args.a old mid new inv.asks h.turn.asks;
      locks = locks_more c.args.intent (lock_of_word c.args.a) old mid new inv.locks h.turn.locks;
      judged = h.turn.judged;
      answer = asked_before _ _ c.args.intent c.args.a old mid new _ inv.asks inv.went (ends_granted _ _ c.args.intent c.args.a mid new h.turn.turn);
    }

pub returns-in-Yield-clause-answer : goal.returns-in-Yield-clause-answer
returns-in-Yield-clause-answer g c = let old = c.args.pass.now.view in let mid = c.loop.pass.view in let new = c.try_to.new.pass.view in
    let inv = c.loop.invariant in let h = c.in-Yield.ensures in record {
      asks = asks_more c.args.a old mid new inv.asks h.turn.asks;
      locks = locks_more c.args.intent (lock_of_word c.args.a) old mid new inv.locks h.turn.locks;
      judged = h.turn.judged;
      answer = asked_before _ _ c.args.intent c.args.a old mid new _ inv.asks inv.went
          (ends_giving_way _ _ c.args.intent c.args.a mid c.in-Yield.cause new h.turn.turn);
    }
