use Rattle.word_table.proofs.Common.{subst, IsGood, number, AreRestartsBounded, MayJudgeStamp, DeskView, RuleHolds, FoundWait}
use Rattle.word_table.proofs.Calls.Judging.{judged_waits, judged_yields, judged_bounded, judged_cause}
use Rattle.word_table.proofs.Runs.Looking.{found_wait}
use Rattle.word_table.proofs.desk.Desk.judge.Given.{Over}
use Rattle.word_table.proofs.desk.Desk.judge.Goals as goal

-- the seat may judge
may : (g : Over) (c : goal.After-judge_stamp g) → MayJudgeStamp (number c.args.pass.now.view) c.args.other c.args.pass.now.view
may g c = record {
  who = c.judge_stamp.ensures.one;
  phase = c.requires.phase;
  announced = c.requires.announced;
  met =
      c.requires.met;
}

pub returns-clause-waits : goal.returns-clause-waits
returns-clause-waits g c e = let t = c.self.inside.table in
    judged_waits (IsGood (g.S.Shape.word_count t.key.shape) (g.S.Shape.good t.key.shape)) t.key.seats t.key.base.items
    c.args.pass.now.view c.args.other c.judge_stamp.result c.judge_stamp.new.self.view c.judge_stamp.ensures.judged (may g c) e

pub returns-clause-found : goal.returns-clause-found
returns-clause-found g c k e met = let t = c.self.inside.table in let v = c.args.pass.now.view in
    subst (λ (d : DeskView _). FoundWait (RuleHolds g.S.Shape d) d.seats k c.args.other c.judge_stamp.new.self.view) c.self.view_is
    (found_wait (IsGood (g.S.Shape.word_count t.key.shape) (g.S.Shape.good t.key.shape)) t.key.seats t.key.base.items
    v k c.args.other c.judge_stamp.result c.judge_stamp.new.self.view c.judge_stamp.ensures.judged (may g c) e met)

pub returns-clause-yields : goal.returns-clause-yields
returns-clause-yields g c stamp e = let t = c.self.inside.table in
    judged_yields (IsGood (g.S.Shape.word_count t.key.shape) (g.S.Shape.good t.key.shape)) t.key.seats t.key.base.items
    c.args.pass.now.view c.args.other c.judge_stamp.result c.judge_stamp.new.self.view c.judge_stamp.ensures.judged (may g c) stamp e

pub returns-clause-bounded : goal.returns-clause-bounded
returns-clause-bounded g c = let t = c.self.inside.table in let v = c.args.pass.now.view in
    subst (λ (d : DeskView _). AreRestartsBounded d.seats (number v) c.judge_stamp.new.self.view) c.self.view_is
    (judged_bounded (IsGood (g.S.Shape.word_count t.key.shape) (g.S.Shape.good t.key.shape)) t.key.seats
    t.key.base.items v c.args.other c.judge_stamp.result c.judge_stamp.new.self.view c.judge_stamp.ensures.judged (may g c))

pub returns-clause-cause : goal.returns-clause-cause
returns-clause-cause g c stamp e = let t = c.self.inside.table in
    judged_cause (IsGood (g.S.Shape.word_count t.key.shape) (g.S.Shape.good t.key.shape)) t.key.seats t.key.base.items
    c.args.pass.now.view c.args.other c.judge_stamp.result c.judge_stamp.new.self.view c.judge_stamp.ensures.judged (may g c) stamp e
