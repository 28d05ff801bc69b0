use Rattle.word_table.proofs.Common.{◌≡◌, ◌-◌, ◌∙◌, refl, arith, IfOk-from_err}
use Rattle.word_table.proofs.Openings.Opening.{dealt_push, last_me}
use Rattle.word_table.proofs.deal.deal.Goals as goal

pub loop-j-preserved : goal.loop-j-preserved
loop-j-preserved g c = let i = c.loop-j.invariant in let d = c.deal_one-own.ensures in (
  d.table.0 ∙ i.0,
  d.steps.0,
  d.left,
  dealt_push c.args.table.now.key.base.items c.args.n c.args.table.now.table_id c.loop-j.j c.loop-j.passes.items
      c.push.new.self.items c.of.result c.loop-j.j c.deal_one-own.result.me i.3 refl c.in_ok-push.ensures.items
      (c.of.ensures.table ∙ (d.table.1 ∙ i.0)) d.dealt c.of.ensures.view
      (c.of.ensures.steps ∙ d.steps.1),
)

pub returns-clause-passes : goal.returns-clause-passes
returns-clause-passes g c = let i = c.loop-j.invariant in let end : c.loop-j.j ≡ c.args.n - 1 = omega arith in
    let d = dealt_push c.args.table.now.key.base.items c.args.n c.args.table.now.table_id (c.args.n - 1)
    c.loop-j.passes.items c.push-2.new.self.items c.of-2.result c.loop-j.j c.loop-j.seat.me i.3 end
    c.in_ok-push-2.ensures.items (c.of-2.ensures.table ∙ i.0)
    (last_me c.args.table.now.key.base.items c.args.n c.loop-j.j c.loop-j.seat.me c.requires.counts.0 end i.2) c.of-2.ensures.view
    (c.of-2.ensures.steps ∙ i.1) in
    λ j lt. d.each j (omega arith)

pub returns-in_err-scans : goal.returns-in_err-scans
returns-in_err-scans g c = let failed = c.from_residual.ensures.0 in search IfOk-from_err

pub returns-in_err-push : goal.returns-in_err-push
returns-in_err-push g c = let failed = c.from_residual-in_err-push.ensures.0 in search IfOk-from_err

pub returns-in_err-scans-2 : goal.returns-in_err-scans-2
returns-in_err-scans-2 g c = let failed = c.from_residual-in_err-scans-2.ensures.0 in search IfOk-from_err

pub returns-in_err-push-2 : goal.returns-in_err-push-2
returns-in_err-push-2 g c = let failed = c.from_residual-in_err-push-2.ensures.0 in search IfOk-from_err
