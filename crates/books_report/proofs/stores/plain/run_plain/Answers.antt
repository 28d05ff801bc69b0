use Rattle.books_report.proofs.Common.{◌≡◌, ap, sym, ◌∙◌, run_from, run_with}
use Rattle.books_report.proofs.AnyStore.Runs.{done_leaves, refused_leaves, replies}
use Rattle.books_report.proofs.stores.plain.run_plain.Given.{Over}
use Rattle.books_report.proofs.stores.plain.run_plain.Goals.{In_ok-reply, in-Done, in_default}
use Rattle.books_report.proofs.stores.plain.run_plain.Goals as goal

-- the reply tells the run of the script on the store as it was
told : (g : Over) (c : In_ok-reply g) → run_from (g.P.PlainStore.step (g.P.PlainStore.fixed c.args.store.now)) 1 c.args.script.now
    (g.P.PlainStore.state c.args.store.now) ≡ run_with c.in_ok-reply.reply (g.P.PlainStore.state c.run_operations.new.store)
told g c =
    let p = g.P.PlainStore in
    sym (ap (λ store. run_from (p.step (p.fixed store)) 1 c.args.script.now (p.state store)) c.in_ok-trial.ensures) ∙ c.in_ok-reply.ensures.run

pub returns-clause-reply : goal.returns-clause-reply
returns-clause-reply g c =
    replies (g.P.PlainStore.state c.args.store.now) _ c.in_ok-reply.reply (told g (goal.at.returns-clause-reply g c).In_ok-reply)

pub returns-clause-state : goal.returns-clause-state
returns-clause-state g c =
    let p = g.P.PlainStore in
    let before = p.state c.args.store.now in
    let after = p.state c.run_operations.new.store in
    let run = told g (goal.at.returns-clause-state g c).In_ok-reply in
    elim c.match-reply.branch [
      | in-Done w ↦ ap p.state w.store-is ∙ done_leaves before _ w.in-Done.is run
      | in_default w ↦ ap p.state w.store-is ∙ refused_leaves after c.in_ok-reply.reply w.in_default.not-Done run
    ]
