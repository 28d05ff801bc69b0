use Rattle.txn_stores.proofs.Common.{ℕ, List, sym, ap, ◌∙◌, subst, after, Fits, is_kept, answer_of, ScriptOn, ScriptMeans}
use Rattle.txn_stores.proofs.Scripted.{fresh_leaves, fresh_means, fresh_stands}
use Rattle.txn_stores.proofs.job.StoreJobJob.run.Goals as goal

pub run_script-requires-clause-stands : goal.run_script-requires-clause-stands
run_script-requires-clause-stands g c =
    fresh_stands g.W.Words _ g.S.Store.stands c.self.inside.shape g.met.S.Store.good_stand c.args.w.now c.requires.fresh
    (c.requires.shape ∙ ap (λ (job : ScriptOn g.row.S.Denot g.row.S-Op.Denot). job.shape) (sym c.self.view_is))

pub returns-clause-meaning : goal.returns-clause-meaning
returns-clause-meaning g c =
    let t = g.W.Words.trace c.run_script.new.w in
    let kept = is_kept c.verdict_on.result in
    let shape = c.self.inside.shape in
    let script = c.self.inside.script.now in
    let here = c.requires.shape ∙ ap (λ (job : ScriptOn g.row.S.Denot g.row.S-Op.Denot). job.shape) (sym c.self.view_is) in
    subst (λ (job : ScriptOn g.row.S.Denot g.row.S-Op.Denot). (s : List ℕ) → Fits (g.S.Shape.word_count job.shape) (g.S.Shape.good job.shape) t s
    → ScriptMeans (g.S.Store.stands job.shape) (g.S.Store.step job.shape) job.script s kept (answer_of c.verdict_on.result) (after t s)) c.self.view_is
    (λ s fit. subst (λ answer. ScriptMeans (g.S.Store.stands shape) (g.S.Store.step shape) script s kept answer (after t s)) (sym c.verdict_on.ensures.answer)
    (fresh_means (g.S.Store.stands shape) (g.S.Store.step shape) g.W.Words _ shape c.args.w.now c.run_script.new.w here c.requires.fresh script _ kept
    c.verdict_on.ensures.kept c.in_ok-reply.ensures.runs s fit))

pub returns-clause-good : goal.returns-clause-good
returns-clause-good g c = λ kept.
    let t = g.W.Words.trace c.run_script.new.w in
    let shape = c.self.inside.shape in
    let here = c.requires.shape ∙ ap (λ (job : ScriptOn g.row.S.Denot g.row.S-Op.Denot). job.shape) (sym c.self.view_is) in
    subst (λ (job : ScriptOn g.row.S.Denot g.row.S-Op.Denot). (s : List ℕ) → Fits (g.S.Shape.word_count job.shape) (g.S.Shape.good job.shape) t s
    → g.S.Shape.good job.shape (after t s)) c.self.view_is
    (fresh_leaves g.W.Words _ g.S.Store.stands shape g.met.S.Store.stand_good c.args.w.now c.run_script.new.w here _ (is_kept c.verdict_on.result)
    c.verdict_on.ensures.kept kept c.in_ok-reply.ensures.hands_on.shape c.in_ok-reply.ensures.stands)
