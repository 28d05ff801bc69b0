use Rattle.txn_books.proofs.Common.{ℕ, List, sym, ap, ◌∙◌, subst, after, Fits, is_kept, answer_of, words_of, IsGoodFor, ScriptOn, ScriptMeans}
use Rattle.txn_books.proofs.OnBooks.Scripted.{fresh_good, fresh_means, fresh_leaves}
use Rattle.txn_books.proofs.job.ScriptJobJob.run.Goals as goal

pub run_script-requires-clause-stands : goal.run_script-requires-clause-stands
run_script-requires-clause-stands g c =
    fresh_good g.W.Words _ c.self.inside.shape c.args.w.now c.requires.fresh (c.requires.shape ∙ ap (λ (job : ScriptOn). job.shape) (sym c.self.view_is))

pub returns-clause-meaning : goal.returns-clause-meaning
returns-clause-meaning g c =
    let t = g.W.Words.trace c.run_script.new.w in
    let kept = is_kept c.verdict_on.result in
    let shape = c.self.inside.shape in
    let script = c.self.inside.script.now in
    let here = c.requires.shape ∙ ap (λ (job : ScriptOn). job.shape) (sym c.self.view_is) in
    subst (λ (job : ScriptOn). (s : List ℕ) → Fits (words_of job.shape) (IsGoodFor job.shape) t s
    → ScriptMeans job.shape job.script s kept (answer_of c.verdict_on.result) (after t s)) c.self.view_is
    (λ s fit. subst (λ answer. ScriptMeans shape script s kept answer (after t s)) (sym c.verdict_on.ensures.answer)
    (fresh_means g.W.Words _ shape c.args.w.now c.run_script.new.w c.requires.fresh here script _ kept
    c.verdict_on.ensures.kept c.in_ok-reply.ensures.runs s fit))

pub returns-clause-good : goal.returns-clause-good
returns-clause-good g c = λ kept.
    let t = g.W.Words.trace c.run_script.new.w in
    let shape = c.self.inside.shape in
    let here = c.requires.shape ∙ ap (λ (job : ScriptOn). job.shape) (sym c.self.view_is) in
    subst (λ (job : ScriptOn). (s : List ℕ) → Fits (words_of job.shape) (IsGoodFor job.shape) t s → IsGoodFor job.shape (after t s)) c.self.view_is
    (fresh_leaves g.W.Words _ shape c.args.w.now c.run_script.new.w c.requires.fresh here (IsGoodFor shape)
    c.in_ok-reply.ensures.hands_on.shape c.in_ok-reply.ensures.stands)
