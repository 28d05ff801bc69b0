use Rattle.txn_stores.proofs.Common.{◌≡◌, List, ℕ, length, ap, ◌∙◌, sym, subst, after, outcome_of, is_kept, answer_of, ScriptOn, ScriptMeans}
use Rattle.word_table.proofs.Common.{IsGood}
use Rattle.txn_words.proofs.Common.{length-after}
use Rattle.txn_stores.proofs.Scripted.{refused_stands}
use Rattle.txn_stores.proofs.on_plain.run_on_plain.Goals.{In_ok-verdict}
use Rattle.txn_stores.proofs.on_plain.run_on_plain.Goals as goal

pub run_on_plain-requires-clause-good : goal.run_on_plain-requires-clause-good
run_on_plain-requires-clause-good g c =
    subst (λ z. IsGood (g.S.Shape.word_count c.args.shape.now) (g.S.Shape.good c.args.shape.now) z) (sym (c.in_ok-copy.ensures.items ∙ c.deref.ensures.value))
    c.requires.good

-- what the job did with the words
means : (g : _) (c : In_ok-verdict g) → ScriptMeans (g.S.Store.stands c.args.shape.now)
    (g.S.Store.step c.args.shape.now) c.args.script.now c.args.words.now.items
    (is_kept c.in_ok-verdict.verdict) (answer_of c.in_ok-verdict.verdict) (after c.in_ok-verdict.plain.trace c.in_ok-copy.copy.items)
means g c =
    let verdict = c.in_ok-verdict.verdict in
    let words = c.in_ok-copy.copy.items in
    let left = after c.in_ok-verdict.plain.trace words in
    subst (λ z. ScriptMeans (g.S.Store.stands c.args.shape.now) (g.S.Store.step c.args.shape.now) c.args.script.now z (is_kept verdict)
    (answer_of verdict) left)
    (c.in_ok-copy.ensures.items ∙ c.deref.ensures.value)
    (subst (λ (job : ScriptOn g.row.S.Denot g.row.S-Op.Denot). ScriptMeans (g.S.Store.stands job.shape) (g.S.Store.step job.shape) job.script words
    (is_kept verdict)
    (answer_of verdict) left) c.new-job.ensures c.in_ok-verdict.ensures.meaning)

pub returns-in-Keep-clause-words : goal.returns-in-Keep-clause-words
returns-in-Keep-clause-words g c = λ state stand.
    let d = (goal.at.returns-in-Keep-clause-words g c).In_ok-verdict in
    let same : after c.in_ok-verdict.plain.trace c.in_ok-copy.copy.items ≡ c.into_words.result.items =
    ap (after c.in_ok-verdict.plain.trace) (sym c.in_ok-verdict.ensures.origin) ∙ sym c.into_words.ensures in
    subst (λ z. g.S.Store.stands c.args.shape.now z (outcome_of (g.S.Store.step c.args.shape.now) c.args.script.now state).1) same
    ((means g d).leaves (ap is_kept c.in-Keep.is) state stand)

pub returns-in-Keep-clause-count : goal.returns-in-Keep-clause-count
returns-in-Keep-clause-count g c =
    ap (λ (l : List ℕ). length l) c.into_words.ensures
    ∙ length-after c.in_ok-verdict.plain.trace c.in_ok-verdict.plain.origin
    ∙ ap (λ (l : List ℕ). length l) (c.in_ok-verdict.ensures.origin ∙ c.in_ok-copy.ensures.items ∙ c.deref.ensures.value)

pub returns-in-Revert-clause-words : goal.returns-in-Revert-clause-words
returns-in-Revert-clause-words g c =
    let d = (goal.at.returns-in-Revert-clause-words g c).In_ok-verdict in
    refused_stands (g.S.Store.stands c.args.shape.now) (g.S.Store.step c.args.shape.now) c.args.script.now c.args.words.now.items
    (is_kept c.in_ok-verdict.verdict)
    (answer_of c.in_ok-verdict.verdict) (after c.in_ok-verdict.plain.trace c.in_ok-copy.copy.items) (means g d) (ap is_kept c.in-Revert.is)
