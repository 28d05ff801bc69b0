use Rattle.txn_books.proofs.Common.{List, ℕ, length, ap, ◌∙◌, sym, subst, IsGood, after, length-after, is_kept, answer_of, words_of, IsGoodFor, ScriptOn}
use Rattle.txn_books.proofs.Common.{ScriptMeans}
use Rattle.txn_books.proofs.OnBooks.Scripted.{refused_stands}
use Rattle.txn_books.proofs.on_plain.run_on_plain.Goals as goal

pub run_on_plain-requires-clause-good : goal.run_on_plain-requires-clause-good
run_on_plain-requires-clause-good c =
    subst (λ z. IsGood (words_of c.args.shape.now) (IsGoodFor c.args.shape.now) z) (sym (c.in_ok-copy.ensures.items ∙ c.deref.ensures.value)) c.requires.good

pub returns-in-Keep-clause-count : goal.returns-in-Keep-clause-count
returns-in-Keep-clause-count c =
    ap (λ (l : List ℕ). length l) c.into_words.ensures
    ∙ length-after c.in_ok-verdict.plain.trace c.in_ok-verdict.plain.origin
    ∙ ap (λ (l : List ℕ). length l) (c.in_ok-verdict.ensures.origin ∙ c.in_ok-copy.ensures.items ∙ c.deref.ensures.value)

pub returns-in-Revert-clause-words : goal.returns-in-Revert-clause-words
returns-in-Revert-clause-words c =
    let verdict = c.in_ok-verdict.verdict in
    let words = c.in_ok-copy.copy.items in
    let left = after c.in_ok-verdict.plain.trace words in
    let means = subst (λ (job : ScriptOn). ScriptMeans job.shape job.script words (is_kept verdict) (answer_of verdict)
    left) c.new-job.ensures c.in_ok-verdict.ensures.meaning in
    let here = subst (λ z. ScriptMeans c.args.shape.now c.args.script.now z (is_kept verdict) (answer_of verdict) left)
    (c.in_ok-copy.ensures.items ∙ c.deref.ensures.value) means in
    refused_stands c.args.shape.now c.args.script.now c.args.words.now.items (is_kept verdict) (answer_of verdict) left here (ap is_kept c.in-Revert.is)
