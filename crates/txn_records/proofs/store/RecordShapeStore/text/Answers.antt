use Rattle.txn_records.proofs.Common.{◌≡◌, List, sym, ap, ◌∙◌, subst, entries_sorted, IfOk-weaker, Printed, index_of, RecordShape, words_of, IsGoodFor, Stands}
use Rattle.word_table.proofs.Common.{IsGood}
use Rattle.books_report.proofs.Common.{lent, scripts_of}
use Rattle.txn_stores.proofs.Common.{state_left}
use Rattle.record_text.specs.Output.{closing_of, record_store, text_of, AreByRank}
use Rattle.record_text.proofs.Ranked.{printed_by_rank}
use Rattle.txn_records.proofs.store.RecordShapeStore.text.Goals.{After-deref}
use Rattle.std.specs.FinMap as finite
use Rattle.txn_records.proofs.store.RecordShapeStore.text.Goals as goal

pub records_of_words-requires : goal.records_of_words-requires
records_of_words-requires c = record {
  good = subst (λ (s : RecordShape). IsGood (words_of s) (IsGoodFor s) c.args.words.now) (sym c.shape_of.ensures.value) c.requires.good;
}

-- what is printed at the end is what the scripts leave
closing_is : (c : After-deref)
    → c.deref.result.now ≡ closing_of c.args.input.now (scripts_of c.args.lines.now (lent c.args.replies.now))
closing_is c =
    let left = state_left (record_store c.args.input.now) (scripts_of c.args.lines.now (lent c.args.replies.now)) in
    c.deref.ensures.value
    ∙ c.in_ok-closing.ensures left (subst (λ (s : RecordShape). Stands s c.args.words.now left) (sym c.shape_of.ensures.value) c.requires.left)

pub records_text-requires-clause-by_rank : goal.records_text-requires-clause-by_rank
records_text-requires-clause-by_rank c =
    subst (λ (l : List Printed). AreByRank l) (sym (closing_is c))
    (let rest = state_left (record_store c.args.input.now) (scripts_of c.args.lines.now (lent c.args.replies.now)) in
    printed_by_rank (finite.entries (index_of rest)) (entries_sorted (index_of rest)))

pub returns : goal.returns
returns c =
    let d = (goal.at.returns c).After-deref in
    IfOk-weaker c.records_text.result _ _
    (λ text told. told
    ∙ ap (λ (l : List Printed). text_of c.args.input.now (scripts_of c.args.lines.now (lent c.args.replies.now)) l) (closing_is d))
    c.records_text.ensures.text
