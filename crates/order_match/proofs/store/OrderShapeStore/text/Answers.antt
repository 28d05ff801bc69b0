use Rattle.order_match.proofs.Common.{◌≡◌, List, sym, ap, ◌∙◌, subst, IfOk-weaker, Resting, order_store, OrderShape, words_of, IsGoodFor, Stands}
use Rattle.word_table.proofs.Common.{IsGood}
use Rattle.books_report.proofs.Common.{lent, scripts_of}
use Rattle.txn_stores.proofs.Common.{state_left}
use Rattle.order_text.specs.Output.{closing_of, text_of, AreByNumber}
use Rattle.order_text.proofs.Closings.{pairs_rise}
use Rattle.order_match.proofs.store.OrderShapeStore.text.Goals.{After-deref}
use Rattle.order_match.proofs.store.OrderShapeStore.text.Goals as goal

pub orders_of_words-requires : goal.orders_of_words-requires
orders_of_words-requires c = record {
  good = subst (λ (s : OrderShape). IsGood (words_of s) (IsGoodFor s) c.args.words.now) (sym c.shape_of.ensures.value) c.requires.good;
}

-- what is printed at the end is what the scripts leave
closing_is : (c : After-deref)
    → c.deref.result.now ≡ closing_of c.args.input.now (scripts_of c.args.lines.now (lent c.args.replies.now))
closing_is c =
    let left = state_left (order_store c.args.input.now) (scripts_of c.args.lines.now (lent c.args.replies.now)) in
    c.deref.ensures.value
    ∙ c.in_ok-closing.ensures left (subst (λ (s : OrderShape). Stands s c.args.words.now left) (sym c.shape_of.ensures.value) c.requires.left)

pub orders_text-requires-clause-by_number : goal.orders_text-requires-clause-by_number
orders_text-requires-clause-by_number c =
    subst (λ (l : List Resting). AreByNumber l) (sym (closing_is c)) (pairs_rise _ c.requires.left.book_is.room.rising)

pub returns : goal.returns
returns c =
    let d = (goal.at.returns c).After-deref in
    IfOk-weaker c.orders_text.result _ _
    (λ text told. told
    ∙ ap (λ (l : List Resting). text_of c.args.input.now (scripts_of c.args.lines.now (lent c.args.replies.now)) l) (closing_is d))
    c.orders_text.ensures.text
