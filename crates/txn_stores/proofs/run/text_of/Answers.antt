use Rattle.txn_stores.proofs.Common.{List, ap, ◌∙◌, StoreReply, RanOf, state_left, text_of}
use Rattle.books_report.proofs.Common.{lent}
use Rattle.std.proofs.lemmas.Result.{IfOk-weaker}
use Rattle.txn_stores.proofs.Days.{left_printed, output_is, places_fit, scripts_are}
use Rattle.txn_stores.proofs.run.text_of.Goals as goal

pub text-requires-clause-places : goal.text-requires-clause-places
text-requires-clause-places g c =
    places_fit (g.S.Store.told c.args.input.now) g.S.Store.stands c.args.closed.now c.args.done.now c.requires.day _ _
    (c.deref.ensures.value ∙ c.in_ok-lines.ensures) (ap lent c.deref-2.ensures.value ∙ c.in_ok-replies.ensures)

pub text-requires-clause-left : goal.text-requires-clause-left
text-requires-clause-left g c =
    left_printed (g.S.Store.told c.args.input.now) g.S.Store.stands c.args.closed.now c.args.done.now c.requires.day _ _
    (c.deref.ensures.value ∙ c.in_ok-lines.ensures) (ap lent c.deref-2.ensures.value ∙ c.in_ok-replies.ensures) _ _ c.requires.shape c.words.ensures

pub returns-clause-text : goal.returns-clause-text
returns-clause-text g c =
    let store = g.S.Store.told c.args.input.now in
    let same = scripts_are store g.S.Store.stands c.args.closed.now c.args.done.now c.requires.day _ _
    (c.deref.ensures.value ∙ c.in_ok-lines.ensures) (ap lent c.deref-2.ensures.value ∙ c.in_ok-replies.ensures) in
    IfOk-weaker c.text.result _ _
    (λ text told. told ∙ ap (λ (l : List (RanOf (StoreReply g.row.S-Value.Denot))). text_of store l (store.closing (state_left store l))) same) c.text.ensures

pub returns-clause-output : goal.returns-clause-output
returns-clause-output g c =
    let store = g.S.Store.told c.args.input.now in
    let same = scripts_are store g.S.Store.stands c.args.closed.now c.args.done.now c.requires.day _ _
    (c.deref.ensures.value ∙ c.in_ok-lines.ensures) (ap lent c.deref-2.ensures.value ∙ c.in_ok-replies.ensures) in
    IfOk-weaker c.text.result _ _
    (λ text told. output_is store g.S.Store.stands c.args.closed.now c.args.done.now c.requires.day text.items
    (told ∙ ap (λ (l : List (RanOf (StoreReply g.row.S-Value.Denot))). text_of store l (store.closing (state_left store l))) same)) c.text.ensures
