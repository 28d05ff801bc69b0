use Rattle.twoplsf.proofs.Common.{List, All, ◌++◌, map, ap, ◌∙◌, subst, sym, IfOk-weaker, string_bytes, IsPlace, journal_lines, Done, place_of_item}
use Rattle.twoplsf.proofs.Common.{ran_of_item, reply_words}
use Rattle.twoplsf.proofs.Days.{items_places, joined_is}
use Rattle.twoplsf.proofs.answer.shared_output.Goals as goal

pub write_shared-requires-clause-places : goal.write_shared-requires-clause-places
write_shared-requires-clause-places g c _ _ =
    subst (λ (items : List Done). All (λ (item : Done). IsPlace c.args.input.now (place_of_item item)) items) (sym c.deref.ensures.value)
    (items_places c.args.input.now c.args.workers c.args.day.now c.requires.day)

pub returns : goal.returns
returns g c =
    let input = c.args.input.now in
    IfOk-weaker c.with_closing.result _ _
    (λ text told. joined_is input c.args.workers c.args.day.now c.requires.day text.items (string_bytes c.in_ok-head.head)
    (string_bytes c.in_ok-journal.journal) c.args.closing.now c.requires.closing c.in_ok-head.ensures.ok
    (c.in_ok-journal.ensures ∙ ap (λ items. string_bytes c.in_ok-head.head
    ++ journal_lines reply_words input.callers 1 (map ran_of_item items)) c.deref.ensures.value)
    told)
    c.with_closing.ensures
