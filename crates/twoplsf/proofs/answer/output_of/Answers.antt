use Rattle.twoplsf.proofs.Common.{All, List, map, ap, ◌∙◌, subst, sym, IfOk-weaker, IsPlace, lent, place_of_line, Line, Done, line_of_done}
use Rattle.twoplsf.proofs.Days.{lines_places, text_is}
use Rattle.twoplsf.proofs.answer.output_of.Goals as goal

pub journal_text-requires-clause-places : goal.journal_text-requires-clause-places
journal_text-requires-clause-places c =
    let input = c.args.input.now in
    let lines_are = c.deref-3.ensures.value ∙ c.in_ok-lines.ensures ∙ ap (map line_of_done) c.deref.ensures.value in
    subst (λ (l : List Line). All (λ (x : Line). IsPlace input (place_of_line x)) l) (sym lines_are)
    (lines_places input c.args.workers c.args.day.now c.requires.day)

pub returns : goal.returns
returns c =
    let lines_are = c.deref-3.ensures.value ∙ c.in_ok-lines.ensures ∙ ap (map line_of_done) c.deref.ensures.value in
    let replies_are = ap lent c.deref-4.ensures.value ∙ c.in_ok-replies.ensures ∙ ap (map (λ (item : Done). item.reply)) c.deref-2.ensures.value in
    IfOk-weaker c.journal_text.result _ _
    (λ text told. text_is c.args.input.now c.args.workers c.args.day.now c.requires.day text.items c.deref-3.result.now
    (lent c.deref-4.result.now) c.args.closing.now lines_are replies_are c.requires.closing told)
    c.journal_text.ensures
