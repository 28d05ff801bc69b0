use Rattle.twoplsf.proofs.Common.{List, ap, ◌∙◌, sym, subst, All, string_bytes, IsPlace, lent, place_of_line, Line}
use Rattle.twoplsf.proofs.Days.{places_of_lines}
use Rattle.twoplsf.proofs.Printed.{items_written}
use Rattle.twoplsf.proofs.printing.write_items.Goals as goal

pub write_lines-requires-clause-places : goal.write_lines-requires-clause-places
write_lines-requires-clause-places c =
    subst (λ (l : List Line). All (λ (x : Line). IsPlace c.args.input.now (place_of_line x)) l)
    (sym (c.deref.ensures.value ∙ c.in_ok-lines.ensures)) (places_of_lines c.args.input.now c.args.done.now c.requires.places)

pub returns : goal.returns
returns c =
    items_written c.args.input.now c.args.first c.args.done.now (string_bytes c.args.text) (string_bytes c.write_lines.new.text)
    c.deref.result.now (lent c.deref-2.result.now) (c.deref.ensures.value ∙ c.in_ok-lines.ensures)
    (ap lent c.deref-2.ensures.value ∙ c.in_ok-replies.ensures) c.in_ok-write_lines.ensures
