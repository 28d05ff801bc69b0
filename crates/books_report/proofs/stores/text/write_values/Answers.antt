use Rattle.books_report.proofs.Common.{◌++◌, sym, ap, ◌∙◌, append-nil, iter_rest, string_bytes, flat_map, nil_from_length}
use Rattle.books_report.proofs.Outputs.Journals.{piece_next, spaced}
use Rattle.books_report.proofs.stores.text.write_values.Goals as goal

pub loop-value-preserved : goal.loop-value-preserved
loop-value-preserved g c =
    piece_next (spaced g.V.ToldValue.word) _ (string_bytes c.loop-value.text) _ (iter_rest c.loop-value.value-iterator) (iter_rest c.next.new.self)
    c.in-Some.value.now c.loop-value.invariant c.in-Some.ensures.steps c.in_ok-write_value.ensures

pub returns : goal.returns
returns g c =
    sym (append-nil _)
    ∙ sym (ap (λ values. string_bytes c.loop-value.text ++ flat_map (spaced g.V.ToldValue.word) values) (nil_from_length _ c.in-None.ensures.steps.0))
    ∙ c.loop-value.invariant
