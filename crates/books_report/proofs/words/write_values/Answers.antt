use Rattle.books_report.proofs.Common.{◌++◌, sym, ap, ◌∙◌, append-nil, iter_rest, string_bytes, flat_map, nil_from_length, word_of_value}
use Rattle.books_report.proofs.Outputs.Journals.{piece_next, spaced}
use Rattle.books_report.proofs.words.write_values.Goals as goal

pub loop-value-preserved : goal.loop-value-preserved
loop-value-preserved c =
    piece_next (spaced word_of_value) _ (string_bytes c.loop-value.text) _ (iter_rest c.loop-value.value-iterator) (iter_rest c.next.new.self)
    c.in-Some.value.now c.loop-value.invariant c.in-Some.ensures.steps c.in_ok-write_value.ensures

pub returns : goal.returns
returns c =
    sym (append-nil _)
    ∙ sym (ap (λ values. string_bytes c.loop-value.text ++ flat_map (spaced word_of_value) values) (nil_from_length _ c.in-None.ensures.steps.0))
    ∙ c.loop-value.invariant
