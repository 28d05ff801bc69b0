use Rattle.books_report.proofs.Common.{◌≡◌, ◌++◌, iter_rest, string_bytes, flat_map}
use Rattle.books_report.proofs.Outputs.Journals.{spaced}
use Rattle.books_report.proofs.stores.text.write_values.Given as goal

-- the text so far and the values that are left are the whole
abbrev pub invariant-loop-value : goal.invariant-loop-value
invariant-loop-value g l =
    string_bytes l.text ++ flat_map (spaced g.V.ToldValue.word) (iter_rest l.value-iterator)
    ≡ string_bytes l.fn.text ++ flat_map (spaced g.V.ToldValue.word) l.values
