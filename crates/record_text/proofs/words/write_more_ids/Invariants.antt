use Rattle.record_text.proofs.Common.{◌≡◌, ◌++◌, iter_rest, string_bytes, flat_map}
use Rattle.record_text.proofs.Printing.{joined_id}
use Rattle.record_text.proofs.words.write_more_ids.Given as goal

-- the text so far and the identifiers that are left are the whole
abbrev pub invariant-loop-id : goal.invariant-loop-id
invariant-loop-id l = string_bytes l.text ++ flat_map joined_id (iter_rest l.id-iterator) ≡ string_bytes l.fn.text ++ flat_map joined_id (iter_rest l.fn.ids)
