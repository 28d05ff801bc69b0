use Rattle.record_text.proofs.Common.{ℕ, List, [], ◌∷◌, ap, ◌∙◌, err_from_is_err_and, RecordOp, StoreInput}
use Rattle.script_reader.proofs.Common.{CallerOf}
use Rattle.std.proofs.Common.{slice_index_or}
use Rattle.record_text.proofs.reader.read_records.Goals as goal

abbrev input_with : ℕ → List (CallerOf (List RecordOp)) → StoreInput
input_with blocks callers = record { blocks = blocks; callers = callers }

pub returns-in_err-blocks-clause-read : goal.returns-in_err-blocks-clause-read
returns-in_err-blocks-clause-read c input spelled =
    let p = err_from_is_err_and c.from_residual.result c.from_residual.ensures.1 in
    rw (p.1, p.2) (c.in_err-blocks.ensures.read (input.blocks ∷ []) input.callers spelled)

pub returns-clause-read : goal.returns-clause-read
returns-clause-read c input spelled =
    let same = c.in_ok-blocks.ensures.read (input.blocks ∷ []) input.callers spelled in
    let blocks = ap (λ sizes. slice_index_or sizes 0 0) same.0 in
    c.new.ensures ∙ (λ i. input_with (blocks i) (same.1 i))
