use Rattle.order_text.proofs.Common.{ℕ, List, [], ◌∷◌, ap, ◌∙◌, err_from_is_err_and, CallerOf, OrderOp, BookInput}
use Rattle.std.proofs.Common.{slice_index_or}
use Rattle.order_text.proofs.Inputs.{input_is}
use Rattle.order_text.proofs.reader.read_orders.Goals as goal

abbrev input_with : ℕ → ℕ → List (CallerOf (List OrderOp)) → BookInput
input_with blocks instruments callers = record { blocks = blocks; instruments = instruments; callers = callers }

pub new-requires : goal.new-requires
new-requires c = let text = c.in_ok-sizes.ensures.ok in input_is c.in_ok-sizes.sizes.0 c.in_ok-sizes.sizes.1 c.in_ok-sizes.callers text.sized text.valid

pub returns-in_err-sizes-clause-read : goal.returns-in_err-sizes-clause-read
returns-in_err-sizes-clause-read c input spelled =
    let p = err_from_is_err_and c.from_residual.result c.from_residual.ensures.1 in
    rw (p.1, p.2) (c.in_err-sizes.ensures.read (input.blocks ∷ input.instruments ∷ []) input.callers spelled)

pub returns-clause-read : goal.returns-clause-read
returns-clause-read c input spelled =
    let same = c.in_ok-sizes.ensures.read (input.blocks ∷ input.instruments ∷ []) input.callers spelled in
    let blocks = ap (λ sizes. slice_index_or sizes 0 0) same.0 in
    let instruments = ap (λ sizes. slice_index_or sizes 1 0) same.0 in
    c.new.ensures ∙ (λ i. input_with (blocks i) (instruments i) (same.1 i))
