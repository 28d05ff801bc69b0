use Rattle.script_reader.proofs.Common.{lit<, ◌≡◌, ◌∷◌, [], codes, Some, refl, sym, subst, ◌∙◌, arith, GREATEST_ACCOUNT, IsWithin, number, greatest_amount}
use Rattle.script_reader.proofs.Common.{operation_forms, accounts, amounts, HasNumbers, numbers_fault}
use Rattle.script_reader.proofs.HandedOn.{handed_on}
use Rattle.script_reader.proofs.books.Versions.{amount_small}
use Rattle.script_reader.proofs.LineFaults.Operating.{row_three}
use Rattle.script_reader.proofs.LineFaults.RowFaults.{unknown_word, three_wrong}
use Rattle.script_reader.proofs.books.OperationRows.{bound_move}
use Rattle.script_reader.proofs.books.operations.with_three_numbers.Goals.{In_ok-from}
use Rattle.script_reader.proofs.books.operations.with_three_numbers.Goals as goal

pub returns-in_err-from-clause-err : goal.returns-in_err-from-clause-err
returns-in_err-from-clause-err c =
    rw (handed_on c.from_residual.ensures.1) (λ n. three_wrong (operation_forms c.args.version n) c.args.words.now (codes "move") accounts accounts
    (amounts c.args.version) _
    (λ a b d. refl)
    (sym c.is_row.ensures ∙ c.if-is_row.true)
    (subst (λ r. numbers_fault c.args.words.now (accounts ∷ accounts ∷ r ∷ []) ≡ Some c.in_err-from.field-0.0) c.amounts.ensures.range
    c.in_err-from.ensures.err))

-- the numbers of the line, and the line by them
read : (c : In_ok-from) → (IsWithin 1 GREATEST_ACCOUNT c.in_ok-from.from × IsWithin 1 GREATEST_ACCOUNT c.in_ok-from.to
    × IsWithin 1 (greatest_amount c.args.version) c.in_ok-from.amount)
    × (c.args.words.now ≡ codes "move" ∷ number c.in_ok-from.from ∷ number c.in_ok-from.to ∷ number c.in_ok-from.amount ∷ [])
read c =
    let found = c.in_ok-from.ensures.found in
    row_three (codes "move") c.args.words.now accounts accounts (amounts c.args.version) (sym c.is_row.ensures ∙ c.if-is_row.true)
    (lit< tt) (lit< tt) (amount_small c.args.version)
    (subst (λ r. HasNumbers c.args.words.now (accounts ∷ accounts ∷ r ∷ [])) c.amounts.ensures.range found.0, found.1, found.2, found.3)

pub overflow_cast-result : goal.overflow_cast-result
overflow_cast-result c = omega (arith, (read (goal.at.overflow_cast-result c).In_ok-from).0.0.1)

pub overflow_cast-result-then-is_row : goal.overflow_cast-result-then-is_row
overflow_cast-result-then-is_row c = omega (arith, (read (goal.at.overflow_cast-result-then-is_row c).In_ok-from).0.1.1)

pub returns-then-is_row-clause-found : goal.returns-then-is_row-clause-found
returns-then-is_row-clause-found c books = bound_move c.args.version (read (goal.at.returns-then-is_row-clause-found c).In_ok-from)

pub returns-clause-err : goal.returns-clause-err
returns-clause-err c n =
    unknown_word (operation_forms c.args.version n) c.args.words.now c.requires (sym c.is_row.ensures ∙ c.if-is_row.false, tt)
