use Rattle.script_reader.proofs.Common.{lit<, ◌≡◌, ◌∷◌, [], codes, Some, refl, sym, subst, ◌∙◌, arith, GREATEST_ACCOUNT, IsWithin, number, operation_forms}
use Rattle.script_reader.proofs.Common.{accounts, quantities, HasNumbers, numbers_fault}
use Rattle.books_model.specs.declared.limits.TheConstants.{GREATEST_QUANTITY}
use Rattle.script_reader.proofs.HandedOn.{handed_on}
use Rattle.script_reader.proofs.books.WithoutFault.BooksFaultless.{instruments_fit}
use Rattle.script_reader.proofs.LineFaults.Operating.{row_four}
use Rattle.script_reader.proofs.LineFaults.RowFaults.{unknown_word, four_wrong}
use Rattle.script_reader.proofs.books.OperationRows.{free}
use Rattle.script_reader.proofs.books.operations.with_four_numbers.Goals.{In_ok-buyer}
use Rattle.script_reader.proofs.books.operations.with_four_numbers.Goals as goal

pub returns-in_err-buyer-clause-err : goal.returns-in_err-buyer-clause-err
returns-in_err-buyer-clause-err c =
    rw (handed_on c.from_residual.ensures.1) (λ version. four_wrong (operation_forms version c.args.books.now.instruments) c.args.words.now
    (codes "trade") accounts accounts
    (1, c.args.books.now.instruments) quantities (λ a b d e. refl) (sym c.is_row.ensures ∙ c.if-is_row.true)
    (subst (λ r. numbers_fault c.args.words.now (accounts ∷ accounts ∷ r ∷ quantities ∷ [])
    ≡ Some c.in_err-buyer.field-0.0) c.instruments_of.ensures.number c.in_err-buyer.ensures.err))

-- the numbers of the line, and the line by them
read : (c : In_ok-buyer) → (IsWithin 1 GREATEST_ACCOUNT c.in_ok-buyer.buyer × IsWithin 1 GREATEST_ACCOUNT c.in_ok-buyer.seller
    × IsWithin 1 c.args.books.now.instruments c.in_ok-buyer.instrument × IsWithin 1 GREATEST_QUANTITY c.in_ok-buyer.quantity)
    × (c.args.words.now ≡ codes "trade" ∷ number c.in_ok-buyer.buyer ∷ number c.in_ok-buyer.seller ∷ number c.in_ok-buyer.instrument
    ∷ number c.in_ok-buyer.quantity ∷ [])
read c =
    let found = c.in_ok-buyer.ensures.found in
    row_four (codes "trade") c.args.words.now accounts accounts (1, c.args.books.now.instruments) quantities
    (sym c.is_row.ensures ∙ c.if-is_row.true) (lit< tt) (lit< tt) (instruments_fit c.ranges-2.ensures) (lit< tt) (
      subst (λ r. HasNumbers c.args.words.now (accounts ∷ accounts ∷ r ∷ quantities ∷ [])) c.instruments_of.ensures.number found.0,
      found.1,
      found.2,
      found.3,
      found.4,
    )

pub overflow_cast-result : goal.overflow_cast-result
overflow_cast-result c = omega (arith, (read (goal.at.overflow_cast-result c).In_ok-buyer).0.0.1)

pub overflow_cast-result-then-is_row : goal.overflow_cast-result-then-is_row
overflow_cast-result-then-is_row c = omega (arith, (read (goal.at.overflow_cast-result-then-is_row c).In_ok-buyer).0.1.1)

pub overflow_cast-result-then-is_row-2 : goal.overflow_cast-result-then-is_row-2
overflow_cast-result-then-is_row-2 c = omega (
  arith,
  (read (goal.at.overflow_cast-result-then-is_row-2 c).In_ok-buyer).0.2.1,
  c.ranges-2.ensures.instruments.1,
)

pub returns-then-is_row-clause-found : goal.returns-then-is_row-clause-found
returns-then-is_row-clause-found c version = free (read (goal.at.returns-then-is_row-clause-found c).In_ok-buyer)

pub returns-clause-err : goal.returns-clause-err
returns-clause-err c version =
    unknown_word (operation_forms version c.args.books.now.instruments) c.args.words.now c.requires (sym c.is_row.ensures ∙ c.if-is_row.false, tt)
