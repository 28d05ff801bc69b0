use Rattle.script_reader.proofs.Common.{lit<, ◌≡◌, ◌∷◌, [], codes, Some, refl, subst, arith, GREATEST_PRICE, IsWithin, number, operation_forms, prices}
use Rattle.script_reader.proofs.Common.{HasNumbers, numbers_fault}
use Rattle.script_reader.proofs.HandedOn.{handed_on}
use Rattle.script_reader.proofs.books.WithoutFault.BooksFaultless.{instruments_fit}
use Rattle.script_reader.proofs.LineFaults.Operating.{row_two}
use Rattle.script_reader.proofs.LineFaults.RowFaults.{two_wrong}
use Rattle.script_reader.proofs.books.OperationRows.{free}
use Rattle.script_reader.proofs.books.operations.price_of.Goals.{In_ok-instrument}
use Rattle.script_reader.proofs.books.operations.price_of.Goals as goal

pub returns-in_err-instrument-clause-err : goal.returns-in_err-instrument-clause-err
returns-in_err-instrument-clause-err c =
    rw (handed_on c.from_residual.ensures.1) (λ version. two_wrong (operation_forms version c.args.books.now.instruments) c.args.words.now (codes "price") (
      1,
      c.args.books.now.instruments,
    ) prices _ (λ a b. refl) c.requires
    (subst (λ r. numbers_fault c.args.words.now (r ∷ prices ∷ []) ≡ Some c.in_err-instrument.field-0.0)
    c.instruments_of.ensures.number c.in_err-instrument.ensures.err))

-- the numbers of the line, and the line by them
read : (c : In_ok-instrument) → (IsWithin 1 c.args.books.now.instruments c.in_ok-instrument.instrument
    × IsWithin 1 GREATEST_PRICE c.in_ok-instrument.price)
    × (c.args.words.now ≡ codes "price" ∷ number c.in_ok-instrument.instrument ∷ number c.in_ok-instrument.price ∷ [])
read c =
    let found = c.in_ok-instrument.ensures.found in
    row_two (codes "price") c.args.words.now (1, c.args.books.now.instruments) prices c.requires
    (instruments_fit c.ranges-2.ensures) (lit< tt)
    (subst (λ r. HasNumbers c.args.words.now (r ∷ prices ∷ [])) c.instruments_of.ensures.number found.0, found.1, found.2)

pub overflow_cast-result : goal.overflow_cast-result
overflow_cast-result c = omega (
  arith,
  (read (goal.at.overflow_cast-result c).In_ok-instrument).0.0.1,
  c.ranges-2.ensures.instruments.1,
)

pub returns-clause-found : goal.returns-clause-found
returns-clause-found c version = free (read (goal.at.returns-clause-found c).In_ok-instrument)
