use Rattle.order_text.proofs.Common.{lit<, codes, refl, sym, ◌∙◌, arith, err_from_is_err_and, order_forms, other_length, word_wrong}
use Rattle.books_model.specs.declared.limits.TheConstants.{GREATEST_PRICE, GREATEST_QUANTITY}
use Rattle.order_text.proofs.Inputs.{operation_in}
use Rattle.script_reader.proofs.LineFaults.Operating.{row_three}
use Rattle.script_reader.proofs.LineFaults.RowFaults.{three_wrong}
use Rattle.order_text.specs.declared.script.OrderOp.TheVariants as op
use Rattle.order_text.proofs.language.limit_order_of.Goals as goal

pub returns-in_err-instrument-clause-err : goal.returns-in_err-instrument-clause-err
returns-in_err-instrument-clause-err c =
    let p = err_from_is_err_and c.from_residual.result c.from_residual.ensures.1 in
    rw (p.1, p.2) (three_wrong (order_forms c.args.sizes.1) c.args.words.now (codes "buy") (1, c.args.sizes.1) (1, GREATEST_PRICE) (1, GREATEST_QUANTITY) _
    (λ a b d. refl) (sym c.is_row.ensures ∙ c.if-is_row.true) c.in_err-instrument.ensures.err)

pub overflow_cast-result : goal.overflow_cast-result
overflow_cast-result c = let most = c.requires.sized.3.1 in omega (
  arith,
  (row_three (codes "buy") c.args.words.now (1, c.args.sizes.1) (1, GREATEST_PRICE) (1, GREATEST_QUANTITY) (sym c.is_row.ensures ∙ c.if-is_row.true)
      c.requires.sized.3.2 (lit< tt) (lit< tt) c.in_ok-instrument.ensures.found).0.0.1,
)

pub returns-then-is_row-clause-found : goal.returns-then-is_row-clause-found
returns-then-is_row-clause-found c =
    let line = row_three (codes "buy") c.args.words.now (1, c.args.sizes.1) (1, GREATEST_PRICE) (1, GREATEST_QUANTITY) (sym c.is_row.ensures ∙ c.if-is_row.true)
    c.requires.sized.3.2 (lit< tt) (lit< tt) c.in_ok-instrument.ensures.found in
    let n = c.in_ok-instrument in (
      operation_in c.args.sizes.0 c.args.sizes.1 (op.Buy n.instrument n.price n.quantity) c.requires.sized.3.1
          record { instrument_is = line.0.0; price_is = line.0.1; quantity_is = line.0.2 },
      line.1,
    )

pub returns-in_err-instrument-2-clause-err : goal.returns-in_err-instrument-2-clause-err
returns-in_err-instrument-2-clause-err c =
    let p = err_from_is_err_and c.from_residual-in_err-instrument-2.result c.from_residual-in_err-instrument-2.ensures.1 in
    rw (p.1, p.2) (three_wrong (order_forms c.args.sizes.1) c.args.words.now (codes "sell") (1, c.args.sizes.1) (1, GREATEST_PRICE) (1, GREATEST_QUANTITY) _
    (λ a b d. refl) (sym c.is_row-2.ensures ∙ c.if-is_row-2.true) c.in_err-instrument-2.ensures.err)

pub overflow_cast-result-then-is_row-2 : goal.overflow_cast-result-then-is_row-2
overflow_cast-result-then-is_row-2 c = let most = c.requires.sized.3.1 in omega (
  arith,
  (row_three (codes "sell") c.args.words.now (1, c.args.sizes.1) (1, GREATEST_PRICE) (1, GREATEST_QUANTITY) (sym c.is_row-2.ensures ∙ c.if-is_row-2.true)
      c.requires.sized.3.2 (lit< tt) (lit< tt) c.in_ok-instrument-2.ensures.found).0.0.1,
)

pub returns-then-is_row-2-clause-found : goal.returns-then-is_row-2-clause-found
returns-then-is_row-2-clause-found c =
    let line = row_three (codes "sell") c.args.words.now (1, c.args.sizes.1) (1, GREATEST_PRICE) (1, GREATEST_QUANTITY)
    (sym c.is_row-2.ensures ∙ c.if-is_row-2.true) c.requires.sized.3.2 (lit< tt) (lit< tt) c.in_ok-instrument-2.ensures.found in
    let n = c.in_ok-instrument-2 in (
      operation_in c.args.sizes.0 c.args.sizes.1 (op.Sell n.instrument n.price n.quantity) c.requires.sized.3.1
          record { instrument_is = line.0.0; price_is = line.0.1; quantity_is = line.0.2 },
      line.1,
    )

pub returns-clause-err : goal.returns-clause-err
returns-clause-err c =
    word_wrong (order_forms c.args.sizes.1) c.args.words.now (
      sym c.is_row.ensures ∙ c.if-is_row.false,
      (
        sym c.is_row-2.ensures ∙ c.if-is_row-2.false,
        (
          other_length (codes "cancel") 2 c.args.words.now (λ long. omega (arith, c.requires.four, long)),
          (other_length (codes "best") 2 c.args.words.now (λ long. omega (arith, c.requires.four, long)), tt),
        ),
      ),
    )
