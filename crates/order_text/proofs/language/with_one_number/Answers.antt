use Rattle.order_text.proofs.Common.{lit<, codes, refl, sym, ◌∙◌, arith, err_from_is_err_and, GREATEST_ORDER, order_forms, other_length, word_wrong}
use Rattle.order_text.proofs.Inputs.{operation_in}
use Rattle.script_reader.proofs.LineFaults.Operating.{row_one}
use Rattle.script_reader.proofs.LineFaults.RowFaults.{one_wrong}
use Rattle.order_text.specs.declared.script.OrderOp.TheVariants as op
use Rattle.order_text.proofs.language.with_one_number.Goals as goal

pub returns-in_err-number-clause-err : goal.returns-in_err-number-clause-err
returns-in_err-number-clause-err c =
    let p = err_from_is_err_and c.from_residual.result c.from_residual.ensures.1 in
    rw (p.1, p.2) (one_wrong (order_forms c.args.sizes.1) c.args.words.now (codes "cancel") (1, GREATEST_ORDER) _ (λ a. refl)
    (sym c.is_row.ensures ∙ c.if-is_row.true) c.in_err-number.ensures.err)

pub overflow_cast-result : goal.overflow_cast-result
overflow_cast-result c = omega (
  arith,
  (row_one (codes "cancel") c.args.words.now (1, GREATEST_ORDER) (sym c.is_row.ensures ∙ c.if-is_row.true)
      (lit< tt) c.in_ok-number.ensures.found).0.1,
)

pub returns-then-is_row-clause-found : goal.returns-then-is_row-clause-found
returns-then-is_row-clause-found c =
    let line = row_one (codes "cancel") c.args.words.now (1, GREATEST_ORDER) (sym c.is_row.ensures ∙ c.if-is_row.true) (lit< tt) c.in_ok-number.ensures.found in
    (operation_in c.args.sizes.0 c.args.sizes.1 (op.Cancel c.in_ok-number.number) c.requires.sized.3.1 line.0, line.1)

pub returns-in_err-instrument-clause-err : goal.returns-in_err-instrument-clause-err
returns-in_err-instrument-clause-err c =
    let p = err_from_is_err_and c.from_residual-in_err-instrument.result c.from_residual-in_err-instrument.ensures.1 in
    rw (p.1, p.2) (one_wrong (order_forms c.args.sizes.1) c.args.words.now (codes "best") (1, c.args.sizes.1) _ (λ a. refl)
    (sym c.is_row-2.ensures ∙ c.if-is_row-2.true) c.in_err-instrument.ensures.err)

pub overflow_cast-result-then-is_row-2 : goal.overflow_cast-result-then-is_row-2
overflow_cast-result-then-is_row-2 c = let most = c.requires.sized.3.1 in omega (
  arith,
  (row_one (codes "best") c.args.words.now (1, c.args.sizes.1) (sym c.is_row-2.ensures ∙ c.if-is_row-2.true) c.requires.sized.3.2
      c.in_ok-instrument.ensures.found).0.1,
)

pub returns-then-is_row-2-clause-found : goal.returns-then-is_row-2-clause-found
returns-then-is_row-2-clause-found c =
    let line = row_one (codes "best") c.args.words.now (1, c.args.sizes.1) (sym c.is_row-2.ensures ∙ c.if-is_row-2.true) c.requires.sized.3.2
    c.in_ok-instrument.ensures.found in
    (operation_in c.args.sizes.0 c.args.sizes.1 (op.Best c.in_ok-instrument.instrument) c.requires.sized.3.1 line.0, line.1)

pub returns-clause-err : goal.returns-clause-err
returns-clause-err c =
    word_wrong (order_forms c.args.sizes.1) c.args.words.now (
      other_length (codes "buy") 4 c.args.words.now (λ long. omega (arith, c.requires.two, long)),
      (
        other_length (codes "sell") 4 c.args.words.now (λ long. omega (arith, c.requires.two, long)),
        (sym c.is_row.ensures ∙ c.if-is_row.false, (sym c.is_row-2.ensures ∙ c.if-is_row-2.false, tt)),
      ),
    )
