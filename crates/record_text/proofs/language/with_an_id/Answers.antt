use Rattle.record_text.proofs.Common.{lit<, codes, refl, sym, ◌∙◌, arith, err_from_is_err_and, GREATEST_ID, record_forms, other_length, word_wrong}
use Rattle.record_text.proofs.Inputs.{operation_in}
use Rattle.script_reader.proofs.LineFaults.Operating.{row_one}
use Rattle.script_reader.proofs.LineFaults.RowFaults.{one_wrong}
use Rattle.record_text.specs.declared.script.RecordOp.TheVariants as op
use Rattle.record_text.proofs.language.with_an_id.Goals as goal

pub returns-in_err-id-clause-err : goal.returns-in_err-id-clause-err
returns-in_err-id-clause-err c =
    let p = err_from_is_err_and c.from_residual.result c.from_residual.ensures.1 in
    rw (p.1, p.2) (one_wrong record_forms c.args.words.now (codes "drop") (1, GREATEST_ID) _ (λ a. refl)
    (sym c.is_row.ensures ∙ c.if-is_row.true) c.in_err-id.ensures.err)

pub overflow_cast-result : goal.overflow_cast-result
overflow_cast-result c = omega
    (arith, (row_one (codes "drop") c.args.words.now (1, GREATEST_ID) (sym c.is_row.ensures ∙ c.if-is_row.true) (lit< tt) c.in_ok-id.ensures.found).0.1)

pub returns-then-is_row-clause-found : goal.returns-then-is_row-clause-found
returns-then-is_row-clause-found c sizes =
    let line = row_one (codes "drop") c.args.words.now (1, GREATEST_ID) (sym c.is_row.ensures ∙ c.if-is_row.true) (lit< tt) c.in_ok-id.ensures.found in
    (operation_in sizes (op.Remove c.in_ok-id.id) line.0, line.1)

pub returns-in_err-id-2-clause-err : goal.returns-in_err-id-2-clause-err
returns-in_err-id-2-clause-err c =
    let p = err_from_is_err_and c.from_residual-in_err-id-2.result c.from_residual-in_err-id-2.ensures.1 in
    rw (p.1, p.2) (one_wrong record_forms c.args.words.now (codes "get") (1, GREATEST_ID) _ (λ a. refl)
    (sym c.is_row-2.ensures ∙ c.if-is_row-2.true) c.in_err-id-2.ensures.err)

pub overflow_cast-result-then-is_row-2 : goal.overflow_cast-result-then-is_row-2
overflow_cast-result-then-is_row-2 c = omega
    (arith, (row_one (codes "get") c.args.words.now (1, GREATEST_ID) (sym c.is_row-2.ensures ∙ c.if-is_row-2.true) (lit< tt) c.in_ok-id-2.ensures.found).0.1)

pub returns-then-is_row-2-clause-found : goal.returns-then-is_row-2-clause-found
returns-then-is_row-2-clause-found c sizes =
    let line = row_one (codes "get") c.args.words.now (1, GREATEST_ID) (sym c.is_row-2.ensures ∙ c.if-is_row-2.true) (lit< tt) c.in_ok-id-2.ensures.found in
    (operation_in sizes (op.Find c.in_ok-id-2.id) line.0, line.1)

pub returns-clause-err : goal.returns-clause-err
returns-clause-err c =
    word_wrong record_forms c.args.words.now (
      other_length (codes "put") 4 c.args.words.now (λ long. omega (arith, c.requires, long)),
      (
        sym c.is_row.ensures ∙ c.if-is_row.false,
        (sym c.is_row-2.ensures ∙ c.if-is_row-2.false, (other_length (codes "from") 3 c.args.words.now (λ long. omega (arith, c.requires, long)), tt)),
      ),
    )
