use Rattle.record_text.proofs.Common.{lit<, codes, refl, sym, ◌∙◌, arith, err_from_is_err_and, GREATEST_DATA, GREATEST_ID, GREATEST_RANK, record_forms}
use Rattle.record_text.proofs.Common.{other_length, word_wrong}
use Rattle.record_text.proofs.Inputs.{operation_in}
use Rattle.script_reader.proofs.LineFaults.Operating.{row_three}
use Rattle.script_reader.proofs.LineFaults.RowFaults.{three_wrong}
use Rattle.record_text.specs.declared.script.RecordOp.TheVariants as op
use Rattle.record_text.proofs.language.put_of.Goals as goal

pub returns-then-not-is_row-clause-err : goal.returns-then-not-is_row-clause-err
returns-then-not-is_row-clause-err c =
    word_wrong record_forms c.args.words.now (
      sym c.is_row.ensures ∙ c.if-not-is_row.true,
      (
        other_length (codes "drop") 2 c.args.words.now (λ long. omega (arith, c.requires, long)),
        (
          other_length (codes "get") 2 c.args.words.now (λ long. omega (arith, c.requires, long)),
          (other_length (codes "from") 3 c.args.words.now (λ long. omega (arith, c.requires, long)), tt),
        ),
      ),
    )

pub returns-in_err-id-clause-err : goal.returns-in_err-id-clause-err
returns-in_err-id-clause-err c =
    let p = err_from_is_err_and c.from_residual.result c.from_residual.ensures.1 in
    rw (p.1, p.2) (three_wrong record_forms c.args.words.now (codes "put") (1, GREATEST_ID) (1, GREATEST_RANK) (0, GREATEST_DATA) _ (λ a b d. refl)
    (sym c.is_row.ensures ∙ c.if-not-is_row.false) c.in_err-id.ensures.err)

pub overflow_cast-result : goal.overflow_cast-result
overflow_cast-result c = omega (
  arith,
  (row_three (codes "put") c.args.words.now (1, GREATEST_ID) (1, GREATEST_RANK) (0, GREATEST_DATA) (sym c.is_row.ensures ∙ c.if-not-is_row.false)
      (lit< tt) (lit< tt) (lit< tt) c.in_ok-id.ensures.found).0.0.1,
)

pub returns-clause-found : goal.returns-clause-found
returns-clause-found c sizes =
    let line = row_three (codes "put") c.args.words.now (1, GREATEST_ID) (1, GREATEST_RANK) (0, GREATEST_DATA)
    (sym c.is_row.ensures ∙ c.if-not-is_row.false) (lit< tt) (lit< tt) (lit< tt) c.in_ok-id.ensures.found in
    (operation_in sizes (op.Put c.in_ok-id.id c.in_ok-id.rank c.in_ok-id.content) (line.0.0, line.0.1, line.0.2.1), line.1)
