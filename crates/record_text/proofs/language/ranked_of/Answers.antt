use Rattle.record_text.proofs.Common.{lit<, codes, refl, sym, ◌∙◌, arith, err_from_is_err_and, GREATEST_RANK, MOST_LISTED, record_forms, other_length}
use Rattle.record_text.proofs.Common.{word_wrong}
use Rattle.record_text.proofs.Inputs.{operation_in}
use Rattle.script_reader.proofs.LineFaults.Operating.{row_two}
use Rattle.script_reader.proofs.LineFaults.RowFaults.{two_wrong}
use Rattle.record_text.specs.declared.script.RecordOp.TheVariants as op
use Rattle.record_text.proofs.language.ranked_of.Goals as goal

pub returns-then-not-is_row-clause-err : goal.returns-then-not-is_row-clause-err
returns-then-not-is_row-clause-err c =
    word_wrong record_forms c.args.words.now (
      other_length (codes "put") 4 c.args.words.now (λ long. omega (arith, c.requires, long)),
      (
        other_length (codes "drop") 2 c.args.words.now (λ long. omega (arith, c.requires, long)),
        (other_length (codes "get") 2 c.args.words.now (λ long. omega (arith, c.requires, long)), (sym c.is_row.ensures ∙ c.if-not-is_row.true, tt)),
      ),
    )

pub returns-in_err-rank-clause-err : goal.returns-in_err-rank-clause-err
returns-in_err-rank-clause-err c =
    let p = err_from_is_err_and c.from_residual.result c.from_residual.ensures.1 in
    rw (p.1, p.2) (two_wrong record_forms c.args.words.now (codes "from") (1, GREATEST_RANK) (1, MOST_LISTED) _ (λ a b. refl)
    (sym c.is_row.ensures ∙ c.if-not-is_row.false) c.in_err-rank.ensures.err)

pub overflow_cast-result : goal.overflow_cast-result
overflow_cast-result c = omega (
  arith,
  (row_two (codes "from") c.args.words.now (1, GREATEST_RANK) (1, MOST_LISTED) (sym c.is_row.ensures ∙ c.if-not-is_row.false) (lit< tt) (lit< tt)
      c.in_ok-rank.ensures.found).0.0.1,
)

pub returns-clause-found : goal.returns-clause-found
returns-clause-found c sizes =
    let line = row_two (codes "from") c.args.words.now (1, GREATEST_RANK) (1, MOST_LISTED) (sym c.is_row.ensures ∙ c.if-not-is_row.false) (lit< tt) (lit< tt)
    c.in_ok-rank.ensures.found in
    (operation_in sizes (op.Ranked c.in_ok-rank.rank c.in_ok-rank.most) line.0, line.1)
