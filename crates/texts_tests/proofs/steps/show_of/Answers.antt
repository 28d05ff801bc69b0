use Rattle.std.proofs.Common.{lit<, [], ◌∷◌, codes, refl, sym, ◌∙◌, arith}
use Rattle.std.proofs.lemmas.Result.{err_from_is_err_and}
use Rattle.texts_tests.specs.declared.steps.TheConstants.{GREATEST_ACCOUNT}
use Rattle.texts_tests.specs.Steps.{step_forms}
use Rattle.script_reader.specs.Forms.{form}
use Rattle.script_reader.proofs.LineFaults.Operating.{row_one}
use Rattle.script_reader.proofs.LineFaults.RowFaults.{other_length, word_wrong, one_wrong}
use Rattle.texts_tests.proofs.steps.show_of.Goals as goal

pub returns-then-not-is_row-clause-err : goal.returns-then-not-is_row-clause-err
returns-then-not-is_row-clause-err c sizes =
    word_wrong (step_forms sizes) c.args.words.now
    (other_length (codes "add") 3 c.args.words.now (λ long. omega (arith, c.requires, long)), (sym c.is_row.ensures ∙ c.if-not-is_row.true, tt))

pub returns-in_err-account-clause-err : goal.returns-in_err-account-clause-err
returns-in_err-account-clause-err c =
    let p = err_from_is_err_and c.from_residual.result c.from_residual.ensures.1 in
    rw (p.1, p.2) (λ sizes. one_wrong (step_forms sizes) c.args.words.now (codes "show") (1, GREATEST_ACCOUNT) _ (λ a. refl)
    (sym c.is_row.ensures ∙ c.if-not-is_row.false) c.in_err-account.ensures.err)

pub overflow_cast-result : goal.overflow_cast-result
overflow_cast-result c = omega (
  arith,
  (row_one (codes "show") c.args.words.now (1, GREATEST_ACCOUNT) (sym c.is_row.ensures ∙ c.if-not-is_row.false) (lit< tt) c.in_ok-account.ensures.found).0.1,
)

pub returns-clause-found : goal.returns-clause-found
returns-clause-found c sizes =
    let line = row_one (codes "show") c.args.words.now (1, GREATEST_ACCOUNT) (sym c.is_row.ensures
    ∙ c.if-not-is_row.false) (lit< tt) c.in_ok-account.ensures.found in (
      record {
        kind = form (codes "show") ((1, GREATEST_ACCOUNT) ∷ []);
        kind_is = refl;
        within = (line.0.0, line.0.1, omega (arith, line.0.1), tt);
      },
      line.1,
    )
