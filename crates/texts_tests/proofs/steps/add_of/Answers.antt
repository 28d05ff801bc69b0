use Rattle.std.proofs.Common.{lit<, ◌<◌, ◌^◌, [], ◌∷◌, codes, refl, sym, ◌∙◌, arith}
use Rattle.std.proofs.lemmas.Result.{err_from_is_err_and}
use Rattle.texts_tests.specs.declared.steps.TheConstants.{GREATEST_ACCOUNT}
use Rattle.texts_tests.specs.Steps.{step_forms}
use Rattle.script_reader.specs.Forms.{form}
use Rattle.script_reader.proofs.LineFaults.Operating.{row_two}
use Rattle.script_reader.proofs.LineFaults.RowFaults.{other_length, word_wrong, two_wrong}
use Rattle.texts_tests.proofs.steps.add_of.Goals as goal

pub returns-then-not-is_row-clause-err : goal.returns-then-not-is_row-clause-err
returns-then-not-is_row-clause-err c =
    word_wrong (step_forms (c.args.most ∷ [])) c.args.words.now
    (sym c.is_row.ensures ∙ c.if-not-is_row.true, (other_length (codes "show") 2 c.args.words.now (λ long. omega (arith, c.requires.three, long)), tt))

pub returns-in_err-account-clause-err : goal.returns-in_err-account-clause-err
returns-in_err-account-clause-err c =
    let p = err_from_is_err_and c.from_residual.result c.from_residual.ensures.1 in
    rw (p.1, p.2) (two_wrong (step_forms (c.args.most ∷ [])) c.args.words.now (codes "add") (1, GREATEST_ACCOUNT) (1, c.args.most) _ (λ a b. refl)
    (sym c.is_row.ensures ∙ c.if-not-is_row.false) c.in_err-account.ensures.err)

pub overflow_cast-result : goal.overflow_cast-result
overflow_cast-result c =
    let small : c.args.most < 2 ^ 64 = omega (arith, c.requires.most) in
    omega (
      arith,
      (row_two (codes "add") c.args.words.now (1, GREATEST_ACCOUNT) (1, c.args.most) (sym c.is_row.ensures ∙ c.if-not-is_row.false) (lit< tt) small
          c.in_ok-account.ensures.found).0.0.1,
    )

pub returns-clause-found : goal.returns-clause-found
returns-clause-found c =
    let small : c.args.most < 2 ^ 64 = omega (arith, c.requires.most) in
    let line = row_two (codes "add") c.args.words.now (1, GREATEST_ACCOUNT) (1, c.args.most) (sym c.is_row.ensures ∙ c.if-not-is_row.false) (lit< tt) small
    c.in_ok-account.ensures.found in (
      record {
        kind = form (codes "add") ((1, GREATEST_ACCOUNT) ∷ (1, c.args.most) ∷ []);
        kind_is = refl;
        within = (line.0.0.0, line.0.0.1, omega (arith, line.0.0.1), (line.0.1.0, line.0.1.1, omega (arith, line.0.1.1, small), tt));
      },
      line.1,
    )
