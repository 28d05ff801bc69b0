use Rattle.books_report.proofs.Common.{sym, ap, subst, ◌∙◌, arith, IsUtf8, number}
use Rattle.std.specs.Result.{result_ok}
use Rattle.std.proofs.lemmas.Fmt.{IsAscii-decimal, parse-decimal}
use Rattle.std.proofs.lemmas.Str.{IsUtf8-from_ascii}
use Rattle.books_report.proofs.check.number_of.Goals as goal

pub returns-in_default : goal.returns-in_default
returns-in_default c = λ n small is.
    absurd (c.in_default.ensures.cases.0 (subst IsUtf8 (sym is) (IsUtf8-from_ascii (number n) (IsAscii-decimal n (omega (arith, small))))))

pub returns : goal.returns
returns c = λ n small is. c.ok.ensures.value
    ∙ ap result_ok (parse-decimal 32 n c.in-Ok.digits.now c.parse.result small (omega (arith, small)) (c.in-Ok.ensures.cases.0 ∙ is) c.parse.ensures.value.0)
