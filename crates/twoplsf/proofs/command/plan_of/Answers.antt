use Rattle.twoplsf.proofs.Common.{◌≡◌, ◌*◌, sym, ◌∙◌, arith}
use Rattle.std.proofs.lemmas.Fmt.{decimal_injective}
use Rattle.twoplsf.proofs.command.plan_of.Goals as goal

-- too many scripts altogether
pub returns-then-from-clause-none : goal.returns-then-from-clause-none
returns-then-from-clause-none c s callers scripts is =
    let same_callers : c.in_ok-callers.callers ≡ callers =
    decimal_injective c.in_ok-callers.callers callers (omega (arith, c.in_ok-callers.ensures.some.1))
    (omega (arith, is.range.callers_range)) (sym c.in_ok-callers.ensures.some.0 ∙ is.callers_is) in
    let same_scripts : c.in_ok-scripts.scripts ≡ scripts =
    decimal_injective c.in_ok-scripts.scripts scripts (omega (arith, c.in_ok-scripts.ensures.some.1))
    (omega (arith, is.range.scripts_range)) (sym c.in_ok-scripts.ensures.some.0 ∙ is.scripts_is) in
    let same : c.from.result * c.from-2.result ≡ callers * scripts = (λ i. (c.from.ensures ∙ same_callers) i * (c.from-2.ensures ∙ same_scripts) i) in
    omega (arith, is.range.few, c.if-from.true)
