use Rattle.std.proofs.Common.{◌≡◌, ℕ, List, [], ◌∷◌, Some, Result, Ok, Err}
use Rattle.std.specs.Result.{IfErr}
use Rattle.script_reader.specs.declared.fault.Fault.{Fault}
use Rattle.script_reader.specs.Rows.{row_fault}
use Rattle.texts_tests.specs.Steps.{step_forms}
use Rattle.texts_tests.proofs.steps.StepsLanguage.operation.Goals as goal

-- what holds of the fault of any sizes holds of that of these
at_sizes : {A : Type 0} (P : List ℕ → Fault → Type 0) (sizes : List ℕ) (r : Result A Fault) → IfErr r (λ why. (sizes : List ℕ) → P sizes why)
    → IfErr r (P sizes)
at_sizes P sizes (Ok x) h = tt
at_sizes P sizes (Err why) h = h sizes

pub returns-in-2-clause-err : goal.returns-in-2-clause-err
returns-in-2-clause-err c = at_sizes (λ sizes why. row_fault (step_forms sizes) c.args.words.now ≡ Some why)
    (c.args.most ∷ []) c.show_of.result c.show_of.ensures.err
