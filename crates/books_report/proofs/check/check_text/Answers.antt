use Rattle.books_report.proofs.Common.{◌≡◌, ℕ, Result, Ok, Err, IfOk, RESTARTS_BELOW, Checked, Agrees, Differs, IsOutput, IsFirstWrongLine, IsFound}
use Rattle.io_ends.specs.declared.OutOfMemory.{OutOfMemory}
use Rattle.books_report.proofs.Checks.Found.{agrees_found, differs_found}
use Rattle.books_report.proofs.check.check_text.Goals as goal

pub returns-clause-output : goal.returns-clause-output
returns-clause-output c = λ output. by output c.check_lines.result c.check_lines.ensures
  where
    by : IsOutput c.args.input.now RESTARTS_BELOW c.args.text.now → (r : Result Checked OutOfMemory)
        → IfOk r (IsFound c.args.input.now c.args.text.now) → IfOk r (λ checked. checked ≡ Agrees)
    by output (Ok checked) found = agrees_found checked c.callers.ensures.valid found output
    by output (Err e) found = tt

pub returns-clause-wrong : goal.returns-clause-wrong
returns-clause-wrong c = λ line wrong. by line wrong c.check_lines.result c.check_lines.ensures
  where
    by : (line : ℕ) → IsFirstWrongLine c.args.input.now RESTARTS_BELOW c.args.text.now line
        → (r : Result Checked OutOfMemory) → IfOk r (IsFound c.args.input.now c.args.text.now) → IfOk r (λ checked. checked ≡ Differs line)
    by line wrong (Ok checked) found = differs_found checked c.callers.ensures.valid found wrong
    by line wrong (Err e) found = tt
