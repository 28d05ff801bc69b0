use Rattle.books_model.specs.declared.script.Op.TheVariants as op
use Rattle.books_model.proofs.Common.{step_of}
use Rattle.books_model.proofs.Scripts.Outcomes.{done}
use Rattle.books_model.proofs.Scripts.CashLaws.{deposited}
use Rattle.books_model.proofs.laws.deposit_adds_its_amount.Goals as goal

pub returns : goal.returns
returns c = λ a x before after h. done _ (step_of (op.Deposit a x) before) h.0 after (deposited before a x) h.1
