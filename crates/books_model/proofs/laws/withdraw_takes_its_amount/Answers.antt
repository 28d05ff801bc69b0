use Rattle.books_model.specs.declared.script.Op.TheVariants as op
use Rattle.books_model.proofs.Common.{step_of}
use Rattle.books_model.proofs.Scripts.Outcomes.{done}
use Rattle.books_model.proofs.Scripts.CashLaws.{withdrawn}
use Rattle.books_model.proofs.laws.withdraw_takes_its_amount.Goals as goal

pub returns : goal.returns
returns c = λ a x before after h. done _ (step_of (op.Withdraw a x) before) h.0 after (withdrawn before a x) h.1
