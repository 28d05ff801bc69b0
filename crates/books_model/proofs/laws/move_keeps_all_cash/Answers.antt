use Rattle.books_model.specs.declared.script.Op.TheVariants as op
use Rattle.books_model.proofs.Common.{step_of}
use Rattle.books_model.proofs.Scripts.Outcomes.{done}
use Rattle.books_model.proofs.Scripts.CashLaws.{moved}
use Rattle.books_model.proofs.laws.move_keeps_all_cash.Goals as goal

pub returns : goal.returns
returns c = λ a b x before after h. done _ (step_of (op.Move a b x) before) h.0 after (moved before a b x) h.1
