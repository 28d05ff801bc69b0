use Rattle.books_model.specs.declared.script.Op.TheVariants as op
use Rattle.books_model.proofs.Common.{step_of}
use Rattle.books_model.proofs.Scripts.Outcomes.{done}
use Rattle.books_model.proofs.Scripts.CashLaws.{traded_quantities}
use Rattle.books_model.proofs.laws.trade_keeps_quantities.Goals as goal

pub returns : goal.returns
returns c = λ a b i q before after h j. done _ (step_of (op.Trade a b i q) before) h.0 after (traded_quantities before a b i q j) h.1
