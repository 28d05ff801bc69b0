use Rattle.books_model.proofs.Common.{All-weaker, operations_of, IsOperationFor}
use Rattle.books_model.proofs.Scripts.RangeLaws.{operation_for}
use Rattle.books_model.proofs.laws.scripts_go_by_instruments.Goals as goal

pub returns : goal.returns
returns c = λ script books others same valid. record {
  few = valid.few;
  few_alternatives = valid.few_alternatives;
  each = All-weaker (IsOperationFor books) (IsOperationFor others)
      (operation_for books others same) (operations_of script) valid.each;
}
