use Rattle.books_model.proofs.Common.{ap, outcome_from}
use Rattle.books_model.proofs.Scripts.Runs.{operations_alone}
use Rattle.books_model.proofs.laws.operations_alone.Goals as goal

pub returns : goal.returns
returns c = λ ops books. ap (outcome_from books) (operations_alone 1 ops books)
