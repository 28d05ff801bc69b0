use Rattle.books_model.proofs.Common.{run_parts}
use Rattle.books_model.proofs.Scripts.Outcomes.{stops_refused}
use Rattle.books_model.proofs.laws.refused_changes_nothing.Goals as goal

pub returns : goal.returns
returns c = λ script books refused. stops_refused books (run_parts 1 script books) refused
