use Rattle.books_report.proofs.Checks.Wrong.{none_of_output}
use Rattle.books_report.proofs.Checks.Deciding.{decided}
use Rattle.books_report.proofs.laws.output_or_wrong.Goals as goal

pub returns : goal.returns
returns c = record {
  either = λ input limit text valid. decided limit valid text;
  not_both = λ input limit text valid output wrong. none_of_output input limit valid text wrong.0 output wrong.1;
}
