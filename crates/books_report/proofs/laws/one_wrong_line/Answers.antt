use Rattle.books_report.proofs.Checks.Wrong.{one_wrong}
use Rattle.books_report.proofs.laws.one_wrong_line.Goals as goal

pub returns : goal.returns
returns c = λ input limit text number other valid w v. one_wrong input limit valid text number other w v
