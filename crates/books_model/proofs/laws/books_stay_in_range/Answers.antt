use Rattle.books_model.proofs.Common.{AreInRange, run_parts}
use Rattle.books_model.proofs.Scripts.Outcomes.{outcome_holds}
use Rattle.books_model.proofs.Scripts.RangeLaws.{parts_stay}
use Rattle.books_model.proofs.laws.books_stay_in_range.Goals as goal

pub returns : goal.returns
returns c = λ script books h valid. outcome_holds AreInRange books (run_parts 1 script books) h (parts_stay 1 script books h valid.each)
