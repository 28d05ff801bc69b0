use Rattle.books_model.proofs.Common.{HaveSameSizes, run_parts}
use Rattle.books_model.proofs.Scripts.Outcomes.{outcome_holds}
use Rattle.books_model.proofs.Scripts.SizeLaws.{parts_keep, same_sizes}
use Rattle.books_model.proofs.laws.scripts_keep_sizes.Goals as goal

pub returns : goal.returns
returns c = λ script books. outcome_holds (HaveSameSizes books) books (run_parts 1 script books) (same_sizes books) (parts_keep 1 script books)
