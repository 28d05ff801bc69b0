use Rattle.order_match.proofs.Whole.{one_book}
use Rattle.order_match.proofs.laws.one_book.Goals as goal

pub returns : goal.returns
returns c = one_book
