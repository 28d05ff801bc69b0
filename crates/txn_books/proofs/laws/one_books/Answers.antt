use Rattle.txn_books.proofs.OneState.Whole.{one_books}
use Rattle.txn_books.proofs.laws.one_books.Goals as goal

pub returns : goal.returns
returns c = one_books
