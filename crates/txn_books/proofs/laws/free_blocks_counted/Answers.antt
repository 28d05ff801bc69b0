use Rattle.txn_books.proofs.OneState.Whole.{counted}
use Rattle.txn_books.proofs.laws.free_blocks_counted.Goals as goal

pub returns : goal.returns
returns c = counted
