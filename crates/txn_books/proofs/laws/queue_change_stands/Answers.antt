use Rattle.txn_books.proofs.OneState.Changes.{queue_change}
use Rattle.txn_books.proofs.laws.queue_change_stands.Goals as goal

pub returns : goal.returns
returns c = λ old new books in_hand calls parts held kept. queue_change old new books in_hand parts calls held kept
