use Rattle.txn_books.proofs.OneState.Changes.{tree_change}
use Rattle.txn_books.proofs.laws.tree_change_stands.Goals as goal

pub returns : goal.returns
returns c = λ old new books in_hand parts accounts after free key tree lists as_many kept.
    tree_change old new books in_hand parts accounts after free key tree lists as_many kept
