use Rattle.txn_books.proofs.Common.{refl, chained}
use Rattle.txn_books.proofs.OneState.Changes.{chain_change}
use Rattle.txn_books.proofs.laws.chain_change_stands.Goals as goal

pub returns : goal.returns
returns c = λ old new books in_hand parts positions prices after free key held lists as_many kept.
    chain_change old new books in_hand parts (chained (record books { positions = positions; prices = prices })) after free key held as_many kept
    positions prices refl lists
