use Rattle.txn_books.proofs.Common.{IfOk-weaker}
use Rattle.txn_books.proofs.OnBooks.Calls.{leads_less, told_stand}
use Rattle.txn_books.proofs.OnBooks.Accounts.{tree_there, tells_between}
use Rattle.txn_books.proofs.cash.cash_between.Goals as goal

pub sum_range-requires-clause-order : goal.sum_range-requires-clause-order
sum_range-requires-clause-order g c = rw c.tree.ensures (record { at = λ s fit. tree_there c.args.shape.now _ (c.requires.stands.at s fit) })

pub returns-clause-told : goal.returns-clause-told
returns-clause-told g c =
    let shape = c.args.shape.now in
    IfOk-weaker c.sum_range.result _ _
    (λ answer. leads_less
    (tells_between shape c.args.low c.args.high answer))
    (rw c.from.ensures at rw c.from-2.ensures at rw c.tree.ensures at c.sum_range.ensures.sum)

pub returns-clause-stands : goal.returns-clause-stands
returns-clause-stands g c = told_stand c.sum_range.ensures.goes_on c.requires.stands _ (λ answer. answer) (returns-clause-told g c)
