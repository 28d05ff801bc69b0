use Rattle.txn_books.proofs.Common.{◌≤◌, IfSome, refl, GREATEST_CASH, IfOk-weaker}
use Rattle.txn_books.proofs.OnBooks.Calls.{leads_less, told_stand, told_fits}
use Rattle.txn_books.proofs.OnBooks.Accounts.{tree_there, tells_cash, cash_most}
use Rattle.txn_books.proofs.cash.cash.Goals as goal

pub get-requires-clause-order : goal.get-requires-clause-order
get-requires-clause-order g c = rw c.tree.ensures (record { at = λ s fit. tree_there c.args.shape.now _ (c.requires.stands.at s fit) })

pub returns-clause-told : goal.returns-clause-told
returns-clause-told g c =
    let shape = c.args.shape.now in
    IfOk-weaker c.get.result _ _
    (λ answer. leads_less (tells_cash shape c.args.account answer))
    (rw c.from.ensures at rw c.tree.ensures at c.get.ensures.found)

pub returns-clause-range : goal.returns-clause-range
returns-clause-range g c =
    told_fits c.get.ensures.goes_on c.requires.stands _ (λ answer. answer) (returns-clause-told g c) (λ found. IfSome found (λ cash. cash ≤ GREATEST_CASH))
    (g.met.W.Words.fits c.get.new.w c.get.ensures.goes_on.sound) (λ books range. cash_most books range c.args.account _ refl)

pub returns-clause-stands : goal.returns-clause-stands
returns-clause-stands g c = told_stand c.get.ensures.goes_on c.requires.stands _ (λ answer. answer) (returns-clause-told g c)
