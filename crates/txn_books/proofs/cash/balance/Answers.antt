use Rattle.txn_books.proofs.Common.{IfOk-weaker, ◌≤◌, Option, Some, None, IfSome, refl, GREATEST_CASH}
use Rattle.txn_tree_map.specs.declared.in_place.Stored.{Stored}
use Rattle.txn_tree_map.specs.Stored.{value_in}
use Rattle.txn_books.proofs.OnBooks.Calls.{leads_less, told_stand, told_fits}
use Rattle.txn_books.proofs.OnBooks.Accounts.{tree_there, tells_cash, cash_most}
use Rattle.txn_books.proofs.cash.balance.Goals as goal

pub stored-requires-clause-order : goal.stored-requires-clause-order
stored-requires-clause-order g c = rw c.tree.ensures (record { at = λ s fit. tree_there c.args.shape.now _ (c.requires.stands.at s fit) })

pub returns-clause-told : goal.returns-clause-told
returns-clause-told g c =
    let shape = c.args.shape.now in
    IfOk-weaker c.stored.result _ _
    (λ answer. leads_less (tells_cash shape c.args.account (value_in answer)))
    (rw c.from.ensures at rw c.tree.ensures at c.stored.ensures.found)

-- what holds of the value holds of what was found
balance_most : (answer : Option Stored) → IfSome (value_in answer) (λ cash. cash ≤ GREATEST_CASH) → IfSome answer (λ stored. stored.value ≤ GREATEST_CASH)
balance_most None h = h
balance_most (Some stored) h = h

pub returns-clause-range : goal.returns-clause-range
returns-clause-range g c = IfOk-weaker c.stored.result _ _ balance_most
    (told_fits c.stored.ensures.goes_on c.requires.stands _ value_in (returns-clause-told g c) (λ found. IfSome found (λ cash. cash ≤ GREATEST_CASH))
    (g.met.W.Words.fits c.stored.new.w c.stored.ensures.goes_on.sound) (λ books range. cash_most books range c.args.account _ refl))

pub returns-clause-stands : goal.returns-clause-stands
returns-clause-stands g c = told_stand c.stored.ensures.goes_on c.requires.stands _ value_in (returns-clause-told g c)
