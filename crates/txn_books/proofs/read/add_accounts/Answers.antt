use Rattle.txn_books.proofs.Common.{arith}
use Rattle.txn_books.proofs.ReadOff.Filling.{account_at}
use Rattle.txn_books.proofs.read.add_accounts.Goals as goal

pub overflow_cast-account : goal.overflow_cast-account
overflow_cast-account c =
    let k = account_at c.args.entries.now c.loop-account.account-index
    c.loop-account-test.true (c.loop-account.invariant c.requires.0 c.requires.1) in
    omega (arith, k.number.1)

pub add_account-requires-clause-account : goal.add_account-requires-clause-account
add_account-requires-clause-account c =
    (account_at c.args.entries.now c.loop-account.account-index
    c.loop-account-test.true (c.loop-account.invariant c.requires.0 c.requires.1)).number

pub add_account-requires-clause-cash : goal.add_account-requires-clause-cash
add_account-requires-clause-cash c =
    (account_at c.args.entries.now c.loop-account.account-index
    c.loop-account-test.true (c.loop-account.invariant c.requires.0 c.requires.1)).cash

pub add_account-requires-clause-room : goal.add_account-requires-clause-room
add_account-requires-clause-room c =
    (account_at c.args.entries.now c.loop-account.account-index
    c.loop-account-test.true (c.loop-account.invariant c.requires.0 c.requires.1)).room
