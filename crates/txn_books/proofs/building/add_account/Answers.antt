use Rattle.txn_books.proofs.Common.{arith, put_cash, New, arena_of, tree_of}
use Rattle.txn_tree_map.proofs.Inserts.SpineSteps.{spine_headed}
use Rattle.txn_books.proofs.OnBooks.Accounts.{account_put}
use Rattle.txn_books.proofs.OnBooks.Taken.{heads_kept, tree_taken, lacks_taken, order_taken, unused_taken, put_taken}
use Rattle.txn_books.proofs.OnBooks.Built.{all_written, built_of}
use Rattle.txn_books.proofs.building.add_account.Goals as goal

pub insert_greatest-requires-clause-order : goal.insert_greatest-requires-clause-order
insert_greatest-requires-clause-order c =
    rw (c.tree.ensures, c.deref_mut.ensures.value) (order_taken (tree_taken c.requires.books.1.stands c.in_ok-words.ensures))

pub insert_greatest-requires-clause-spine : goal.insert_greatest-requires-clause-spine
insert_greatest-requires-clause-spine c =
    rw (c.tree.ensures, c.deref_mut.ensures.value, c.from-key.ensures)
    (spine_headed (tree_of c.args.shape.now) c.args.account c.args.words.items c.in_ok-words.words.items c.args.spine.now
    (heads_kept (arena_of c.args.shape.now) c.in_ok-words.block c.args.words.items c.in_ok-words.words.items c.in_ok-words.ensures) c.requires.spine)

pub insert_greatest-requires-clause-unused : goal.insert_greatest-requires-clause-unused
insert_greatest-requires-clause-unused c =
    rw (c.tree.ensures, c.deref_mut.ensures.value) (unused_taken (tree_taken c.requires.books.1.stands c.in_ok-words.ensures))

pub insert_greatest-requires-clause-lacks : goal.insert_greatest-requires-clause-lacks
insert_greatest-requires-clause-lacks c =
    rw (c.tree.ensures, c.deref_mut.ensures.value) (lacks_taken (tree_taken c.requires.books.1.stands c.in_ok-words.ensures))

pub returns-clause-built : goal.returns-clause-built
returns-clause-built c =
    let shape = c.args.shape.now in
    let books = c.requires.books.0 in
    let built = c.requires.books.1 in
    let x = c.args.words.items in
    let y = c.insert_greatest.new.words in
    let puts = rw (c.tree.ensures, c.deref_mut.ensures.value, c.from-key.ensures) at c.in_ok-insert_greatest.ensures.put in
    let own = rw (c.tree.ensures, c.deref_mut.ensures.value, c.from-key.ensures) at c.in_ok-insert_greatest.ensures.frame in
    let put = put_taken (tree_taken built.stands c.in_ok-words.ensures) c.args.account c.args.cash y c.requires.books.2 puts own in
    let did = account_put shape c.args.account c.args.cash c.requires.cash New x y (λ others stand none. c.requires.account) put in
    rw (all_written c.in_ok-words.words.len y c.in_ok-words.words.items (omega (arith, c.deref_mut.ensures.len, c.in_ok-insert_greatest.ensures.frame.count)))
    (built_of shape x y (λ b. put_cash b c.args.account c.args.cash) books built put.keeps.count (did.left books built.stands))
