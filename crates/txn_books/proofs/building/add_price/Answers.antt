use Rattle.txn_books.proofs.Common.{◌≡◌, None, ◌∙◌, arith, put_price, New, chained, price_key_of}
use Rattle.txn_books.proofs.OneState.Chained.{get_price}
use Rattle.txn_books.proofs.OnBooks.Holdings.{is_instrument, price_put}
use Rattle.txn_books.proofs.OnBooks.Built.{all_written, built_of}
use Rattle.txn_books.proofs.OnBooks.Taken.{chains_taken, lacks_taken, order_taken, unused_taken, absent_taken, put_taken}
use Rattle.txn_books.proofs.building.add_price.Goals.{In_ok-words}
use Rattle.std.specs.FinMap as entry_map
use Rattle.txn_books.proofs.building.add_price.Goals as goal

-- the key is absent
absent : (c : In_ok-words) → entry_map.get (chained c.requires.books.0) (price_key_of c.args.instrument) ≡ None
absent c =
    let books = c.requires.books.0 in
    let stand = c.requires.books.1.stands in
    get_price books stand.range c.args.instrument
    (is_instrument stand c.args.instrument c.requires.instrument) ∙ c.requires.books.2

pub insert_absent-requires-clause-order : goal.insert_absent-requires-clause-order
insert_absent-requires-clause-order c =
    rw (c.chains.ensures, c.deref_mut.ensures.value) (order_taken (chains_taken c.requires.books.1.stands c.in_ok-words.ensures))

pub insert_absent-requires-clause-absent : goal.insert_absent-requires-clause-absent
insert_absent-requires-clause-absent c =
    rw (c.chains.ensures, c.deref_mut.ensures.value, c.price_key-key.ensures)
    (absent_taken (chains_taken c.requires.books.1.stands c.in_ok-words.ensures)
    _ (absent (goal.at.insert_absent-requires-clause-absent c).In_ok-words))

pub insert_absent-requires-clause-unused : goal.insert_absent-requires-clause-unused
insert_absent-requires-clause-unused c =
    rw (c.chains.ensures, c.deref_mut.ensures.value) (unused_taken (chains_taken c.requires.books.1.stands c.in_ok-words.ensures))

pub insert_absent-requires-clause-lacks : goal.insert_absent-requires-clause-lacks
insert_absent-requires-clause-lacks c =
    rw (c.chains.ensures, c.deref_mut.ensures.value) (lacks_taken (chains_taken c.requires.books.1.stands c.in_ok-words.ensures))

pub returns : goal.returns
returns c =
    let shape = c.args.shape.now in
    let books = c.requires.books.0 in
    let built = c.requires.books.1 in
    let x = c.args.words.items in
    let y = c.insert_absent.new.words in
    let puts = rw (c.chains.ensures, c.deref_mut.ensures.value, c.price_key-key.ensures) at c.insert_absent.ensures.put in
    let own = rw (c.chains.ensures, c.deref_mut.ensures.value, c.price_key-key.ensures) at c.insert_absent.ensures.frame in
    let put = put_taken (chains_taken built.stands c.in_ok-words.ensures) _ c.args.price y (absent (goal.at.returns c).In_ok-words) puts own in
    let did = price_put shape c.args.instrument c.requires.instrument c.args.price c.requires.price New x y put in
    rw (all_written c.in_ok-words.words.len y c.in_ok-words.words.items (omega (arith, c.deref_mut.ensures.len, c.insert_absent.ensures.frame.count)))
    (built_of shape x y (λ b. put_price b c.args.instrument c.args.price) books built put.keeps.count (did.left books built.stands))
