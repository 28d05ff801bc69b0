use Rattle.txn_books.proofs.Common.{◌≡◌, ◌≢◌, None, ◌∙◌, subst, arith, put_quantity, OfModel, New, chained, position_key_of, Stands}
use Rattle.txn_books.proofs.OneState.Chained.{get_position}
use Rattle.txn_books.proofs.OneState.Whole.{one_books}
use Rattle.txn_books.proofs.OnBooks.Holdings.{MayHold, place_of, quantity_put}
use Rattle.txn_books.proofs.OnBooks.Built.{all_written, quantity_is, built_of}
use Rattle.txn_books.proofs.OnBooks.Taken.{chains_taken, lacks_taken, order_taken, unused_taken, absent_taken, put_taken}
use Rattle.txn_books.proofs.building.add_position.Goals.{In_ok-words}
use Rattle.std.specs.FinMap as entry_map
use Rattle.txn_books.proofs.building.add_position.Goals as goal

-- the key is absent
absent : (c : In_ok-words) → entry_map.get (chained c.requires.books.0) (position_key_of c.args.account c.args.instrument) ≡ None
absent c =
    let books = c.requires.books.0 in
    let range = c.requires.books.1.stands.range in
    let place = place_of books range c.args.account c.args.instrument (c.requires.books.2, c.requires.books.3) in
    get_position books range c.args.account c.args.instrument place.0 place.1 ∙ c.requires.books.4

pub position_key-key-requires : goal.position_key-key-requires
position_key-key-requires c = record {
  instrument =
      (place_of c.requires.books.0 c.requires.books.1.stands.range c.args.account c.args.instrument (c.requires.books.2, c.requires.books.3)).1;
}

pub insert_absent-requires-clause-order : goal.insert_absent-requires-clause-order
insert_absent-requires-clause-order c =
    rw (c.chains.ensures, c.deref_mut.ensures.value) (order_taken (chains_taken c.requires.books.1.stands c.in_ok-words.ensures))

pub insert_absent-requires-clause-absent : goal.insert_absent-requires-clause-absent
insert_absent-requires-clause-absent c =
    rw (c.chains.ensures, c.deref_mut.ensures.value, c.position_key-key.ensures)
    (absent_taken (chains_taken c.requires.books.1.stands c.in_ok-words.ensures)
    _ (absent (goal.at.insert_absent-requires-clause-absent c).In_ok-words))

pub insert_absent-requires-clause-unused : goal.insert_absent-requires-clause-unused
insert_absent-requires-clause-unused c =
    rw (c.chains.ensures, c.deref_mut.ensures.value) (unused_taken (chains_taken c.requires.books.1.stands c.in_ok-words.ensures))

pub insert_absent-requires-clause-lacks : goal.insert_absent-requires-clause-lacks
insert_absent-requires-clause-lacks c =
    rw (c.chains.ensures, c.deref_mut.ensures.value) (lacks_taken (chains_taken c.requires.books.1.stands c.in_ok-words.ensures))

pub returns : goal.returns
returns c =
    let shape = c.args.shape.now in
    let books = c.requires.books.0 in
    let built = c.requires.books.1 in
    let x = c.args.words.items in
    let y = c.insert_absent.new.words in
    let puts = rw (c.chains.ensures, c.deref_mut.ensures.value, c.position_key-key.ensures) at c.insert_absent.ensures.put in
    let own = rw (c.chains.ensures, c.deref_mut.ensures.value, c.position_key-key.ensures) at c.insert_absent.ensures.frame in
    let put = put_taken (chains_taken built.stands c.in_ok-words.ensures) _ c.args.quantity y (absent (goal.at.returns c).In_ok-words) puts own in
    let may : OfModel (Stands shape) (MayHold c.args.account c.args.instrument) x = λ b stand.
    subst (MayHold c.args.account c.args.instrument) (one_books shape x books b built.stands stand) (c.requires.books.2, c.requires.books.3) in
    let some : c.args.quantity ≢ 0 = λ e. absurd (omega (arith, e, c.requires.quantity.0)) in
    let did = quantity_put shape c.args.account c.args.instrument c.args.quantity some c.requires.quantity.1 New x y may put in
    let stands = subst (λ b. Stands shape y b) (quantity_is books c.args.account c.args.instrument c.args.quantity c.requires.quantity.0)
    (did.left books built.stands) in
    rw (all_written c.in_ok-words.words.len y c.in_ok-words.words.items (omega (arith, c.deref_mut.ensures.len, c.insert_absent.ensures.frame.count)))
    (built_of shape x y (λ b. put_quantity b c.args.account c.args.instrument c.args.quantity) books built put.keeps.count stands)
