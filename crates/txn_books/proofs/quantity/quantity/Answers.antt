use Rattle.txn_books.proofs.Common.{IfSome, refl, arith, GREATEST_QUANTITY, IsWithin, IfOk-weaker}
use Rattle.books_model.proofs.Drafts.{quantity-in_range}
use Rattle.txn_books.proofs.OnBooks.Calls.{in_some, leads_less, told_stand, told_fits}
use Rattle.txn_books.proofs.OnBooks.Holdings.{chains_there, instruments_most, tells_quantity}
use Rattle.txn_books.proofs.quantity.quantity.Goals as goal

pub get-requires-clause-order : goal.get-requires-clause-order
get-requires-clause-order g c = rw c.chains.ensures (record { at = λ s fit. chains_there c.args.shape.now _ (c.requires.stands.at s fit) })

pub returns-clause-told : goal.returns-clause-told
returns-clause-told g c =
    let shape = c.args.shape.now in
    IfOk-weaker c.get.result _ _
    (λ answer. leads_less
    (tells_quantity shape c.args.account c.args.instrument c.requires.account c.requires.instrument answer))
    (rw c.position_key.ensures at rw c.chains.ensures at c.get.ensures.found)

pub returns-clause-range : goal.returns-clause-range
returns-clause-range g c =
    told_fits c.get.ensures.goes_on c.requires.stands _ (λ answer. answer) (returns-clause-told g c) (λ found. IfSome found (IsWithin 1 GREATEST_QUANTITY))
    (g.met.W.Words.fits c.get.new.w c.get.ensures.goes_on.sound) (λ books range. quantity-in_range books c.args.account c.args.instrument range _ refl)

pub returns-clause-stands : goal.returns-clause-stands
returns-clause-stands g c = told_stand c.get.ensures.goes_on c.requires.stands _ (λ answer. answer) (returns-clause-told g c)

pub position_key-requires : goal.position_key-requires
position_key-requires g c =
    let some = in_some
    (g.met.W.Words.fits c.args.w.now c.requires.ready.sound) c.requires.stands in
    record { instrument = (c.requires.instrument.0, omega (arith, c.requires.instrument.1, instruments_most c.args.shape.now some.0 some.1)) }
