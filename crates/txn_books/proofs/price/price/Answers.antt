use Rattle.txn_books.proofs.Common.{IfSome, refl, GREATEST_PRICE, IsWithin, IfOk-weaker}
use Rattle.books_model.proofs.Drafts.{price-in_range}
use Rattle.txn_books.proofs.OnBooks.Calls.{leads_less, told_stand, told_fits}
use Rattle.txn_books.proofs.OnBooks.Holdings.{chains_there, tells_price}
use Rattle.txn_books.proofs.price.price.Goals as goal

pub get-requires-clause-order : goal.get-requires-clause-order
get-requires-clause-order g c = rw c.chains.ensures (record { at = λ s fit. chains_there c.args.shape.now _ (c.requires.stands.at s fit) })

pub returns-clause-told : goal.returns-clause-told
returns-clause-told g c =
    let shape = c.args.shape.now in
    let i = c.args.instrument in
    IfOk-weaker c.get.result _ _
    (λ answer. leads_less (tells_price shape i c.requires.instrument answer))
    (rw c.price_key.ensures at rw c.chains.ensures at c.get.ensures.found)

pub returns-clause-range : goal.returns-clause-range
returns-clause-range g c =
    told_fits c.get.ensures.goes_on c.requires.stands _ (λ answer. answer) (returns-clause-told g c) (λ found. IfSome found (IsWithin 1 GREATEST_PRICE))
    (g.met.W.Words.fits c.get.new.w c.get.ensures.goes_on.sound) (λ books range. price-in_range books c.args.instrument range _ refl)

pub returns-clause-stands : goal.returns-clause-stands
returns-clause-stands g c = told_stand c.get.ensures.goes_on c.requires.stands _ (λ answer. answer) (returns-clause-told g c)
