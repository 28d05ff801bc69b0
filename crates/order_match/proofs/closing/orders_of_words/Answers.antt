use Rattle.order_match.proofs.Common.{ap, ◌∙◌, OrderShape, Stands}
use Rattle.txn_words.specs.Plainly.{PlainView}
use Rattle.txn_stores.proofs.Scripted.{fresh_stands}
use Rattle.txn_stores.proofs.Turning.{leads_from_words}
use Rattle.order_match.proofs.closing.orders_of_words.Goals as goal

pub all_orders-requires-clause-stands : goal.all_orders-requires-clause-stands
all_orders-requires-clause-stands c =
    let view = c.new-reader.ensures.view in
    fresh_stands _ _ Stands c.args.shape.now (λ shape words good. good) c.new-reader.result (ap (λ (v : PlainView OrderShape). v.trace) view)
    (ap (λ (v : PlainView OrderShape). v.shape) view)

pub returns-in-Ok : goal.returns-in-Ok
returns-in-Ok c book stand =
    let view = c.new-reader.ensures.view in
    let hands = c.in-Ok.ensures.hands_on in
    (leads_from_words _ _ c.new-reader.result c.all_orders.new.w _ c.args.words.now _ (ap (λ (v : PlainView OrderShape). v.trace) view) hands.shape
    (hands.origin ∙ ap (λ (v : PlainView OrderShape). v.origin) view) hands.sound.fits c.in-Ok.ensures.told).told book stand
