use Rattle.order_rebuild.proofs.Common.{arith, ◌-◌, ◌≡◌, slice_index, suc, refl, heap_items, caller_of}
use Rattle.order_rebuild.proofs.Waits.{index_is, set_waits, ready_waits, ready_comes}
use Rattle.order_rebuild.proofs.ready.queue_item.Goals as goal

pub first_closed-at-requires-clause-own : goal.first_closed-at-requires-clause-own
first_closed-at-requires-clause-own c = λ e is. c.requires.waits.own c.args.q e c.requires.inside is

pub returns-in_ok-push-clause-waits : goal.returns-in_ok-push-clause-waits
returns-in_ok-push-clause-waits c =
    set_waits c.args.lines.now c.requires.rows c.args.next.now c.args.wait.now c.requires.waits c.args.q
    c.first_closed-at.result c.requires.inside c.first_closed-at.ensures.own c.first_closed-at.ensures.above

pub returns-in_ok-push-clause-ready : goal.returns-in_ok-push-clause-ready
returns-in_ok-push-clause-ready c =
    let above = c.if-from-eq0.false in
    let was : slice_index c.args.wait.now c.args.q ≡ suc (slice_index c.args.wait.now c.args.q - 1) = omega arith in
    let caller : c.index.result.now ≡ caller_of c.args.lines.now c.args.q =
    index_is c.args.lines.now.callers.items c.args.q c.index.result.now (omega (
      arith,
      c.args.lines.now.callers.ok.0,
      c.requires.rows.callers,
    )) c.index.ensures in
    ready_comes c.args.lines.now c.requires.rows c.args.next.now c.args.wait.now c.requires.waits c.args.q
    c.first_closed-at.result c.requires.inside c.first_closed-at.ensures.own c.first_closed-at.ensures.above
    (slice_index c.args.wait.now c.args.q - 1) (record { 0 = (c.index.result.now, c.args.q) })
    (heap_items c.args.ready.now) (heap_items c.push.new.self) was c.if-at-eq0.true refl caller
    c.in_ok-push.ensures.permutation c.in_ok-push.ensures.heap_order

pub returns-else-at-eq0-clause-waits : goal.returns-else-at-eq0-clause-waits
returns-else-at-eq0-clause-waits c =
    set_waits c.args.lines.now c.requires.rows c.args.next.now c.args.wait.now c.requires.waits c.args.q
    c.first_closed-at.result c.requires.inside c.first_closed-at.ensures.own c.first_closed-at.ensures.above

pub returns-else-at-eq0-clause-ready : goal.returns-else-at-eq0-clause-ready
returns-else-at-eq0-clause-ready c =
    let above = c.if-from-eq0.false in let high = c.if-at-eq0.false in
    let was : slice_index c.args.wait.now c.args.q ≡ suc (slice_index c.args.wait.now c.args.q - 1) = omega arith in
    let is : c.first_closed-at.result ≡ suc (c.first_closed-at.result - 1) = omega arith in
    ready_waits c.args.lines.now c.requires.rows c.args.next.now c.args.wait.now c.requires.waits c.args.q
    c.first_closed-at.result c.requires.inside c.first_closed-at.ensures.own c.first_closed-at.ensures.above
    (slice_index c.args.wait.now c.args.q - 1) (c.first_closed-at.result - 1) (heap_items c.args.ready.now) was is
