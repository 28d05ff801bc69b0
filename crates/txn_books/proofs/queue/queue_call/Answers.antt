use Rattle.txn_books.proofs.Common.{IfOk-weaker}
use Rattle.txn_books.proofs.OnBooks.Calls.{ok_both, leads_less, leads_pushed, room_stands}
use Rattle.txn_books.proofs.OnBooks.MarginCalls.{queue_there, call_queued}
use Rattle.txn_books.proofs.queue.queue_call.Goals as goal

pub push-requires-clause-order : goal.push-requires-clause-order
push-requires-clause-order g c = rw c.queue.ensures (record { at = λ s fit. queue_there c.args.shape.now _ (c.requires.stands.at s fit) })

pub returns-clause-queued : goal.returns-clause-queued
returns-clause-queued g c =
    let shape = c.args.shape.now in
    let pushed = rw c.from.ensures at rw c.queue.ensures at c.push.ensures.pushed in
    let full = rw c.queue.ensures at c.push.ensures.full in
    let others = rw c.queue.ensures at c.push.ensures.others in
    IfOk-weaker c.push.result _ _
    (λ answer did. leads_less (call_queued shape c.args.account c.args.shortfall c.requires.call answer)
    (leads_pushed did.0 did.1.0 did.1.1))
    (ok_both _ _ c.push.result pushed (ok_both _ _ c.push.result full others))

pub returns-clause-stands : goal.returns-clause-stands
returns-clause-stands g c = IfOk-weaker c.push.result _ _ (λ answer. room_stands c.push.ensures.goes_on c.requires.stands) (returns-clause-queued g c)
