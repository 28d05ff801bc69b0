use Rattle.txn_books.proofs.Common.{◌<◌, length, sym, ap, ◌∙◌, subst, arith, ClearingBooks, put_call}
use Rattle.txn_books.proofs.ReadOff.Queued.{count_is, call_range, call_room, call_next, calls_end}
use Rattle.txn_books.proofs.read.add_calls.Goals as goal

pub overflow_cast-account : goal.overflow_cast-account
overflow_cast-account c =
    let there = c.queued-account.ensures c.requires.0.calls c.requires.1.queue in
    let range = call_range c.requires.1 c.loop-number.number c.queued-account.result there in
    omega (arith, range.0.1)

pub add_call-requires-clause-call : goal.add_call-requires-clause-call
add_call-requires-clause-call c =
    call_range c.requires.1 c.loop-number.number
    c.queued-account.result (c.queued-account.ensures c.requires.0.calls c.requires.1.queue)

pub add_call-requires-clause-room : goal.add_call-requires-clause-room
add_call-requires-clause-room c =
    let there = c.queued-account.ensures c.requires.0.calls c.requires.1.queue in
    subst (λ (b : ClearingBooks). length b.calls < b.ring) (sym (c.loop-number.invariant c.requires.0 c.requires.1))
    (call_room c.requires.1 c.loop-number.number c.queued-account.result there)

pub loop-number-preserved : goal.loop-number-preserved
loop-number-preserved c after adds =
    c.in_ok-add_call.ensures.ok
    ∙ ap (λ b. put_call b c.queued-account.result.0 c.queued-account.result.1) (c.loop-number.invariant after adds)
    ∙ call_next adds c.loop-number.number
    c.queued-account.result (c.queued-account.ensures after.calls adds.queue)

pub returns : goal.returns
returns c after adds =
    let count = count_is adds in
    c.loop-number.invariant after adds
    ∙ calls_end adds c.loop-number.number (omega (arith, count, c.loop-number-test.false))
