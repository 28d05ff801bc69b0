use Rattle.txn_books.proofs.Common.{Some, None, arith, IsCall, state_after, IsEmpty, Pops, queue_of, IsGoodFor}
use Rattle.txn_books.proofs.OnBooks.Calls.{leads_less, leads_both, leads_popped, in_some, told_stands}
use Rattle.txn_books.proofs.OnBooks.MarginCalls.{queue_there, front_lacking, front_taken, front_is_call}
use Rattle.txn_books.proofs.queue.take_front.Goals as goal

pub pop-requires-clause-order : goal.pop-requires-clause-order
pop-requires-clause-order g c = rw c.queue.ensures (record { at = λ s fit. queue_there c.args.shape.now _ (c.requires.stands.at s fit) })

pub overflow_cast-result : goal.overflow_cast-result
overflow_cast-result g c =
    let shape = c.args.shape.now in
    let goes = c.in_ok-pop.ensures.goes_on in
    let popped = rw c.queue.ensures at rw c.in-Some.is at c.in_ok-pop.ensures.popped in
    let each = state_after g.W.Words g.W.Shape.Shape _ _ (IsGoodFor shape)
    (λ _. IsCall (c.in-Some.account, c.in-Some.shortfall))
    (Pops (queue_of shape) (Some (c.in-Some.account, c.in-Some.shortfall))) goes.shape goes.begins c.requires.stands popped
    (front_is_call shape (c.in-Some.account, c.in-Some.shortfall)) in
    let call : IsCall (c.in-Some.account, c.in-Some.shortfall) = (in_some (g.met.W.Words.fits c.pop.new.w goes.sound) each).1 in
    omega (arith, call.0.1)

pub returns-in-None-clause-taken : goal.returns-in-None-clause-taken
returns-in-None-clause-taken g c =
    let shape = c.args.shape.now in
    let popped = rw c.queue.ensures at rw c.in-None.is at c.in_ok-pop.ensures.popped in
    let none = rw c.queue.ensures at rw c.in-None.is at c.in_ok-pop.ensures.none in
    leads_less (λ x y k. front_lacking shape x y k.0 k.1)
    (leads_both {R = λ before _. IsEmpty (queue_of shape) before} {T = Pops (queue_of shape) None} none popped)

pub returns-in-None-clause-stands : goal.returns-in-None-clause-stands
returns-in-None-clause-stands g c =
    told_stands c.in_ok-pop.ensures.goes_on c.requires.stands (returns-in-None-clause-taken g c)

pub returns-in-Some-clause-taken : goal.returns-in-Some-clause-taken
returns-in-Some-clause-taken g c =
    let shape = c.args.shape.now in
    let popped = rw c.queue.ensures at rw c.in-Some.is at c.in_ok-pop.ensures.popped in
    let others = rw c.queue.ensures at c.in_ok-pop.ensures.others in
    leads_less (front_taken shape (c.in-Some.account, c.in-Some.shortfall))
    (leads_popped popped others)

pub returns-in-Some-clause-stands : goal.returns-in-Some-clause-stands
returns-in-Some-clause-stands g c =
    told_stands c.in_ok-pop.ensures.goes_on c.requires.stands (returns-in-Some-clause-taken g c)
