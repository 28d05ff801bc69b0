use Rattle.order_rebuild.proofs.Common.{◌≡◌, ℕ, List, Bool, false, slice_get, slice_set, take, Some, sym, ◌∙◌, subst, arith, length-set, heap_items, IsNext}
use Rattle.order_rebuild.proofs.Open.{IsRest}
use Rattle.order_rebuild.proofs.Marks.{count-set, rest_first, rest_more, each_more, next_open, order_done}
use Rattle.order_rebuild.proofs.Begin.{first_waits, state_first, each_first, nothing}
use Rattle.order_rebuild.proofs.Come.{comer_known, comer_here, comer_least, gone_placed, stopped_placed, ready_placed, none_listed}
use Rattle.order_rebuild.proofs.placing.place_all.Goals as goal

pub queue_all-requires-clause-waits : goal.queue_all-requires-clause-waits
queue_all-requires-clause-waits c = first_waits c.args.lines.now c.requires.rows c.args.next.now c.args.wait.now c.requires.wait

pub all-init : goal.all-init
all-init c = let l = c.args.lines.now in let r = c.requires in record {
  sized = r.sized;
  rest = λ list lines. subst (λ (o : List ℕ). IsRest list o c.args.left.now) (sym r.out)
      (rest_first list c.args.left.now (r.sized ∙ lines.count) (λ p lt. r.left p (omega (arith, r.sized))));
  each = λ list lines. each_first list c.args.out.now.items r.out;
  state = state_first l r.rows c.args.left.now c.args.next.now c.args.wait.now c.queue_all.new.wait
      (heap_items c.args.ready) (heap_items c.queue_all.new.ready) r.wait r.left r.ready r.next r.first
      c.in_ok-queue_all.ensures.waits c.in_ok-queue_all.ensures.closed c.in_ok-queue_all.ensures.ready;
}

pub all-smaller : goal.all-smaller
all-smaller c =
    let i = c.all.invariant in
    let here = comer_here c.args.lines.now c.all.left c.all.next c.all.wait (heap_items c.all.ready)
    (heap_items c.pop.new.self) c.in-Some.comer i.sized i.state c.in-Some.ensures.permutation c.in-Some.ensures.heap_order in
    count-set c.all.left c.in-Some.comer.0.1 here.1

pub bounds-left-p : goal.bounds-left-p
bounds-left-p c =
    let i = c.all.invariant in
    let known = comer_known c.args.lines.now c.all.left c.all.next c.all.wait (heap_items c.all.ready)
    (heap_items c.pop.new.self) c.in-Some.comer i.sized i.state c.in-Some.ensures.permutation c.in-Some.ensures.heap_order in
    omega (arith, known.0, i.sized)

pub let_go-requires-clause-inside : goal.let_go-requires-clause-inside
let_go-requires-clause-inside c =
    let i = c.all.invariant in
    (comer_known c.args.lines.now c.all.left c.all.next c.all.wait (heap_items c.all.ready) (heap_items c.pop.new.self)
    c.in-Some.comer i.sized i.state c.in-Some.ensures.permutation c.in-Some.ensures.heap_order).0

pub let_go-requires-clause-gone : goal.let_go-requires-clause-gone
let_go-requires-clause-gone c =
    let i = c.all.invariant in
    gone_placed c.args.lines.now c.all.left c.all.next c.all.wait (heap_items c.all.ready) (heap_items c.pop.new.self)
    c.in-Some.comer i.sized i.state c.in-Some.ensures.permutation c.in-Some.ensures.heap_order

pub let_go-requires-clause-stopped : goal.let_go-requires-clause-stopped
let_go-requires-clause-stopped c =
    let i = c.all.invariant in
    stopped_placed c.args.lines.now c.all.left c.all.next c.all.wait (heap_items c.all.ready)
    (heap_items c.pop.new.self) c.in-Some.comer i.sized i.state c.in-Some.ensures.permutation c.in-Some.ensures.heap_order

pub all-preserved : goal.all-preserved
all-preserved c =
    let l = c.args.lines.now in let i = c.all.invariant in let a = c.in_ok-let_go.ensures in
    let left : List Bool = c.all.left in let out : List ℕ = c.all.out.items in let p : ℕ = c.in-Some.comer.0.1 in
    let here = comer_here l left c.all.next c.all.wait (heap_items c.all.ready) (heap_items c.pop.new.self)
    c.in-Some.comer i.sized i.state c.in-Some.ensures.permutation c.in-Some.ensures.heap_order in record {
      sized = length-set left p false ∙ i.sized;
      rest = λ list lines. subst (λ (o : List ℕ). IsRest list o (slice_set left p false))
          (sym c.in_ok-push.ensures.items) (rest_more list out left p (i.rest list lines) here.1);
      each = λ list lines. subst (λ (o : List ℕ). (k q : ℕ) → slice_get o k ≡ Some q → IsNext list (take k o) q) (sym c.in_ok-push.ensures.items)
          (each_more list out p (i.each list lines) (next_open list out left p (i.rest list lines)
          (comer_least l left c.all.next c.all.wait (heap_items c.all.ready) (heap_items c.pop.new.self) c.in-Some.comer
          i.sized i.state c.in-Some.ensures.permutation c.in-Some.ensures.heap_order list lines)));
      state = record {
        gone = a.gone;
        stopped = λ q b lt is go. absurd (let k = a.stopped b lt is go in omega (arith, k.1));
        waits = a.waits;
        closed = a.closed;
        ready_is = a.ready (slice_set left p false) (ready_placed l left c.all.next c.all.wait (heap_items c.all.ready)
            (heap_items c.pop.new.self) c.in-Some.comer i.sized i.state c.in-Some.ensures.permutation c.in-Some.ensures.heap_order);
      };
    }

pub returns : goal.returns
returns c = λ list lines orderable.
    let i = c.all.invariant in
    order_done list c.all.out.items c.all.left orderable (i.rest list lines) (i.each list lines)
    (none_listed list c.args.lines.now lines c.all.left c.all.next c.all.wait (heap_items c.all.ready) (i.sized
    ∙ lines.count) i.state (nothing (heap_items c.all.ready) (omega (arith, c.in_default.ensures.none, c.all.ready.data.ok.0))))
