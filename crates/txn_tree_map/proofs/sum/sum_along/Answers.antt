use Rattle.txn_tree_map.proofs.Common.{goes, goes_then, goes_as, ◌+◌, refl, ◌∙◌, arith, rules, sees_same, HasMap, looks_none, looks_map, looks_then, looks_only}
use Rattle.txn_tree_map.proofs.Common.{each_looked, tree_part, IsAnyWord, IsNext, HasNoneTo, each_now, each_since, looks_since, reads_since}
use Rattle.txn_tree_map.proofs.Summed.{IsTotal}
use Rattle.txn_tree_map.proofs.Held.Places.{at_tree}
use Rattle.txn_tree_map.proofs.InOrder.SumSteps.{summed_none, summed_more, total_none, total_all, total_high}
use Rattle.txn_tree_map.proofs.InOrder.SumCalls.{reads_on, sums_range}
use Rattle.txn_tree_map.proofs.sum.sum_along.Goals as goal

pub loop-init : goal.loop-init
loop-init g c =
    let m = c.args.map.now in
    record {
      shape = refl;
      origin = refl;
      stop = c.requires.ready.going;
      sound = c.requires.ready.sound;
      from = omega arith;
      bound = omega arith;
      looks = looks_none _ _ _ IsAnyWord _ (record {
        at = λ s fit. let o = c.requires.order.at s fit in
            summed_none c.args.low c.args.high (at_tree m _ o.entries o.used o.holds);
      });
      reads = λ s fit. sees_same _ _;
      walk = c.requires.walk;
    }

pub next_entry-requires-clause-order : goal.next_entry-requires-clause-order
next_entry-requires-clause-order g c =
    let m = c.args.map.now in
    let i = c.loop.invariant in
    each_since c.args.w.now i.shape
    (each_looked _ _ _ _ i.looks (HasMap (tree_part m)) (each_now c.requires.order))

pub next_entry-requires-clause-walk : goal.next_entry-requires-clause-walk
next_entry-requires-clause-walk g c = c.loop.invariant.walk

pub overflow_add-total : goal.overflow_add-total
overflow_add-total g c =
    let small = rw c.in-Some.is at c.in_ok-next_entry.ensures.small in
    omega (arith, c.from-total.ensures, c.loop.invariant.bound)

pub returns-in-None : goal.returns-in-None
returns-in-None g c =
    let m = c.args.map.now in
    let i = c.loop.invariant in
    let one = c.in_ok-next_entry.ensures in
    let none = looks_since g.W.Words g.W.Shape.Shape i.shape (rw c.in-None.is at one.none) in
    let looked = looks_then _ _ _ IsAnyWord _ _ _ (HasNoneTo m c.loop.least c.args.high) i.looks none in
    record {
      sum = record {
        at = (sums_range (looks_map _ _ _ IsAnyWord _ _ (IsTotal m c.args.low c.args.high c.loop.total)
            (λ s h. total_none c.args.low c.args.high h.0 h.1) looked)).at;
      };
      order = each_since c.args.w.now (one.goes_on.shape ∙ i.shape) (each_looked _ _ _ _ looked (HasMap (tree_part m)) (each_now c.requires.order));
      frame = looks_only g.W.Words g.W.Shape.Shape _ _ IsAnyWord _ looked;
      reads = record { at = reads_on i.looks none i.from i.reads (reads_since i.shape one.reads) };
      goes_on = goes_as (goes_then (goes i.shape i.origin i.looks.begins i.stop i.sound) one.goes_on) (search rules);
    }

pub returns-then-entry-high : goal.returns-then-entry-high
returns-then-entry-high g c =
    let m = c.args.map.now in
    let i = c.loop.invariant in
    let e = c.in-Some.entry in
    let one = c.in_ok-next_entry.ensures in
    let next = looks_since g.W.Words g.W.Shape.Shape i.shape (rw c.in-Some.is at one.next) in
    let le = rw c.in-Some.is at one.high in
    let looked = looks_then _ _ _ IsAnyWord _ _ _ (IsNext m c.loop.least e.key e.value) i.looks next in
    rw c.from-total.ensures (record {
      sum = record {
        at = (sums_range (looks_map _ _ _ IsAnyWord _ _ (IsTotal m c.args.low c.args.high (c.loop.total + e.value))
            (λ s h. total_high c.args.low c.args.high (summed_more c.args.low c.args.high h.0 h.1 i.from le) (omega (arith, c.if-entry-high.true)))
            looked)).at;
      };
      order = each_since c.args.w.now (one.goes_on.shape ∙ i.shape) (each_looked _ _ _ _ looked (HasMap (tree_part m)) (each_now c.requires.order));
      frame = looks_only g.W.Words g.W.Shape.Shape _ _ IsAnyWord _ looked;
      reads = record { at = reads_on i.looks next i.from i.reads (reads_since i.shape one.reads) };
      goes_on = goes_as (goes_then (goes i.shape i.origin i.looks.begins i.stop i.sound) one.goes_on) (search rules);
    })

pub overflow_add-least : goal.overflow_add-least
overflow_add-least g c =
    let le = rw c.in-Some.is at c.in_ok-next_entry.ensures.high in
    omega (arith, c.if-entry-high.false, c.ranges.high.fits)

pub loop-preserved : goal.loop-preserved
loop-preserved g c =
    let m = c.args.map.now in
    let i = c.loop.invariant in
    let e = c.in-Some.entry in
    let goes = c.in_ok-next_entry.ensures.goes_on in
    let next = rw c.in-Some.is at c.in_ok-next_entry.ensures.next in
    let le = rw c.in-Some.is at c.in_ok-next_entry.ensures.high in
    let looked = looks_since g.W.Words g.W.Shape.Shape i.shape next in
    let from = rw c.in-Some.is at c.in_ok-next_entry.ensures.low in
    let small = rw c.in-Some.is at c.in_ok-next_entry.ensures.small in
    rw c.from-total.ensures (record {
      shape = goes.shape ∙ i.shape;
      origin = goes.origin ∙ i.origin;
      stop = goes.stops;
      sound = goes.sound;
      from = omega (arith, i.from);
      bound = omega (arith, i.bound);
      looks = looks_map _ _ _ IsAnyWord _ _ _ (λ s h. summed_more c.args.low c.args.high
          h.0 h.1 i.from le)
          (looks_then _ _ _ IsAnyWord _ _ _ (IsNext m c.loop.least e.key e.value) i.looks looked);
      reads = reads_on i.looks looked i.from i.reads
          (reads_since i.shape c.in_ok-next_entry.ensures.reads);
      walk = rw c.in-Some.is at c.in_ok-next_entry.ensures.walk;
    })

pub returns-clause-sum : goal.returns-clause-sum
returns-clause-sum g c =
    let m = c.args.map.now in
    let i = c.loop.invariant in
    record {
      at = (sums_range
          (looks_map _ _ _ IsAnyWord _ _ (IsTotal m c.args.low c.args.high c.loop.total)
          (λ s h. total_all c.args.low c.args.high h (omega (arith, c.loop-test.false))) i.looks)).at;
    }

pub returns-clause-order : goal.returns-clause-order
returns-clause-order g c =
    let m = c.args.map.now in
    let i = c.loop.invariant in
    each_since c.args.w.now i.shape (each_looked _ _ _ _ i.looks (HasMap (tree_part m))
    (each_now c.requires.order))

pub returns-clause-frame : goal.returns-clause-frame
returns-clause-frame g c = looks_only g.W.Words g.W.Shape.Shape _ _ IsAnyWord _ c.loop.invariant.looks

pub returns-clause-reads : goal.returns-clause-reads
returns-clause-reads g c = record { at = c.loop.invariant.reads }
