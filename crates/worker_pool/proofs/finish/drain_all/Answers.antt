use Rattle.worker_pool.proofs.Common.{◌≡◌, ◌∙◌, ◌+◌, ap, length, arith, subst, refl, into_iter_items, worker_flavor, times, HasAll, owners_dealt, owners_took}
use Rattle.worker_pool.proofs.Draining.{drained_push, next_has}
use Rattle.worker_pool.proofs.Yielded.{next_given, all_given}
use Rattle.worker_pool.proofs.finish.drain_all.Goals as goal

pub loop-owner-init : goal.loop-owner-init
loop-owner-init g c = record { all_come = refl; len_is = omega arith; emptied = λ x. omega arith }

pub drain-requires-clause-all : goal.drain-requires-clause-all
drain-requires-clause-all g c =
    let at = c.loop-owner in
    next_has HasAll at.yielded c.in-Some.ensures.steps.0
    (at.invariant.all_come ∙ c.into_iter-owner-iterator.ensures.into_iter_gives.0) c.requires.all

pub drain-requires-clause-fifo : goal.drain-requires-clause-fifo
drain-requires-clause-fifo g c =
    let at = c.loop-owner in
    next_has (λ w. worker_flavor w ≡ 0) at.yielded c.in-Some.ensures.steps.0
    (at.invariant.all_come ∙ c.into_iter-owner-iterator.ensures.into_iter_gives.0) c.requires.fifo

pub loop-owner-preserved : goal.loop-owner-preserved
loop-owner-preserved g c =
    let at = c.loop-owner in
    let i = at.invariant in
    let steps = c.in-Some.ensures.steps in
    record {
      all_come = next_given at.yielded steps.0 i.all_come;
      len_is = omega (arith, i.len_is, steps.1, ap (λ l. length l) steps.0);
      emptied = λ x. drained_push at.yielded c.in-Some.owner x (times x c.args.left.now.items) (times x at.left.items)
          (times x c.drain.new.left.items) (i.emptied x) (c.in_ok-drain.ensures x);
    }

pub returns : goal.returns
returns g c =
    let at = c.loop-owner in
    let i = at.invariant in
    let whole = i.all_come ∙ c.into_iter-owner-iterator.ensures.into_iter_gives.0 in
    let all = all_given (into_iter_items at.owner-iterator) (omega (arith, i.len_is, c.in-None.ensures.steps.0)) whole in
    λ x. subst (λ l. owners_took l x + times x at.left.items ≡ owners_dealt l x + times x c.args.left.now.items) all (i.emptied x)
