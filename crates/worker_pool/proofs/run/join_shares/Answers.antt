use Rattle.worker_pool.proofs.Common.{◌∙◌, map, flat_map, ap, arith, length, into_iter_items, Share}
use Rattle.worker_pool.proofs.Yielded.{all_given, next_given, made_push, joined_push}
use Rattle.worker_pool.proofs.run.join_shares.Goals as goal

pub loop-share-preserved : goal.loop-share-preserved
loop-share-preserved c =
    let at = c.loop-share in
    let i = at.invariant in
    let w = c.in-Some.share in
    let steps = c.in-Some.ensures.steps in
    let e = c.in_ok-add_share.ensures in
    record {
      all_come = next_given at.yielded steps.0 i.all_come;
      left = omega (arith, i.left, steps.1, ap length steps.0);
      passes = made_push (λ (share : Share). share.pass) at.yielded at.passes.items c.add_share.new.passes.items w e.pass i.passes;
      done = joined_push (λ (share : Share). share.done.items) at.yielded at.all.items c.add_share.new.all.items w e.done i.done;
    }

pub returns : goal.returns
returns c =
    let at = c.loop-share in
    let i = at.invariant in
    let whole = i.all_come ∙ c.into_iter-share-iterator.ensures.into_iter_gives.0 in
    let all = all_given (into_iter_items at.share-iterator) (omega (arith, i.left, c.in-None.ensures.steps.0)) whole in
    record {
      passes = i.passes ∙ ap (map (λ (share : Share). share.pass)) all;
      done = i.done ∙ ap (flat_map (λ (share : Share). share.done.items)) all;
    }
