use Rattle.worker_pool.proofs.Common.{ap, map, ◌∙◌, map_push, Share}
use Rattle.worker_pool.proofs.run.add_worker.Goals as goal

pub returns : goal.returns
returns c =
    let old = c.args.all.now.shares.items in
    let share : Share = record { pass = c.args.pass; done = c.args.worker.done; readers = c.args.worker.readers } in
    let is = c.in_ok-push-3.ensures.items in
    record {
      owner = c.in_ok-push.ensures.items;
      row = c.in_ok-push-2.ensures.items;
      pass = ap (map (λ (s : Share). s.pass)) is ∙ map_push (λ (s : Share). s.pass) old share;
      done = ap (map (λ (s : Share). s.done.items)) is ∙ map_push (λ (s : Share). s.done.items) old share;
    }
