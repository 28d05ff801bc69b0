use Rattle.worker_pool.proofs.Common.{◌≡◌, ◌∷◌, ◌++◌, ◌∙◌, [], map, reverse, ap, arith, length, length-append, WorkerClient, Share, Worker, worker_of}
use Rattle.worker_pool.proofs.Seating.{turned}
use Rattle.worker_pool.proofs.Yielded.{next_given, made_push}
use Rattle.worker_pool.proofs.run.results_of.Goals as goal

pub loop-client-preserved : goal.loop-client-preserved
loop-client-preserved g c =
    let Client = WorkerClient g.row.G.Denot in
    let at = c.loop-client in
    let i = at.invariant in
    let client = c.in-Some.client in
    let pass = c.in-Some-pop.pass in
    let after = c.pop.new.self.items in
    let steps = c.in-Some.ensures.steps in
    let e = c.in_ok-add_worker.ensures in
    let all = at.all in
    let more = c.add_worker.new.all in
    let is : c.into_inner.result ≡ worker_of client.worker = c.into_inner.ensures in
    record {
      all_come = next_given at.yielded steps.0 i.all_come;
      left = omega (arith, i.left, steps.1, ap length steps.0);
      level = omega (arith, i.level, steps.1, ap length c.in-Some-pop.ensures.items, length-append after (pass ∷ []));
      owners = made_push (λ (x : Client). (worker_of x.worker).queue.own) at.yielded all.owners.items more.owners.items client
          (e.owner ∙ ap (λ (v : Worker). all.owners.items ++ v.queue.own ∷ []) is) i.owners;
      rows = made_push (λ (x : Client). (worker_of x.worker).queue.passes) at.yielded all.rows.items more.rows.items client
          (e.row ∙ ap (λ (v : Worker). all.rows.items ++ v.queue.passes ∷ []) is) i.rows;
      passes = ap (λ l. l ++ reverse after) e.pass
          ∙ next_given (map (λ (share : Share). share.pass) all.shares.items)
          (turned at.passes.items after pass c.in-Some-pop.ensures.items) i.passes;
      done = made_push (λ (x : Client). (worker_of x.worker).done.items) at.yielded (map (λ (share : Share). share.done.items) all.shares.items)
          (map (λ (share : Share). share.done.items) more.shares.items) client
          (e.done ∙ ap (λ (v : Worker). map (λ (share : Share). share.done.items) all.shares.items ++ v.done.items ∷ []) is) i.done;
    }
