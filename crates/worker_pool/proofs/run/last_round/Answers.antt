use Rattle.worker_pool.proofs.Common.{ℕ, List, sym, subst, length, map-map, WorkerClient, Worker, dealt_to, IsDealtOut, worker_of}
use Rattle.worker_pool.proofs.Ending.{all_back, all_done, few_left, first_few, first_made, gathered}
use Rattle.worker_pool.proofs.run.last_round.Goals as goal

pub take_what_is_left-requires : goal.take_what_is_left-requires
take_what_is_left-requires g c =
    let r = c.requires in
    let e = c.in_ok-owners.ensures in
    let all = gathered _ _ r.ended r.some e.owners e.rows e.passes e.done in
    record { owners = (all_back all).0; rows = (all_back all).1 }

pub run_left-requires-clause-made : goal.run_left-requires-clause-made
run_left-requires-clause-made g c =
    let r = c.requires in
    let e = c.in_ok-owners.ensures in
    let all = gathered _ _ r.ended r.some e.owners e.rows e.passes e.done in
    first_made all c.index_mut.result.now c.index_mut.ensures.value

pub run_left-requires-clause-few : goal.run_left-requires-clause-few
run_left-requires-clause-few g c =
    let r = c.requires in
    let e = c.in_ok-owners.ensures in
    let all = gathered _ _ r.ended r.some e.owners e.rows e.passes e.done in
    first_few all c.index_mut.result.now c.index_mut.ensures.value

pub run_left-requires-clause-left : goal.run_left-requires-clause-left
run_left-requires-clause-left g c =
    let W = λ (x : WorkerClient g.row.G.Denot). worker_of x.worker in
    let r = c.requires in
    let e = c.in_ok-owners.ensures in
    let all = gathered _ _ r.ended r.some e.owners e.rows e.passes e.done in
    let dealt = subst (λ (l : List (List ℕ)). IsDealtOut (length c.args.work.now.input.now.callers) l c.args.left.items)
    (sym (map-map (λ (worker : Worker). dealt_to worker.queue) W c.args.clients.items)) r.dealt in
    few_left all c.args.left.items c.take_what_is_left.new.left.items c.in_ok-take_what_is_left.ensures dealt r.fit.valid

pub returns : goal.returns
returns g c =
    let W = λ (x : WorkerClient g.row.G.Denot). worker_of x.worker in
    let r = c.requires in
    let e = c.in_ok-owners.ensures in
    let all = gathered _ _ r.ended r.some e.owners e.rows e.passes e.done in
    let ran = c.in_ok-run_left.ensures in
    let dealt = subst (λ (l : List (List ℕ)). IsDealtOut (length c.args.work.now.input.now.callers) l c.args.left.items)
    (sym (map-map (λ (worker : Worker). dealt_to worker.queue) W c.args.clients.items)) r.dealt in
    all_done all c.args.left.items c.take_what_is_left.new.left.items c.in_ok-take_what_is_left.ensures dealt
    c.index_mut.result.now c.run_left.new.share c.index_mut.ensures.value ran.made ran.number ran.run
