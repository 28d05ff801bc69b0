use Rattle.worker_pool.proofs.Common.{◌≡◌, ◌∷◌, ◌++◌, map, length, refl, sym, ap, subst, ◌∙◌, arith, [], length-append, ◌<◌, All-push, All-same, length-map}
use Rattle.worker_pool.proofs.Common.{map_push, into_iter_items, WorkerClient, Queue, Worker, IsNewRow, IsQueueOf, worker_of, IsSeated}
use Rattle.std.proofs.lemmas.List.Elements.{All-pop}
use Rattle.worker_pool.proofs.Ending.{RowOf}
use Rattle.worker_pool.proofs.Opening.{new_queue, new_unused}
use Rattle.worker_pool.proofs.Seating.{next_owner, numbered_push, one_has}
use Rattle.worker_pool.proofs.Yielded.{next_given}
use Rattle.worker_pool.proofs.run.seat_workers.Goals as goal

pub loop-own-preserved : goal.loop-own-preserved
loop-own-preserved g c =
    let stealers = c.args.work.now.stealers.now in
    let owners = c.args.owners.items in
    let at = c.loop-own in
    let i = at.invariant in
    let own = c.in-Some.own in
    let row = c.in-Some-pop.passes in
    let Client = WorkerClient g.row.G.Denot in
    let IsSat = λ (x : Client). IsSeated stealers (worker_of x.worker) in
    let IsShared = λ (x : Client). (x.shape ≡ c.args.work.now.shape) × (x.stealers.now ≡ stealers) × (x.input.now ≡ c.args.work.now.input.now) in
    let queue : Queue = record { own = own; passes = row; seat = c.len.result; count = 0 } in
    let worker : Worker = record { queue = queue; done = c.new-in-loop-own.result; readers = c.in_ok-readers.readers } in
    let client : Client = record {
      worker = c.new-in-loop-own-2.result;
      shape = c.args.work.now.shape;
      stealers = c.args.work.now.stealers;
      input = c.args.work.now.input;
      gate = c.args.work.now.gate;
    } in
    let made : worker_of client.worker ≡ worker = c.new-in-loop-own-2.ensures in
    let more = c.in_ok-push.ensures.items in
    let steps = c.in-Some.ensures.steps in
    let whole = i.all_come ∙ c.into_iter-own-iterator.ensures.into_iter_gives.0 in
    let Rows = λ (r : RowOf). IsNewRow owners r.items in
    let left = All-pop Rows at.rows.items c.pop.new.self.items c.pop.result c.pop.ensures.items i.rows in
    let its = one_has Rows c.pop.result row c.in-Some-pop.is left.1 in
    let here = next_owner at.yielded (into_iter_items at.own-iterator) (into_iter_items c.next.new.self) owners own steps.0 whole in
    let within : length at.yielded < length owners =
    omega (arith, ap (λ l. length l) whole, length-append at.yielded (into_iter_items at.own-iterator), ap (λ l. length l) steps.0) in
    let many : length at.clients.items ≡ length at.yielded =
    sym (length-map at.clients.items (λ (x : Client). (worker_of x.worker).queue.own)) ∙ ap (λ l. length l) i.owners in
    let seat : c.len.result ≡ length at.yielded = omega (arith, c.len.ensures, at.clients.ok, many) in
    let is_queue = new_queue stealers owners (length owners) (length at.yielded) queue c.requires.shown
    refl c.requires.few c.requires.free its here within seat refl in
    let unused = new_unused stealers owners (length owners) (length at.yielded) queue c.requires.shown
    refl c.requires.few c.requires.free its here within refl in
    record {
      all_come = next_given at.yielded steps.0 i.all_come;
      left = omega (arith, i.left, steps.1, ap (λ l. length l) steps.0);
      level = omega (arith, i.level, steps.1, ap (λ l. length l) c.in-Some-pop.ensures.items, length-append c.pop.new.self.items (row ∷ []));
      rows = left.0;
      seated = All-same IsSat _ _ more
          (All-push IsSat at.clients.items client i.seated
          (subst (λ (w : Worker). IsSeated stealers w) (sym made) (record {
            queue = subst (λ n. IsQueueOf stealers n queue) (sym seat) is_queue;
            unused = unused;
            nothing_done = c.new-in-loop-own.ensures.items;
          })));
      shared = All-same IsShared _ _ more (All-push IsShared at.clients.items client i.shared (refl, refl, refl));
      seats = numbered_push (λ (x : Client). (worker_of x.worker).queue.seat) at.clients.items c.push.new.self.items client more
          (ap (λ (w : Worker). w.queue.seat) made ∙ seat ∙ sym many) i.seats;
      owners = ap (map (λ (x : Client). (worker_of x.worker).queue.own)) more
          ∙ map_push (λ (x : Client). (worker_of x.worker).queue.own) at.clients.items client
          ∙ ap (λ l. l ++ (worker_of client.worker).queue.own ∷ []) i.owners ∙ ap (λ (w : Worker). at.yielded ++ w.queue.own ∷ []) made;
    }
