use Rattle.worker_pool.proofs.Common.{◌∷◌, [], length, refl, sym, ap, ◌∙◌, subst, arith, number, had, IsQueueOf}
use Rattle.worker_pool.proofs.Making.{made_as, made_nothing, next_then, same_next}
use Rattle.worker_pool.proofs.Running.{ran_nothing, same_had}
use Rattle.worker_pool.proofs.worker.Worker.run.Goals as goal

pub loop-init : goal.loop-init
loop-init g c =
    let s = c.requires.seated in
    let fresh = c.requires.fresh in
    let pass = c.args.pass.now in
    let w = c.args.self.now in
    record {
      queue = s.queue;
      dealt = refl;
      next = same_next fresh.idle;
      made = made_nothing c.args.work.now.desk.now c.args.work.now.input.now (number pass.view) pass w.done.items fresh.of_table fresh.idle
          (c.who.ensures.one ∙ ap (λ n. n ∷ []) c.who.ensures.number) fresh.no_call fresh.nothing_seen s.nothing_done;
      run = λ few. ran_nothing c.args.work.now.input.now (had w.queue) 0 s.unused.none w.done.items s.nothing_done;
      count = omega (arith, ap (λ l. length l) s.nothing_done);
    }

pub run_caller-requires-clause-made : goal.run_caller-requires-clause-made
run_caller-requires-clause-made g c = made_as (sym c.loop.invariant.next.who_stays) c.loop.invariant.made

pub loop-preserved : goal.loop-preserved
loop-preserved g c =
    let i = c.loop.invariant in
    let n = c.in-Some-next.ensures in
    let e = c.in_ok-run_caller.ensures in
    record {
      queue = subst (λ k. IsQueueOf c.args.work.now.stealers.now k c.next-in-loop.new.self) i.queue.seat_is n.queue;
      dealt = n.dealt ∙ i.dealt;
      next = next_then i.next e.next;
      made = made_as i.next.who_stays e.made;
      run = e.run (had c.loop.self.queue) (had c.next-in-loop.new.self) n.some i.run;
      count = omega (arith, e.count, i.count, n.count);
    }

pub returns-in_default : goal.returns-in_default
returns-in_default g c =
    let i = c.loop.invariant in
    let n = c.in_default.ensures in
    record {
      next = i.next;
      worked = record {
        dealt = n.dealt ∙ i.dealt;
        part = λ seat. record {
          queue = subst (λ k. IsQueueOf c.args.work.now.stealers.now k c.next-in-loop.new.self) (i.queue.seat_is ∙ seat) n.queue;
          made = made_as (sym i.next.who_stays) i.made;
          run = same_had c.args.work.now.input.now (had c.loop.self.queue) (had c.next-in-loop.new.self) c.loop.self.done.items n.none i.run;
          few = omega (arith, i.count, i.queue.count);
        };
      };
    }

pub returns-in_err-run_caller-clause-next : goal.returns-in_err-run_caller-clause-next
returns-in_err-run_caller-clause-next g c = next_then c.loop.invariant.next c.run_caller.ensures.next
