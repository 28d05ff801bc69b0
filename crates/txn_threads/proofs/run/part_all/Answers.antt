use Rattle.txn_threads.proofs.Common.{◌≡◌, false, ap, arith, length, into_iter_items}
use Rattle.std.proofs.lemmas.List.Elements.{All-push}
use Rattle.txn_threads.proofs.Yielded.{one_given, made_push}
use Rattle.txn_threads.proofs.run.part_all.Goals as goal

pub loop-seat-preserved : goal.loop-seat-preserved
loop-seat-preserved g c =
    let at = c.loop-seat in
    let i = at.invariant in
    let seat = c.in-Some.seat in
    let steps = c.in-Some.ensures.steps in
    record {
      all_come = one_given at.yielded (into_iter_items at.seat-iterator) (into_iter_items c.next.new.self) _ seat steps.0 i.all_come;
      left = omega (arith, i.left, steps.1, ap length steps.0);
      none_failed = All-push (λ s. s.failed ≡ false) at.yielded seat i.none_failed c.if-failed.false;
      clients = made_push (λ s. s.client) at.yielded at.clients.items c.push.new.self.items seat c.in_ok-push.ensures.items i.clients;
      passes = made_push (λ s. s.pass) at.yielded at.passes.items c.push-in-loop-seat.new.self.items seat c.in_ok-push-2.ensures.items i.passes;
    }
