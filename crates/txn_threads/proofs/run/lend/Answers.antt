use Rattle.txn_threads.proofs.Common.{◌≡◌, All, length, get_or, sym, ap, subst, arith, HaveWorkedAt, AreParts, IsReady, HasEnded}
use Rattle.std.proofs.lemmas.Result.{IfOk-weaker}
use Rattle.txn_threads.proofs.Seating.{all_ready}
use Rattle.txn_threads.proofs.Ending.{all_worked}
use Rattle.txn_threads.proofs.Yielded.{written_back}
use Rattle.txn_threads.proofs.run.lend.Goals as goal

pub work_all-requires-clause-ready : goal.work_all-requires-clause-ready
work_all-requires-clause-ready g c κs within =
    subst (λ l. All (IsReady g.C.Client.shape g.C.Client.can_begin c.args.desk.now) l) (sym c.as_mut_slice.ensures.value)
    (all_ready g.C.Client.shape g.C.Client.can_begin c.args.desk.now c.in_ok-seats.seats.items c.args.clients.items c.args.passes.items
    c.in_ok-seats.ensures.clients c.in_ok-seats.ensures.passes c.requires.new c.requires.seats c.requires.ready)

pub returns : goal.returns
returns g c =
    let does = g.C.Client.does in
    let desk = c.args.desk.now in
    let old = c.in_ok-seats.seats.items in
    let new = c.work_all.new.seats in
    let value = c.as_mut_slice.ensures.value in
    let same : length new ≡ length old = omega (arith, c.work_all.auto.seats, ap (λ l. length l) value) in
    record {
      worked = IfOk-weaker c.part_all.result _ (λ ended. HaveWorkedAt does desk c.args.clients.items ended.0.items ended.1.items)
          (λ ended parts. all_worked does desk old new c.args.clients.items ended.0.items c.args.passes.items ended.1.items
          c.in_ok-seats.ensures.clients c.in_ok-seats.ensures.passes c.requires.new c.requires.seats same
          (λ k d lt. subst (λ l. HasEnded does desk (get_or l k d) (get_or new k d)) value
          (c.work_all.ensures.ended k d (omega (arith, lt, ap (λ l. length l) value))))
          (subst (λ l. AreParts l ended.0.items ended.1.items) (written_back _ new _ (omega (arith, same, c.in_ok-seats.seats.ok))) parts))
          c.part_all.ensures;
    }
