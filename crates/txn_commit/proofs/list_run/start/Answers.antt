use Rattle.txn_commit.proofs.Common.{◌≡◌, ◌∷◌, [], length, length-append, refl, ap, arith, All-push}
use Rattle.std.proofs.lemmas.List.Elements.{All-same}
use Rattle.txn_commit.specs.declared.list_worker.ListWorker.{ListWorker}
use Rattle.txn_commit.proofs.list_run.start.Goals as goal

pub loop-preserved : goal.loop-preserved
loop-preserved g c =
    let at = c.loop in
    let is = c.in_ok-push.ensures.items in
    let Worker = ListWorker g.row.L.Denot g.row.L-Shape.Denot g.row.L-Answer.Denot in
    let IsNew = λ (w : Worker). (w.lists.now ≡ c.args.lists.now) × (w.workers ≡ c.args.workers) × (w.done.items ≡ []) in
    let worker : Worker = record { lists = c.args.lists; workers = c.args.workers; done = c.new.result } in
    record {
      count = omega (arith, ap (λ l. length l) is, length-append at.started.items (worker ∷ []), at.invariant.count);
      new = All-same IsNew _ _ is (All-push IsNew at.started.items worker at.invariant.new (refl, refl, c.new.ensures.items));
    }
