use Rattle.txn_threads.proofs.Common.{sym, subst, IsCoherent, IsLegalInEachOrder}
use Rattle.word_table.proofs.Common.{IsGood}
use Rattle.txn_threads.proofs.Working.{all_passes, left_good}
use Rattle.txn_threads.proofs.run.run_clients.Goals as goal

pub close-requires : goal.close-requires
close-requires g c =
    let served = c.in_ok-clients.ensures.worked in
    record { all = all_passes c.in_ok-desk.desk c.in_ok-clients.passes.items served.of_desk served.seats }

pub returns-clause-good : goal.returns-clause-good
returns-clause-good g c =
    let shape = g.C.Shape.Shape in
    let desk = c.in_ok-desk.desk in
    let opened = c.in_ok-desk.ensures.desk in
    let closed = c.in-Ok.ensures in
    let Good = IsGood (shape.word_count c.args.shape) (shape.good c.args.shape) in
    left_good Good c.in-Ok.closed (subst Good (sym closed.desk.0) (subst Good (sym opened.0) c.requires.good))
    (subst (λ s. IsCoherent (IsGood (shape.word_count s) (shape.good s)) c.in-Ok.closed) opened.2 closed.coherent)
    (subst (λ s. IsLegalInEachOrder (IsGood (shape.word_count s) (shape.good s)) c.in-Ok.closed) opened.2 closed.legal)

pub returns-clause-worked : goal.returns-clause-worked
returns-clause-worked g c =
    let desk = c.in_ok-desk.desk in
    let passes = c.in_ok-clients.passes.items in
    let served = c.in_ok-clients.ensures.worked in
    let closed = c.in-Ok.ensures in
    record {
      desk = desk;
      base_is = sym closed.desk.0;
      seats_are = sym closed.desk.1;
      shape_is = sym closed.desk.2;
      passes = passes;
      left = served.left;
      count = served.count;
      each = served.each;
      seen = closed.seen;
    }
