use Rattle.worker_pool.proofs.Ended.{gathered_day, gathered_places, passes_all}
use Rattle.worker_pool.proofs.run.end_day.Goals as goal

pub close-requires : goal.close-requires
close-requires c = record { all = passes_all c.requires.done c.in_ok-passes.ensures.passes }

pub arrange-requires : goal.arrange-requires
arrange-requires c =
    let e = c.in_ok-passes.ensures in
    let closed = c.in-Ok.ensures in
    let places = gathered_places c.requires.done e.passes closed.desk closed.coherent closed.legal closed.records closed.seen e.done
    c.as_slice.ensures.value c.in_ok-places.ensures c.as_slice-2.ensures.value in
    record { within = places.within; once = places.once }

pub returns : goal.returns
returns c =
    let e = c.in_ok-passes.ensures in
    let closed = c.in-Ok.ensures in
    let end = gathered_day c.requires.done e.passes closed.desk closed.coherent closed.legal closed.records closed.seen e.done
    c.as_slice.ensures.value c.in_ok-places.ensures c.as_slice-2.ensures.value c.in_ok-done.ensures c.refused_changes_nothing.ensures c.requires.stands in
    record {
      desk = closed.desk;
      coherent = closed.coherent;
      legal = closed.legal;
      records = closed.records;
      day = end.0;
      whole = end.1;
    }
