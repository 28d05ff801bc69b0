use Rattle.books_report.proofs.Common.{◌≡◌, ◌+◌, length, iter_rest, run_from}
use Rattle.books_report.proofs.AnyStore.Runs.{after_values}
use Rattle.books_report.proofs.stores.plain.run_operations.Given as goal

-- the values so far and the run of the operations that are left are the whole run
abbrev pub invariant-loop-operation : goal.invariant-loop-operation
invariant-loop-operation g l =
    let p = g.P.PlainStore in
    record {
      left : l.number + length (iter_rest l.operation-iterator) ≡ 1 + length l.fn.script;
      run : after_values l.values (run_from (p.step (p.fixed l.store)) l.number (iter_rest l.operation-iterator) (p.state l.store))
          ≡ run_from (p.step (p.fixed l.fn.store)) 1 l.fn.script (p.state l.fn.store);
      fixed : p.fixed l.store ≡ p.fixed l.fn.store;
    }
