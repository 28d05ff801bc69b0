use Rattle.books_model.proofs.Common.{◌≡◌, ◌+◌, length, All, iter_rest, IsOperationFor, after_values, run_from}
use Rattle.books_model.proofs.run.run_operations.Given as goal

-- the values so far and the run of the operations that are left are the whole run
abbrev pub invariant-loop-operation : goal.invariant-loop-operation
invariant-loop-operation l = record {
  left : l.number + length (iter_rest l.operation-iterator) ≡ l.fn.first + length l.fn.operations;
  each : All (IsOperationFor l.draft.before) (iter_rest l.operation-iterator);
  run : after_values l.values (run_from l.number (iter_rest l.operation-iterator) l.draft.after)
      ≡ after_values l.fn.so_far (run_from l.fn.first l.fn.operations l.fn.draft.after);
  before : l.draft.before ≡ l.fn.draft.before;
}
