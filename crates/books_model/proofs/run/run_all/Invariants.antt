use Rattle.books_model.proofs.Common.{◌≡◌, ◌+◌, ◌≤◌, length, All, iter_rest, IsOperationFor, operations_of, after_values, run_parts}
use Rattle.books_model.specs.declared.limits.TheConstants.{MOST_OPERATIONS}
use Rattle.books_model.proofs.run.run_all.Given as goal

-- the values so far and the run of the parts that are left are the whole run
abbrev pub invariant-loop-part : goal.invariant-loop-part
invariant-loop-part l = record {
  left : l.number + length (operations_of (iter_rest l.part-iterator)) ≤ MOST_OPERATIONS + 1;
  each : All (IsOperationFor l.draft.before) (operations_of (iter_rest l.part-iterator));
  run : after_values l.values (run_parts l.number (iter_rest l.part-iterator) l.draft.after) ≡ run_parts 1 l.fn.script l.fn.draft.after;
  before : l.draft.before ≡ l.fn.draft.before;
}
