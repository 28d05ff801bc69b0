use Rattle.txn_books.proofs.Common.{◌≡◌, ◌≤◌, ◌+◌, length, All, None, iter_rest, operations_of, run_parts, IsOperationIn}
use Rattle.books_model.specs.declared.limits.TheConstants.{MOST_OPERATIONS}
use Rattle.txn_books.proofs.OnBooks.Turning.{Turned}
use Rattle.txn_books.proofs.OnBooks.Scripted.{SoFar}
use Rattle.txn_books.proofs.job.run_script.Given as goal

-- the values so far and the run of the parts that are left are the whole run
abbrev pub invariant-loop-part : goal.invariant-loop-part
invariant-loop-part g l =
    let words = g.W.Words in
    record {
      origin : words.origin l.w ≡ words.origin l.fn.w;
      stop : words.stop l.w ≡ None;
      sound : words.is_sound l.w;
      left : l.number + length (operations_of (iter_rest l.part-iterator)) ≤ MOST_OPERATIONS + 1;
      each : All (IsOperationIn l.shape) (operations_of (iter_rest l.part-iterator));
      run : Turned words g.W.Shape.Shape l.shape l.fn.w l.w (SoFar (run_parts 1 l.fn.script) l.values (run_parts l.number (iter_rest l.part-iterator)));
    }
