use Rattle.txn_books.proofs.Common.{◌≡◌, ◌+◌, length, All, None, iter_rest, after_values, run_from, IsOperationIn}
use Rattle.txn_books.proofs.OnBooks.Turning.{Turned}
use Rattle.txn_books.proofs.OnBooks.Scripted.{SoFar}
use Rattle.txn_books.proofs.job.run_operations.Given as goal

-- the values so far and the run of the operations that are left are the whole run
abbrev pub invariant-loop-operation : goal.invariant-loop-operation
invariant-loop-operation g l =
    let words = g.W.Words in
    record {
      origin : words.origin l.w ≡ words.origin l.fn.w;
      stop : words.stop l.w ≡ None;
      sound : words.is_sound l.w;
      left : l.number + length (iter_rest l.operation-iterator) ≡ l.fn.first + length l.fn.operations;
      each : All (IsOperationIn l.shape) (iter_rest l.operation-iterator);
      run : Turned words g.W.Shape.Shape l.shape l.fn.w l.w
          (SoFar (λ books. after_values l.fn.so_far (run_from l.fn.first l.fn.operations books)) l.values
          (run_from l.number (iter_rest l.operation-iterator)));
    }
