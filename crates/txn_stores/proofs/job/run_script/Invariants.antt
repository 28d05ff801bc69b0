use Rattle.txn_stores.proofs.Common.{◌≡◌, ◌+◌, length, All, None, iter_rest}
use Rattle.txn_stores.proofs.Scripted.{SoFar}
use Rattle.txn_stores.proofs.Turning.{Leads, Turns}
use Rattle.txn_stores.proofs.job.run_script.Given as goal

-- the values so far and the run of the operations that are left are the whole run
abbrev pub invariant-loop-operation : goal.invariant-loop-operation
invariant-loop-operation g l =
    let words = g.W.Words in
    record {
      origin : words.origin l.w ≡ words.origin l.fn.w;
      stop : words.stop l.w ≡ None;
      sound : words.is_sound l.w;
      left : l.number + length (iter_rest l.operation-iterator) ≡ 1 + length l.fn.script;
      each : All (g.S.Store.is_operation l.shape) (iter_rest l.operation-iterator);
      run : Leads words g.W.Shape.Shape l.fn.w l.w
          (Turns (g.S.Store.stands l.shape)
          (SoFar (g.S.Store.stands l.shape) (g.S.Store.step l.shape) l.fn.script l.values l.number (iter_rest l.operation-iterator)));
    }
