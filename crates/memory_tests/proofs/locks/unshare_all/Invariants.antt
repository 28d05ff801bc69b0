use Rattle.std.proofs.Common.{◌≡◌, ◌≢◌, []}
use Rattle.history_model.specs.declared.view.Phase.TheVariants.{Idle}
use Rattle.memory_tests.proofs.locks.unshare_all.Given as goal

-- nothing is left to undo, the call has begun, and the words are the same
abbrev pub invariant-loop : goal.invariant-loop
invariant-loop l = (l.pass.table ≡ l.desk.table) × (l.pass.view.undo ≡ []) × (l.pass.view.phase ≢ Idle)
    × (l.pass.view.base ≡ l.initial.pass.view.base)
