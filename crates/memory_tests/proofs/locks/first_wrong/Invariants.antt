use Rattle.std.proofs.Common.{◌≡◌, ◌≢◌, [], length}
use Rattle.history_model.specs.declared.view.Phase.TheVariants.{Idle}
use Rattle.memory_tests.proofs.locks.first_wrong.Given as goal

-- either pass may make another call
abbrev pub invariant-loop-number : goal.invariant-loop-number
invariant-loop-number l = record {
  desk : (l.zero.table ≡ l.desk.table) × (l.one.table ≡ l.desk.table);
  zero : (l.zero.view.undo ≡ []) × (l.zero.view.phase ≢ Idle);
  one : (l.one.view.undo ≡ []) × (l.one.view.phase ≢ Idle);
  words : (length l.zero.view.base ≡ 1030) × (length l.one.view.base ≡ 1030);
}
