use Rattle.std.proofs.Common.{◌≡◌}
use Rattle.history_model.specs.declared.view.Phase.TheVariants.{Idle}
use Rattle.memory_tests.proofs.transactions.make_calls.Given as goal

-- the pass is between two calls
abbrev pub invariant-loop-step : goal.invariant-loop-step
invariant-loop-step g l = record {
  desk : l.pass.table ≡ l.desk.table;
  idle : l.pass.view.phase ≡ Idle;
  who : l.pass.view.who ≡ l.initial.pass.view.who;
}
