use Rattle.turnstile.proofs.Common.{◌≡◌}
use Rattle.txn.specs.Prelude.{Idle}
use Rattle.turnstile.proofs.visitors.VisitorClient.work.Given as goal

-- the pass is between calls, and made one for each turn
abbrev pub invariant-loop : goal.invariant-loop
invariant-loop g l = record {
  table : l.pass.table ≡ l.initial.pass.table;
  idle : l.pass.view.phase ≡ Idle;
  who : l.pass.view.who ≡ l.initial.pass.view.who;
  calls : l.pass.view.call ≡ l.counter;
}
