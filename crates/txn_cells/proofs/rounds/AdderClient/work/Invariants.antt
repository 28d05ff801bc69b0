use Rattle.txn_cells.proofs.Common.{◌≡◌, HasRounds}
use Rattle.history_model.specs.declared.view.Phase.TheVariants.{Idle}
use Rattle.txn_cells.specs.contracts.numbers.U128Coded.TheImpl.{ghosts as numbers}
use Rattle.txn_cells.proofs.rounds.AdderClient.work.Given as goal

-- so many rounds were made
abbrev pub invariant-loop-round : goal.invariant-loop-round
invariant-loop-round g l = record {
  table : l.pass.table ≡ l.initial.pass.table;
  idle : l.pass.view.phase ≡ Idle;
  who : l.pass.view.who ≡ l.initial.pass.view.who;
  calls : l.pass.view.call ≡ l.round;
  made : HasRounds numbers l.caller l.round l.pass.view.seen;
}
