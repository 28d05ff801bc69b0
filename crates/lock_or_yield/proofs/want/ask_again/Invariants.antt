use Rattle.lock_or_yield.proofs.Common.{◌≡◌, [], Running, lock_of_word, Asks, WentOn, AsksTo}
use Rattle.lock_or_yield.proofs.want.ask_again.Given as goal

-- the call goes on, and nobody is left to judge
abbrev pub invariant-loop : goal.invariant-loop
invariant-loop g l = record {
  table : l.pass.table ≡ l.desk.table;
  phase : l.pass.view.phase ≡ Running;
  judged : l.pass.view.met ≡ [];
  base : l.pass.view.base ≡ l.initial.pass.view.base;
  asks : Asks l.a l.initial.pass.view l.pass.view;
  locks : AsksTo l.intent (lock_of_word l.a) l.initial.pass.view l.pass.view;
  went : WentOn l.initial.pass.view l.pass.view;
}
