use Rattle.txn_commit.proofs.Common.{◌≡◌, ℕ, ◌≤◌, ◌<◌, RuleHolds, WaitedForCause}
use Rattle.txn_commit.proofs.transaction.wait_out.Given as goal

-- nothing but the number of looks at the cause changes, and at each look the cause was there
abbrev pub invariant-loop : goal.invariant-loop
invariant-loop g l = (l.pass.table ≡ l.initial.pass.table) × (l.pass.view ≡ record l.initial.pass.view { waits = l.pass.view.waits })
    × ((waits : ℕ) → l.initial.pass.view.waits ≤ waits → waits < l.pass.view.waits
    → WaitedForCause (RuleHolds g.S.Shape l.desk) l.desk.seats l.cause (record l.initial.pass.view { waits = waits }))
