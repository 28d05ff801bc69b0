use Rattle.txn_commit.proofs.Common.{◌≡◌, ◌≢◌, ◌⊎◌, ◌<◌, [], IfSome, LOCKS, Idle, Releasing, HasClaim, IsLeast, Releases}
use Rattle.txn_commit.proofs.Releasing.{turns_left}
use Rattle.txn_commit.proofs.release.release_claims.Given as goal

-- the least claim is the next to go
abbrev pub invariant-loop-next : goal.invariant-loop-next
invariant-loop-next g l = record {
  table : l.pass.table ≡ l.desk.table;
  released : Releases l.initial.pass.view l.pass.view;
  undone : (l.pass.view.undo ≡ []) ⊎ (l.pass.view.phase ≡ Releasing);
  begun : l.pass.view.phase ≢ Idle;
  near : IfSome l.next (λ k. k < LOCKS);
  least : IsLeast (HasClaim l.pass.view) l.next;
}

abbrev pub decreases-loop-next : goal.decreases-loop-next
decreases-loop-next g l = turns_left l.next
