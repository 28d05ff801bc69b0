use Rattle.txn_commit.proofs.Common.{◌≡◌, ◌<◌, [], None, length, IsSoundAttempt, StaysInCall}
use Rattle.txn_commit.proofs.transaction.run_attempts.Given as goal

-- so many attempts of the call gave way so far, fewer than there are seats, and the next begins
abbrev pub invariant-loop-restarts : goal.invariant-loop-restarts
invariant-loop-restarts g l =
    let pass = l.attempt.pass.now in record {
      name : l.attempt.pass.ghost_name ≡ l.initial.attempt.pass.ghost_name;
      desk : l.attempt.desk.now ≡ l.initial.attempt.desk.now;
      sound : IsSoundAttempt g.S.Shape.word_count g.S.Shape.good l.attempt.desk.now l.attempt.began.value pass l.attempt.undo l.attempt.halt;
      began : l.attempt.began.value ≡ pass;
      going : l.attempt.halt ≡ None;
      fresh : pass.view.trace ≡ [];
      call : StaysInCall l.initial.attempt.pass.now.view pass.view;
      restarts : length pass.view.abandoned ≡ l.restarts;
      few : length pass.view.abandoned < l.initial.attempt.desk.now.seats;
    }
