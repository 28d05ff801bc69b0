use Rattle.txn_commit.proofs.Common.{◌≤◌, ◌+◌, None, count_writes, GoneBack, DidEvents, IsSoundAttempt}
use Rattle.txn_commit.proofs.attempt.go_back.Given as goal

-- the writes from this place on are taken back
abbrev pub invariant-loop-place : goal.invariant-loop-place
invariant-loop-place g l = record {
  to : l.to ≤ l.place;
  place : l.place ≤ count_writes l.initial.pass.view.trace;
  sound : IsSoundAttempt g.S.Shape.word_count g.S.Shape.good l.desk l.began.value l.pass l.undo None;
  back : GoneBack (g.S.Shape.word_count l.desk.shape) (g.S.Shape.good l.desk.shape) l.place l.initial.pass.view.trace l.pass.view.trace;
  events : DidEvents l.initial.pass.view l.pass.view;
  spare : l.initial.undo.spare + l.place ≤ l.undo.spare + count_writes l.initial.pass.view.trace;
}

abbrev pub decreases-loop-place : goal.decreases-loop-place
decreases-loop-place g l = l.place
