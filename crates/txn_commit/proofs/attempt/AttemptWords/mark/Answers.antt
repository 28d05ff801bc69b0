use Rattle.txn_commit.proofs.Common.{◌∙◌}
use Rattle.txn_commit.proofs.Attempts.{noted_count}
use Rattle.txn_commit.proofs.attempt.AttemptWords.mark.Goals as goal

pub returns-clause-writes : goal.returns-clause-writes
returns-clause-writes g c =
    let old = c.args.self.now in
    c.len.ensures ∙ noted_count g.S.Shape.word_count g.S.Shape.good old.desk.now old.began.value old.pass.now old.undo old.halt c.requires.sound
