use Rattle.txn_commit.proofs.Common.{refl, differ}
use Rattle.txn_commit.proofs.rollback.undo_unless.Goals as goal

pub returns-then-kept-clause-undone : goal.returns-then-kept-clause-undone
returns-then-kept-clause-undone g c = record { stays = λ _. refl; undone = λ off. absurd (differ c.args.kept c.if-kept.true off) }

pub returns-clause-undone : goal.returns-clause-undone
returns-clause-undone g c = record { stays = λ on. absurd (differ c.args.kept on c.if-kept.false); undone = λ _. c.undo_all.ensures.undone }
