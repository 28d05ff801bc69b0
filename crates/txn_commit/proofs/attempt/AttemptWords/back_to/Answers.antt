use Rattle.txn_commit.proofs.Common.{Option, sym, subst, arith, Halt, IsSoundAttempt}
use Rattle.txn_commit.proofs.Attempts.{memory_sound, not_halted}
use Rattle.txn_commit.proofs.attempt.AttemptWords.back_to.Goals as goal

pub go_back-requires : goal.go_back-requires
go_back-requires g c =
    let old = c.args.self.now in record {
      mark = c.requires.mark;
      sound =
          subst (λ (h : Option Halt). IsSoundAttempt g.S.Shape.word_count g.S.Shape.good old.desk.now old.began.value
          old.pass.now old.undo h) (not_halted old.halt c.requires.going) c.requires.sound;
    }

pub returns-in-Ok-clause-sound : goal.returns-in-Ok-clause-sound
returns-in-Ok-clause-sound g c =
    let old = c.args.self.now in
    subst (λ (h : Option Halt). IsSoundAttempt g.S.Shape.word_count g.S.Shape.good old.desk.now old.began.value
    c.go_back.new.pass c.go_back.new.undo h) (sym (not_halted old.halt c.requires.going)) c.in-Ok.ensures.sound

pub returns-in-Err-clause-sound : goal.returns-in-Err-clause-sound
returns-in-Err-clause-sound g c =
    let old = c.args.self.now in
    memory_sound g.S.Shape.word_count g.S.Shape.good old.desk.now old.began.value c.go_back.new.pass c.go_back.new.undo
    c.in-Err.ensures.sound c.in-Err.ensures.full

pub returns-in-Err-clause-memory : goal.returns-in-Err-clause-memory
returns-in-Err-clause-memory g c room e = let short = c.in-Err.ensures.memory in absurd (omega (arith, short, room))
