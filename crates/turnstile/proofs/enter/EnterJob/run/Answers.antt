use Rattle.turnstile.proofs.Common.{◌<◌, arith}
use Rattle.turnstile.proofs.Entering.{stays_out, comes_in, stays_good}
use Rattle.turnstile.proofs.enter.EnterJob.run.Goals as goal

pub returns-then-inside-limit-clause-meaning : goal.returns-then-inside-limit-clause-meaning
returns-then-inside-limit-clause-meaning g c =
    stays_out c.args.self.now.room.limit c.in_ok-inside.inside _ _ c.requires.fresh c.in_ok-inside.ensures.value c.if-inside-limit.true

pub returns-clause-meaning : goal.returns-clause-meaning
returns-clause-meaning g c =
    let limit = c.args.self.now.room.limit in
    let room : c.in_ok-inside.inside < limit = omega (arith, c.if-inside-limit.false) in
    comes_in limit c.in_ok-inside.inside _ _ c.requires.fresh c.in_ok-inside.ensures.value room _ c.in_ok-write.ensures.value

pub returns-clause-good : goal.returns-clause-good
returns-clause-good g c = λ kept.
    let limit = c.args.self.now.room.limit in
    let room : c.in_ok-inside.inside < limit = omega (arith, c.if-inside-limit.false) in
    stays_good limit c.in_ok-inside.inside _ _ c.requires.fresh c.in_ok-inside.ensures.value room _ c.in_ok-write.ensures.value
