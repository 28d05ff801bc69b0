use Rattle.transfers.proofs.Common.{◌≢◌, ◌+◌, ◌<◌, ◌≤◌, ◌^◌, sym, arith}
use Rattle.transfers.proofs.Transferring.{too_little, has_room, keeps, stays_good}
use Rattle.transfers.proofs.transfer.TransferJob.run.Goals as goal

pub returns-then-held-amount-clause-meaning : goal.returns-then-held-amount-clause-meaning
returns-then-held-amount-clause-meaning g c =
    let job = c.args.self.now in
    too_little job.vault.words job.vault.total job.from job.to job.amount c.in_ok-held.held _ _ c.requires.fresh
    c.in_ok-held.ensures.value c.if-held-amount.true

pub overflow_add-target : goal.overflow_add-target
overflow_add-target g c =
    let job = c.args.self.now in
    let differ : job.to ≢ job.from = λ e. c.if-from-to.false (sym e) in
    let enough : job.amount ≤ c.in_ok-held.held = omega arith in
    let room : c.in_ok-target.target + job.amount < 2 ^ 64 =
    has_room job.vault.words job.vault.total job.from job.to job.amount c.in_ok-held.held _ _ c.requires.fresh
    c.in_ok-held.ensures.value c.in_ok-target.target _ c.in_ok-target.ensures.value differ enough c.some_fits.ensures.some in
    omega (arith, room)

pub returns-clause-meaning : goal.returns-clause-meaning
returns-clause-meaning g c =
    let job = c.args.self.now in
    let differ : job.to ≢ job.from = λ e. c.if-from-to.false (sym e) in
    let enough : job.amount ≤ c.in_ok-held.held = omega arith in
    keeps job.vault.words job.vault.total job.from job.to job.amount c.in_ok-held.held _ _ c.requires.fresh
    c.in_ok-held.ensures.value c.in_ok-target.target _ c.in_ok-target.ensures.value differ enough _ _
    c.in_ok-write.ensures.value c.in_ok-write-2.ensures.value

pub returns-clause-good : goal.returns-clause-good
returns-clause-good g c =
    let job = c.args.self.now in
    let differ : job.to ≢ job.from = λ e. c.if-from-to.false (sym e) in
    let enough : job.amount ≤ c.in_ok-held.held = omega arith in
    λ kept. stays_good job.vault.words job.vault.total job.from job.to job.amount c.in_ok-held.held _ _ c.requires.fresh
    c.in_ok-held.ensures.value c.in_ok-target.target _ c.in_ok-target.ensures.value differ enough _ _
    c.in_ok-write.ensures.value c.in_ok-write-2.ensures.value
