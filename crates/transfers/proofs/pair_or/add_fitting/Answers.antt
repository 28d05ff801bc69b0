use Rattle.transfers.proofs.Common.{◌+◌, ◌<◌, ◌≤◌, ◌^◌, arith}
use Rattle.transfers.proofs.Fitting.{leads_fits, leads_not}
use Rattle.transfers.proofs.pair_or.add_fitting.Goals as goal

pub returns-then-by-v-clause-added : goal.returns-then-by-v-clause-added
returns-then-by-v-clause-added g c =
    let over : 2 ^ 64 ≤ c.in_ok-v.v + c.args.by = omega arith in
    record { at = (leads_not _ _ _ _ c.in_ok-v.v c.args.by c.in_ok-v.ensures.value over).at }

pub returns-clause-added : goal.returns-clause-added
returns-clause-added g c =
    let room : c.in_ok-v.v + c.args.by < 2 ^ 64 = omega arith in
    record { at = (leads_fits _ _ _ _ c.in_ok-v.v c.args.by c.in_ok-v.ensures.value _ c.in_ok-write.ensures.value room).at }
