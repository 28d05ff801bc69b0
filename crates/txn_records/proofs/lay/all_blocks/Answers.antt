use Rattle.txn_records.proofs.Common.{◌≡◌, ℕ, ◌-◌, refl, arith}
use Rattle.std.proofs.Common.{Ok}
use Rattle.std.proofs.lemmas.Iterator.{items_from_collect, YieldsList-from_range}
use Rattle.txn_records.proofs.lay.all_blocks.Goals as goal

pub returns : goal.returns
returns c =
    let all : c.args.blocks - 0 ≡ c.args.blocks = omega arith in
    items_from_collect {E = ℕ} (Ok c.in_ok-order.order) c.in_ok-order.ensures.ran (YieldsList-from_range 0 c.args.blocks c.args.blocks refl all)
