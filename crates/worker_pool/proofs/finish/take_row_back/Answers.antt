use Rattle.worker_pool.proofs.Common.{arith}
use Rattle.worker_pool.proofs.Returning.{taking_more, taking_starts}
use Rattle.worker_pool.proofs.finish.take_row_back.Goals as goal

pub loop-pass-init : goal.loop-pass-init
loop-pass-init c = taking_starts c.args.owners.now.items c.args.row.items c.requires.guests c.requires.whole

pub loop-pass-preserved : goal.loop-pass-preserved
loop-pass-preserved c = taking_more c.args.owners.now.items c.loop-pass.owners.items c.args.row.items
    c.loop-pass.row.items c.pop.new.self.items c.len-k.result c.index_mut.result.now c.take_back.new.owner c.in-Some.pass
    c.in-Some.ensures.items (omega (arith, c.len-k.ensures, c.pop.new.self.ok)) c.index_mut.ensures.value
    c.take_back.ensures.same c.take_back.ensures.both c.loop-pass.invariant
