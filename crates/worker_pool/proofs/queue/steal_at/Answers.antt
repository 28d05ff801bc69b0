use Rattle.worker_pool.proofs.Fitting.{fits_after}
use Rattle.worker_pool.proofs.queue.steal_at.Goals as goal

pub returns-clause-fits : goal.returns-clause-fits
returns-clause-fits g c = fits_after c.args.stealers.now c.args.passes.now.items c.args.k c.index_mut.result.now
    c.steal.new.pass c.requires.fits c.requires.place c.index_mut.ensures.value c.steal.ensures.same c.steal.ensures.kept.0 c.steal.ensures.kept.1
