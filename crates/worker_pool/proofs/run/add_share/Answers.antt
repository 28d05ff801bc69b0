use Rattle.worker_pool.proofs.run.add_share.Goals as goal

pub returns : goal.returns
returns c = record {
  pass = c.in_ok-push.ensures.items;
  done = c.in_ok-append.ensures.items;
}
