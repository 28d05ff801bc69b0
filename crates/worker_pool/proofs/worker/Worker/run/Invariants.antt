use Rattle.worker_pool.proofs.Common.{◌≡◌, ◌≤◌, ◌*◌, length, number, MOST_SCRIPTS, IsNext, HasMade, RunsEach, dealt_to, had, IsQueueOf}
use Rattle.worker_pool.proofs.worker.Worker.run.Given as goal

-- all scripts of the callers that were taken so far were run
abbrev pub invariant-loop : goal.invariant-loop
invariant-loop g l = record {
  queue : IsQueueOf l.work.stealers.now l.fn.self.queue.seat l.self.queue;
  dealt : dealt_to l.self.queue ≡ dealt_to l.fn.self.queue;
  next : IsNext l.fn.pass l.pass;
  made : HasMade l.work.desk.now l.work.input.now (number l.fn.pass.view) l.pass l.self.done.items;
  run : RunsEach l.work.input.now (had l.self.queue) l.self.done.items;
  count : length l.self.done.items ≤ l.self.queue.count * MOST_SCRIPTS;
}
