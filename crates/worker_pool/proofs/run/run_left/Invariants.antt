use Rattle.worker_pool.proofs.Common.{◌≡◌, ◌+◌, ◌*◌, ◌++◌, ◌≤◌, ℕ, length, into_iter_items, into_iter_len, MOST_CALLERS, MOST_SCRIPTS, times, HasMade, RunsEach}
use Rattle.worker_pool.proofs.Common.{seat_of}
use Rattle.worker_pool.proofs.run.run_left.Given as goal

-- the callers so far were run
abbrev pub invariant-loop-caller : goal.invariant-loop-caller
invariant-loop-caller g l = record {
  all_come : l.yielded ++ into_iter_items l.caller-iterator ≡ into_iter_items l.initial.caller-iterator;
  len_is : into_iter_len l.caller-iterator ≡ length (into_iter_items l.caller-iterator);
  who : l.share.pass.view.who ≡ l.fn.share.pass.view.who;
  made : HasMade l.work.desk.now l.work.input.now (seat_of l.fn.share) l.share.pass l.share.done.items;
  count : length l.share.done.items ≤ MOST_CALLERS * MOST_SCRIPTS + length l.yielded * MOST_SCRIPTS;
  run : (h more : ℕ → ℕ) → ((x : ℕ) → more x ≡ h x + times x l.yielded)
      → RunsEach l.work.input.now h l.fn.share.done.items → RunsEach l.work.input.now more l.share.done.items;
}
