use Rattle.worker_pool.proofs.Common.{◌≡◌, ◌+◌, ℕ, length, number, IsNext, HasMade, RanScripts}
use Rattle.worker_pool.proofs.worker.run_scripts.Given as goal

-- the caller's scripts before this index were run
abbrev pub invariant-loop-index : goal.invariant-loop-index
invariant-loop-index g l = record {
  next : IsNext l.fn.pass l.pass;
  made : HasMade l.work.desk.now l.work.input.now (number l.fn.pass.view) l.pass l.done.items;
  run : (h : ℕ → ℕ) → h l.caller ≡ 0 → RanScripts l.work.input.now h l.caller 0 l.fn.done.items → RanScripts l.work.input.now h l.caller l.index l.done.items;
  count : length l.done.items ≡ length l.fn.done.items + l.index;
}
