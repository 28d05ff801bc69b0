use Rattle.worker_pool.proofs.Common.{arith}
use Rattle.worker_pool.proofs.Rooms.{few_scripts}
use Rattle.worker_pool.proofs.Running.{runs_caller}
use Rattle.worker_pool.proofs.worker.run_caller.Goals as goal

pub run_scripts-requires-clause-room : goal.run_scripts-requires-clause-room
run_scripts-requires-clause-room g c = omega (arith, c.requires.room, few_scripts c.args.work.now.input.now c.requires.fit.valid c.args.caller)

pub returns-in_ok-run_scripts-clause-run : goal.returns-in_ok-run_scripts-clause-run
returns-in_ok-run_scripts-clause-run g c = λ h more one.
    runs_caller c.args.work.now.input.now h more c.args.caller one c.args.done.now.items c.run_scripts.new.done.items (c.in_ok-run_scripts.ensures.run h)
