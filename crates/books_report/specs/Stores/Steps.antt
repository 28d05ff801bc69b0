-- What the code's outcomes and replies say of steps and runs.
use Rattle.books_report.specs.declared.stores.outcome.Outcome.{Outcome}
use Rattle.books_report.specs.declared.stores.outcome.Outcome.TheVariants as outcome
use Rattle.books_report.specs.declared.stores.reply.StoreReply.{StoreReply}
use Rattle.books_report.specs.declared.stores.reply.StoreReply.TheVariants as reply
use Rattle.books_report.specs.Stores.Interpreter.{Step, Run}
use Rattle.books_report.specs.Stores.Interpreter.Run.{Ends, Stops}
use Rattle.books_report.specs.Stores.Interpreter.Step.{Gives, Absent, Full}

module _ {V X : Type 0} where
  -- the step that an outcome tells, with the state that is left
  abbrev pub step_with : Outcome V → X → Step V X
  step_with (outcome.Gives v) state = Gives v state
  step_with outcome.Absent state = Absent
  step_with outcome.Full state = Full

  -- the run that a reply tells, with the state that is left
  abbrev pub run_with : StoreReply V → X → Run V X
  run_with (reply.Done values) state = Ends values state
  run_with (reply.Declined k) state = Stops (reply.Declined k)
  run_with (reply.Full k) state = Stops (reply.Full k)
