-- What the code's outcome of an operation says of the interpreter's.
use Rattle.books_model.specs.declared.draft.Outcome.{Outcome}
use Rattle.books_model.specs.declared.draft.Outcome.TheVariants as outcome
use Rattle.books_model.specs.declared.reply.Reply.{Reply}
use Rattle.books_model.specs.declared.reply.Reply.TheVariants as reply
use Rattle.books_model.specs.Books.{ClearingBooks}
use Rattle.books_model.specs.Interpreter.{Step, Gives, Declines, FindsNoBlock, Run, Ends, Stops}

-- the step with this outcome, and these books after it if it gives a value
abbrev pub step_with : Outcome → ClearingBooks → Step
step_with (outcome.Gives v) after = Gives v after
step_with (outcome.Declines why) after = Declines why
step_with outcome.FindsNoBlock after = FindsNoBlock

-- the run with this reply, and these books after it if it ends
abbrev pub run_with : Reply → ClearingBooks → Run
run_with (reply.Done values) after = Ends values after
run_with (reply.Declined k why) after = Stops (reply.Declined k why)
run_with (reply.Full k) after = Stops (reply.Full k)
