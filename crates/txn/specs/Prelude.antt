-- What the contracts of a program over the memory cite, passed on from one place. Declares nothing.

-- words and traces
pub use Rattle.history_model.specs.Traces.{Trace, Begins}
unfoldable pub use Rattle.history_model.specs.Traces.{after, IsLegalTrace}
pub use Rattle.history_model.specs.Fitting.{Fits, InEach, IsGood, Leads, SomeFits}
-- calls on words, within a job
pub use Rattle.txn_words.specs.Access.{Changes, ChangesWithRoom, OfModel, Tells, TellsAndChanges}
pub use Rattle.txn_words.specs.Calls.{GoesOn, InEachState, IsReady, LeadsTo, ReadsOnly, ReadsWithin, WritesOnly, WritesWithin}
pub use Rattle.txn_words.specs.Frames.{KeepsOthers}
pub use Rattle.txn_words.specs.Marks.{TakesBack}
pub use Rattle.txn_words.specs.Steps.{EndsWithWrite, stop_after}
pub use Rattle.txn_words.specs.Verdicts.{answer_of, is_kept}
-- tables, passes and their limits
pub use Rattle.history_model.specs.declared.view.Phase.TheVariants.{Idle}
pub use Rattle.history_model.specs.Views.{number}
pub use Rattle.word_table.specs.Closing.{AreRecords, ClosedView, IsCoherent, IsLegalInEachOrder}
pub use Rattle.word_table.specs.Copies.{HoldsNothing, PassView}
pub use Rattle.word_table.specs.Desks.{AreGoodWords, DeskView}
pub use Rattle.word_table.specs.declared.limits.TheConstants.{LAST_CALL, MOST_PASSES, MOST_WORDS}
-- clients on threads
pub use Rattle.txn_threads.specs.Clients.{HasWorked, HaveWorked}
pub use Rattle.txn_threads.specs.Passes.{IsFresh, IsNext}
-- transactions, and lists of jobs
pub use Rattle.txn_commit.specs.Jobs.{AreTooMany, count_jobs, count_at, job_at, list_at, means_at}
pub use Rattle.txn_commit.specs.Lists.{AreDealt, AreOnceInOrder, HaveRecords}
pub use Rattle.txn_commit.specs.Ordered.{HasRunOn, IsSerial}
pub use Rattle.txn_commit.specs.Transactions.{AsksItsFootprint, EndsWithoutEntry, GetsEntry, IsMeant, SameSeat}
pub use Rattle.txn_commit.specs.declared.lists.Done.{Done}
pub use Rattle.txn_commit.specs.declared.transaction.Receipt.{Receipt}
