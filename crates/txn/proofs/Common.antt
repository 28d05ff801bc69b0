-- What the proofs of jobs and clients cite, passed on from one place. Declares nothing.
pub use Rattle.history_model.specs.declared.event.Event.TheVariants.{Read, Write}
pub use Rattle.history_model.proofs.Traces.FittingLaws.{each_at, each_fresh, fits_begins, leads_at, leads_fresh, leads_leads}
pub use Rattle.history_model.proofs.Traces.TraceLaws.{begins_trans, get_set_other, get_set_same}
pub use Rattle.txn_alloc.proofs.Maps.InJobs.{behind, done_from_start, good_at_start, may_look, there_still}
pub use Rattle.txn_alloc.proofs.Maps.Parts.{order_found, order_inserted}
pub use Rattle.txn_alloc.proofs.FreeLists.AllLaid.{laid_good}
pub use Rattle.txn_words.proofs.CallLaws.{each_plain, leads_marked, leads_plain, leads_then}
pub use Rattle.txn_words.proofs.FirstWords.{BothPut, BothRead, OnePut, both_put, both_read, first_read, one_put}
pub use Rattle.txn_words.proofs.FrameLaws.{only_read, only_then, only_write}
pub use Rattle.txn_words.proofs.GoingBack.{marked_stays, same_as_at_mark}
pub use Rattle.txn_words.proofs.JobLaws.{WasRead, fits_read, nothing_yet, was_put, was_read}
pub use Rattle.txn_words.proofs.Looks.{some_from}
pub use Rattle.txn_words.proofs.ReadLaws.{sees_read, sees_then, sees_write}
pub use Rattle.txn_words.proofs.Steps.{fits_write_end}
unfoldable pub use Rattle.txn.specs.Prelude.{after, IsLegalTrace}
pub use Rattle.txn.specs.Prelude.{Trace, Begins, Fits, InEach, IsGood, Leads, SomeFits, EndsWithWrite, LeadsTo, TakesBack, Idle, IsFresh, IsNext}
