-- What several proofs of this crate import.
pub use Rattle.std.proofs.Common.{arith, ◌+◌, ◌≡◌, ap, ◌%◌, ◌<◌, ◌∙◌, ℕ, ◌*◌, ◌≢◌, ◌≤◌, Some, refl, sym, List, None, Option, [], false, inl, inr, length}
pub use Rattle.std.proofs.Common.{mod-lt, rules, slice_get, slice_set, subst, true, ◌++◌, ◌-◌, ◌∷◌, ◌⊎◌}
pub use Rattle.std.proofs.lemmas.Option.{same_Some}
pub use Rattle.history_model.proofs.Common.{Begins}
pub use Rattle.txn_ring.specs.Queues.{IsInOrder, IsOwn, place_at, HasCount, HasItem, IsEmpty, IsFull, Pops, Pushes, QueueHolds, TakesFront}
pub use Rattle.txn_ring.specs.declared.ring.Ring.{Ring}
pub use Rattle.txn_words.proofs.CallLaws.{each_plain, state_after, goes_as, goes_call, goes_then, leads_plain}
pub use Rattle.txn_words.proofs.Common.{begins_trans, LeadsTo, WritesOnly}
pub use Rattle.txn_words.proofs.FrameLaws.{only_read, only_then, only_write, writes_keep}
pub use Rattle.txn_words.proofs.Looks.{some_from}
pub use Rattle.txn_words.proofs.ReadLaws.{sees_read, sees_then, sees_write}
