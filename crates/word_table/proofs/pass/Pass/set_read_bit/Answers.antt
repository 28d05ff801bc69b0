use Rattle.word_table.proofs.Common.{refl, ap, ◌∙◌, View, IsGood, IsSound, lock_of_word, set_read_bit_action, PassView}
use Rattle.word_table.proofs.Calls.Found.{set_stores}
use Rattle.word_table.proofs.Calls.Taken.{taken_in}
use Rattle.word_table.proofs.Copied.After.{copy_stored, steady, lock_copy, busy, runs_on}
use Rattle.word_table.proofs.pass.Pass.set_read_bit.Goals as goal

pub store-requires-clause-stored : goal.store-requires-clause-stored
store-requires-clause-stored g c = let i = c.self.invariant in
    set_stores c.self.inside.seat.me.0 c.self.inside.locks.bits c.self.inside.call.who c.lock_of-lock.result c.args.a
    c.raised-new.result i.call_is.who_is c.lock_of-lock.ensures.below i.locks_are.bits_are c.raised-new.ensures.fits c.raised-new.ensures.value

pub invariant_of-self : goal.invariant_of-self
invariant_of-self g c = let i = c.self.invariant in let p = c.self.inside in let v : View =
    (set_read_bit_action p.call.who c.lock_of-lock.result c.args.a p.seat.me.0).view c.raised-new.result in
    copy_stored i p.call.phase (record p.locks { bits = c.raise.new.row }) c.store.new.seat.table_id c.store.new.seat.me v c.store.ensures.seat
    c.store.ensures.view
    (steady p.seat.me.0 v refl refl refl refl refl refl) i.call_is.phase_is
    (lock_copy (record p.locks { bits = c.raise.new.row }) v (c.raise.ensures p.seat.me.0.bits i.locks_are.bits_are)
    i.locks_are.reads_are i.locks_are.claims_are i.locks_are.scans_are i.locks_are.versions_are)
    (busy v (runs_on p.seat.me.0 v refl (ap (λ (x : PassView). x.view.phase) c.self.view_is ∙ c.requires.phase))) i.holds_used

pub returns-clause-taken : goal.returns-clause-taken
returns-clause-taken g c = let p = c.self.inside in let t = c.store.ensures.took in (
  t.0,
  taken_in (IsSound (IsGood (g.S.Shape.word_count c.args.table.now.key.shape)
      (g.S.Shape.good c.args.table.now.key.shape)) c.args.table.now.key.seats c.args.table.now.key.base.items)
      (λ j k. set_read_bit_action j k c.args.a) p.call.who c.lock_of-lock.result (lock_of_word c.args.a) p.seat.me
      c.store.new.seat.me.0 p.seat.table_id c.args.self.now t.0 c.self.view_is c.self.invariant.call_is.who_is c.lock_of-lock.ensures.lock t.1.0,
)
