use Rattle.word_table.proofs.Common.{◌≡◌, ◌⊎◌, [], refl, sym, ap, ◌∙◌, subst, Phase, Releasing, View, IsGood, IsSound, clear_read_bit_action, released_phase}
use Rattle.word_table.proofs.Common.{PassView}
use Rattle.word_table.proofs.Calls.Found.{clear_stores}
use Rattle.word_table.proofs.Calls.Taken.{taken_in}
use Rattle.word_table.proofs.Copied.After.{copy_stored, steady, lock_copy, busy, releases_on, holds_off, released_stands}
use Rattle.word_table.proofs.Copied.VersionCopies.{versions_released}
use Rattle.word_table.proofs.pass.Pass.clear_read_bit.Goals as goal

pub store-requires-clause-stored : goal.store-requires-clause-stored
store-requires-clause-stored g c = let i = c.self.invariant in
    clear_stores c.self.inside.seat.me.0 c.self.inside.locks.bits c.self.inside.call.who c.args.k c.lowered-new.result
    i.call_is.who_is c.requires.bit.0 i.locks_are.bits_are c.lowered-new.ensures.fits c.lowered-new.ensures.value

pub invariant_of-self : goal.invariant_of-self
invariant_of-self g c = let i = c.self.invariant in let p = c.self.inside in let l = i.locks_are in let v : View =
    (clear_read_bit_action p.call.who c.args.k p.seat.me.0).view c.lowered-new.result in
    copy_stored i c.leave_running.new.phase (record p.locks {
      bits = c.lower.new.row;
      reads =
          c.lower-2.new.row;
    }) c.store.new.seat.table_id c.store.new.seat.me v c.store.ensures.seat
    c.store.ensures.view
    (steady p.seat.me.0 v refl refl refl refl refl refl) (ap (λ (x : Phase). released_phase x) i.call_is.phase_is
    ∙ sym c.leave_running.ensures)
    (lock_copy (record p.locks { bits = c.lower.new.row; reads = c.lower-2.new.row }) v
    (c.lower.ensures p.seat.me.0.bits l.bits_are) (c.lower-2.ensures p.seat.me.0.reads l.reads_are) l.claims_are l.scans_are
    (versions_released p.locks.versions p.seat.me.0.uses p.seat.me.0.owed p.seat.me.0.trace p.seat.me.0.undo p.seat.me.0.phase l.versions_are
    (λ e. c.requires.begun (sym (ap (λ (x : PassView). x.view.phase) c.self.view_is) ∙ e))
    (subst (λ (x : PassView). (x.view.undo ≡ []) ⊎ (x.view.phase ≡ Releasing)) (sym c.self.view_is) c.requires.undone)))
    (busy v (releases_on p.seat.me.0.phase (λ e. c.requires.begun (sym (ap (λ (x : PassView). x.view.phase) c.self.view_is) ∙ e))))
    (holds_off v (released_phase p.seat.me.0.phase) refl (released_stands p.seat.me.0.phase))

pub returns-clause-taken : goal.returns-clause-taken
returns-clause-taken g c = let p = c.self.inside in let t = c.store.ensures.took in (
  t.0,
  taken_in (IsSound (IsGood (g.S.Shape.word_count c.args.table.now.key.shape)
      (g.S.Shape.good c.args.table.now.key.shape)) c.args.table.now.key.seats c.args.table.now.key.base.items)
      clear_read_bit_action p.call.who c.args.k c.args.k p.seat.me c.store.new.seat.me.0 p.seat.table_id
      c.args.self.now t.0 c.self.view_is c.self.invariant.call_is.who_is refl t.1.0,
)
