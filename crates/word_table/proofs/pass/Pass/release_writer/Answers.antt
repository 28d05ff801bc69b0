use Rattle.word_table.proofs.Common.{◌≡◌, ◌⊎◌, [], refl, sym, ap, ◌∙◌, subst, Phase, Releasing, View, IsGood, IsSound, release_writer_action, released_phase}
use Rattle.word_table.proofs.Common.{PassView}
use Rattle.word_table.proofs.Calls.Taken.{taken_in}
use Rattle.word_table.proofs.Copied.After.{copy_stored, steady, lock_copy, busy, releases_on, holds_off, released_stands}
use Rattle.word_table.proofs.Copied.VersionCopies.{versions_released}
use Rattle.word_table.proofs.pass.Pass.release_writer.Goals as goal

pub invariant_of-self : goal.invariant_of-self
invariant_of-self g c = let i = c.self.invariant in let p = c.self.inside in let l = i.locks_are in let v : View =
    (release_writer_action p.call.who c.args.k p.seat.me.0).view 0 in
    copy_stored i c.leave_running.new.phase (record p.locks {
      claims = c.lower.new.row;
      scans =
          c.forget_if.new.masks;
    }) c.store.new.seat.table_id c.store.new.seat.me v c.store.ensures.seat
    c.store.ensures.view
    (steady p.seat.me.0 v refl refl refl refl refl refl) (ap (λ (x : Phase). released_phase x) i.call_is.phase_is
    ∙ sym c.leave_running.ensures)
    (lock_copy (record p.locks { claims = c.lower.new.row; scans = c.forget_if.new.masks }) v l.bits_are l.reads_are
    (c.lower.ensures p.seat.me.0.claims l.claims_are) (c.forget_if.ensures p.seat.me.0.scans l.scans_are)
    (versions_released p.locks.versions p.seat.me.0.uses p.seat.me.0.owed p.seat.me.0.trace p.seat.me.0.undo p.seat.me.0.phase l.versions_are
    (λ e. c.requires.begun (sym (ap (λ (x : PassView). x.view.phase) c.self.view_is) ∙ e))
    (subst (λ (x : PassView). (x.view.undo ≡ []) ⊎ (x.view.phase ≡ Releasing)) (sym c.self.view_is) c.requires.undone)))
    (busy v (releases_on p.seat.me.0.phase (λ e. c.requires.begun (sym (ap (λ (x : PassView). x.view.phase) c.self.view_is) ∙ e))))
    (holds_off v (released_phase p.seat.me.0.phase) refl (released_stands p.seat.me.0.phase))

pub returns-clause-taken : goal.returns-clause-taken
returns-clause-taken g c = let p = c.self.inside in let t = c.store.ensures.took in (
  t.0,
  taken_in (IsSound (IsGood (g.S.Shape.word_count c.args.table.now.key.shape)
      (g.S.Shape.good c.args.table.now.key.shape)) c.args.table.now.key.seats c.args.table.now.key.base.items)
      release_writer_action p.call.who c.args.k c.args.k p.seat.me c.store.new.seat.me.0 p.seat.table_id
      c.args.self.now t.0 c.self.view_is c.self.invariant.call_is.who_is refl t.1.0,
)
