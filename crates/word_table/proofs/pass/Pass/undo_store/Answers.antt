use Rattle.word_table.proofs.Common.{◌≡◌, ◌-◌, true, length, refl, sym, ap, ◌∙◌, View, Phase, is_open, undo_store_action, undoing_phase, LockCopy, PassView}
use Rattle.values_rule.proofs.Phases.{undoing_idle}
use Rattle.word_table.proofs.Copied.Rows.{zeros, shows_none}
use Rattle.word_table.proofs.Copied.After.{copy_stored, steady, lock_copy, busy, holds_off, undoing_stands}
use Rattle.word_table.proofs.Copied.VersionCopies.{versions_undone}
use Rattle.word_table.proofs.pass.Pass.undo_store.Goals as goal

pub invariant_of-self : goal.invariant_of-self
invariant_of-self g c = let i = c.self.invariant in let p = c.self.inside in let l = i.locks_are in let v : View = p.seat.me.0 in
    let w : View = (undo_store_action p.call.who c.args.a c.args.old v).view c.args.old in
    let locks : LockCopy = record p.locks { versions = record p.locks.versions { written = zeros 16 } } in
    let opens : is_open v.phase ≡ true = ap (λ (x : PassView). is_open x.view.phase) c.self.view_is ∙ c.requires.phase in
    copy_stored i c.after_undo-undoing.result locks c.store.new.seat.table_id c.store.new.seat.me w c.store.ensures.seat c.store.ensures.view
    (steady v w refl refl refl refl refl refl) (ap (λ (x : Phase). undoing_phase x) i.call_is.phase_is ∙ sym c.after_undo-undoing.ensures)
    (lock_copy locks w l.bits_are l.reads_are l.claims_are l.scans_are
    (versions_undone p.locks.versions v.uses v.owed v.trace v.undo v.phase l.versions_are (zeros 16) (length v.undo - 1) shows_none opens))
    (busy w (undoing_idle v.phase opens)) (holds_off w (undoing_phase v.phase) refl (undoing_stands v.phase))
