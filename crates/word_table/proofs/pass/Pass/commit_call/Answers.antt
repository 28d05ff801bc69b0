use Rattle.word_table.proofs.Common.{◌≡◌, refl, ap, ◌∙◌, View, Idle, Releasing, IsGood, commit_call_action, IsSound, LockCopy, PassView, number}
use Rattle.word_table.proofs.Common.{restarts_bounded}
use Rattle.word_table.proofs.Copied.After.{copy_stored, steady, lock_copy, busy, holds_off}
use Rattle.word_table.proofs.Copied.VersionCopies.{versions_committed}
use Rattle.word_table.proofs.Calls.Committing.{commit_knew}
use Rattle.word_table.proofs.Calls.Taken.{taken_in, own_number}
use Rattle.word_table.proofs.pass.Pass.commit_call.Goals as goal

pub invariant_of-self : goal.invariant_of-self
invariant_of-self g c = let i = c.self.invariant in let p = c.self.inside in let l = i.locks_are in let v : View = p.seat.me.0 in
    let w : View = (commit_call_action p.call.who c.args.kept v).view 0 in
    let locks : LockCopy = record p.locks { versions = record p.locks.versions { written = c.clear_unless.new.row } } in
    copy_stored i Releasing locks c.store.new.seat.table_id c.store.new.seat.me w c.store.ensures.seat c.store.ensures.view
    (steady v w refl refl refl refl refl refl) refl
    (lock_copy locks w l.bits_are l.reads_are l.claims_are l.scans_are
    (versions_committed p.locks.versions v.uses v.owed v.trace v.undo v.phase l.versions_are c.args.kept c.clear_unless.new.row
    (λ k. ap (λ (x : PassView). x.view.phase) c.self.view_is ∙ c.requires.runs k) c.clear_unless.ensures))
    (busy w (λ e. let z : Releasing ≡ Idle = e in cc)) (holds_off w Releasing refl (λ e. cc))

pub returns-clause-taken : goal.returns-clause-taken
returns-clause-taken g c = let p = c.self.inside in let t = c.store.ensures.took in (
  t.0,
  taken_in (IsSound (IsGood (g.S.Shape.word_count c.args.table.now.key.shape)
      (g.S.Shape.good c.args.table.now.key.shape)) c.args.table.now.key.seats c.args.table.now.key.base.items)
      (λ j k. commit_call_action j c.args.kept) p.call.who 0 0 p.seat.me c.store.new.seat.me.0 p.seat.table_id
      c.args.self.now t.0 c.self.view_is c.self.invariant.call_is.who_is refl t.1.0,
)

pub returns-clause-bounded : goal.returns-clause-bounded
returns-clause-bounded g c = let p = c.self.inside in let t = (returns-clause-taken g c).1 in
    restarts_bounded c.args.table.now.key.seats c.args.table.now.key.base.items t.words t.views t.place
    (number c.args.self.now.view) c.args.self.now.view t.holds.locks t.holds.stamps t.knows
    (own_number p.call.who p.seat.me.0 p.seat.table_id c.args.self.now c.self.view_is c.self.invariant.call_is.who_is)

pub returns-clause-knew : goal.returns-clause-knew
returns-clause-knew g c = let p = c.self.inside in let t = (returns-clause-taken g c).1 in
    commit_knew (IsGood (g.S.Shape.word_count c.args.table.now.key.shape) (g.S.Shape.good c.args.table.now.key.shape))
    c.args.table.now.key.seats c.args.table.now.key.base.items
    (commit_call_action (number c.args.self.now.view) c.args.kept c.args.self.now.view) c.args.kept c.args.self.now.view
    (returns-clause-taken g c).0 c.store.new.seat.me.0 (number c.args.self.now.view) t
    (own_number p.call.who p.seat.me.0 p.seat.table_id c.args.self.now c.self.view_is c.self.invariant.call_is.who_is)
