use Rattle.word_table.proofs.Common.{ℕ, ◌∷◌, refl, ap, ◌∙◌, subst, View, store_value_action, known_value, LockCopy, PassView, ShowsLocks}
use Rattle.word_table.proofs.Copied.After.{copy_stored, steady, lock_copy, busy, runs_on}
use Rattle.word_table.proofs.Copied.VersionCopies.{versions_stored}
use Rattle.word_table.proofs.pass.Pass.store_value.Goals as goal

pub invariant_of-self : goal.invariant_of-self
invariant_of-self g c = let i = c.self.invariant in let p = c.self.inside in let l = i.locks_are in let v : View = p.seat.me.0 in
    let w : View = (store_value_action p.call.who c.args.a c.args.value v).view c.args.value in
    let locks : LockCopy = record p.locks { versions = record p.locks.versions { written = c.raise.new.row } } in
    let runs = ap (λ (x : PassView). x.view.phase) c.self.view_is ∙ c.requires.phase in
    copy_stored i p.call.phase locks c.store.new.seat.table_id c.store.new.seat.me w c.store.ensures.seat c.store.ensures.view
    (steady v w refl refl refl refl refl refl) i.call_is.phase_is
    (lock_copy locks w l.bits_are l.reads_are l.claims_are l.scans_are
    (versions_stored p.locks.versions v.uses v.owed v.trace v.undo v.phase l.versions_are c.args.a c.args.value (known_value v c.args.a)
    c.requires.read.1 c.requires.read.0 c.raise.new.row runs (ap (λ (x : PassView). x.view.trace) c.self.view_is ∙ c.requires.read.2)
    (λ locks s. subst (λ (k : ℕ). ShowsLocks c.raise.new.row (k ∷ locks)) c.lock_of.ensures.lock (c.raise.ensures locks s))))
    (busy w (runs_on v w refl runs)) i.holds_used
