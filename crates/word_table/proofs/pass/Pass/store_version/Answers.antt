use Rattle.word_table.proofs.Common.{◌≡◌, ℕ, ◌<◌, true, length, refl, sym, ap, ◌∙◌, subst, arith, View, Idle, Releasing, IsGood, IsIn, has, HasClaim}
use Rattle.word_table.proofs.Common.{store_version_action, LockCopy, PassView, IsSound}
use Rattle.std.proofs.lemmas.Grind.{get_or_default_zero}
use Rattle.word_table.proofs.Calls.Taken.{taken_in}
use Rattle.word_table.proofs.Copied.After.{copy_stored, steady, lock_copy, busy, holds_off}
use Rattle.word_table.proofs.Copied.VersionCopies.{found_again, versions_paid}
use Rattle.word_table.proofs.pass.Pass.store_version.Goals as goal

pub store-requires-clause-may : goal.store-requires-clause-may
store-requires-clause-may g c = let i = c.self.invariant in let p = c.self.inside in let l = i.locks_are in let v : View = p.seat.me.0 in
    let owed : has c.args.k v.owed ≡ true = ap (λ (x : PassView). has c.args.k x.view.owed) c.self.view_is ∙ c.requires.owed in
    let many = l.versions_are.each_lock in
    let close : c.args.k < length p.locks.versions.found.items = omega (arith, c.requires.claim.0) in
    record {
      stores = record {
        who = i.call_is.who_is;
        phase = ap (λ (x : PassView). x.view.phase) c.self.view_is ∙ c.requires.phase;
        owed = owed;
        found = subst (λ (x : ℕ). IsIn (c.args.k, x) v.uses)
            (sym (c.index-found.ensures ∙ get_or_default_zero p.locks.versions.found.items c.args.k c.index-found.result.now close))
            (found_again p.locks.versions v.uses v.owed v.trace v.undo v.phase l.versions_are c.args.k owed);
      };
      claim = subst (λ (x : PassView). HasClaim x.view c.args.k) (sym c.self.view_is) c.requires.claim.1;
    }

pub invariant_of-self : goal.invariant_of-self
invariant_of-self g c = let i = c.self.invariant in let p = c.self.inside in let l = i.locks_are in let v : View = p.seat.me.0 in
    let ends : v.phase ≡ Releasing = ap (λ (x : PassView). x.view.phase) c.self.view_is ∙ c.requires.phase in
    let w : View = (store_version_action p.call.who c.args.k 0 v).view 0 in
    let locks : LockCopy = record p.locks { versions = record p.locks.versions { written = c.lower.new.row } } in
    copy_stored i p.call.phase locks c.store.new.seat.table_id c.store.new.seat.me w c.store.ensures.seat c.store.ensures.view
    (steady v w refl refl refl refl refl refl) i.call_is.phase_is
    (lock_copy locks w l.bits_are l.reads_are l.claims_are l.scans_are
    (versions_paid p.locks.versions v.uses v.owed v.trace v.undo v.phase l.versions_are c.args.k c.lower.new.row ends c.lower.ensures))
    (busy w (λ e. let z : Releasing ≡ Idle = sym ends ∙ e in cc)) (holds_off w Releasing ends (λ e. cc))

pub returns-clause-taken : goal.returns-clause-taken
returns-clause-taken g c = let p = c.self.inside in let i = c.self.invariant in let l = i.locks_are in let v : View = p.seat.me.0 in
    let t = c.store.ensures.took in let x : ℕ = c.index-found.result.now in
    let many = l.versions_are.each_lock in
    let close : c.args.k < length p.locks.versions.found.items = omega (arith, c.requires.claim.0) in
    let owed : has c.args.k v.owed ≡ true = ap (λ (y : PassView). has c.args.k y.view.owed) c.self.view_is ∙ c.requires.owed in (
      x,
      (
        subst (λ (y : PassView). IsIn (c.args.k, x) y.view.uses) c.self.view_is
            (subst (λ (y : ℕ). IsIn (c.args.k, y) v.uses)
            (sym (c.index-found.ensures ∙ get_or_default_zero p.locks.versions.found.items c.args.k x close))
            (found_again p.locks.versions v.uses v.owed v.trace v.undo v.phase l.versions_are c.args.k owed)),
        (
          t.0,
          taken_in (IsSound (IsGood (g.S.Shape.word_count c.args.table.now.key.shape)
              (g.S.Shape.good c.args.table.now.key.shape)) c.args.table.now.key.seats c.args.table.now.key.base.items)
              (λ j k. store_version_action j k x) p.call.who c.args.k c.args.k p.seat.me c.store.new.seat.me.0 p.seat.table_id
              c.args.self.now t.0 c.self.view_is i.call_is.who_is refl t.1.0,
        ),
      ),
    )
