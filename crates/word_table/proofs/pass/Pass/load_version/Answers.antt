use Rattle.word_table.proofs.Common.{◌≡◌, ℕ, ◌+◌, ◌^◌, ◌<◌, ◌≤◌, false, ⊎_elim, slice_set, refl, sym, ap, ◌∙◌, subst, arith, View, IsGood, has, IsGranted}
use Rattle.word_table.proofs.Common.{differ, load_version_action, MOST_PASSES, PassView, locks_found}
use Rattle.word_table.proofs.Copied.After.{copy_after, steady, lock_copy, busy, runs_on}
use Rattle.word_table.proofs.Copied.VersionCopies.{found_before, found_use, versions_found}
use Rattle.word_table.proofs.Kept.Growing.{version_grows}
use Rattle.word_table.proofs.pass.Pass.load_version.Goals as goal

pub load-version-requires-clause-may : goal.load-version-requires-clause-may
load-version-requires-clause-may g c = let i = c.self.invariant in let p = c.self.inside in let v : View = p.seat.me.0 in
    let k : ℕ = c.lock_of-lock.result in
    let fresh : has k (locks_found v.uses) ≡ false = ap (λ (x : PassView). has k (locks_found x.view.uses)) c.self.view_is
    ∙ (ap (λ (m : ℕ). has m (locks_found c.args.self.now.view.uses)) c.lock_of-lock.ensures.lock ∙ c.requires.unused) in
    record {
      who = i.call_is.who_is;
      phase = ap (λ (x : PassView). x.view.phase) c.self.view_is ∙ c.requires.phase;
      granted = subst (λ (x : PassView). IsGranted x.view k) (sym c.self.view_is)
          (subst (λ (m : ℕ). IsGranted c.args.self.now.view m) (sym c.lock_of-lock.ensures.lock) c.requires.granted);
      unused = λ x t. differ (has k (locks_found v.uses)) (found_use v.uses k x t) fresh;
    }

pub invariant_of-self : goal.invariant_of-self
invariant_of-self g c = let i = c.self.invariant in let p = c.self.inside in let l = i.locks_are in let v : View = p.seat.me.0 in
    let k : ℕ = c.lock_of-lock.result in let x : ℕ = c.load-version.result in let t = c.load-version.ensures.took in
    let fresh : has k (locks_found v.uses) ≡ false = ap (λ (y : PassView). has k (locks_found y.view.uses)) c.self.view_is
    ∙ (ap (λ (m : ℕ). has m (locks_found c.args.self.now.view.uses)) c.lock_of-lock.ensures.lock ∙ c.requires.unused) in
    let few : v.seats ≤ MOST_PASSES = omega (arith, i.call_is.seats_are, i.few) in
    let fits : x + 1 < 2 ^ 64 = subst (λ (y : ℕ). y + 1 < 2 ^ 64) t.0.found_is
    (version_grows (IsGood (g.S.Shape.word_count c.args.table.now.key.shape) (g.S.Shape.good c.args.table.now.key.shape)) v p.call.who k
    i.call_is.who_is few c.lock_of-lock.ensures.below c.args.table.now.key.seats c.args.table.now.key.base.items
    t.0.words t.0.views t.0.place t.0.holds t.0.knows) in
    let w : View = (load_version_action p.call.who k v).view x in
    let granted : IsGranted v k = subst (λ (y : PassView). IsGranted y.view k) (sym c.self.view_is)
    (subst (λ (m : ℕ). IsGranted c.args.self.now.view m) (sym c.lock_of-lock.ensures.lock) c.requires.granted) in
    copy_after i p.call.phase _ c.load-version.new.seat.table_id c.load-version.new.seat.me w c.load-version.ensures.seat t.0.view t.1
    (steady v w refl refl refl refl refl refl) i.call_is.phase_is
    (lock_copy _ w l.bits_are l.reads_are l.claims_are l.scans_are
    (versions_found p.locks.versions v.uses v.owed v.trace v.undo v.phase l.versions_are k x c.raise.new.row
    (slice_set p.locks.versions.found.items k x) c.lock_of-lock.ensures.below fresh fits c.raise.ensures refl _ refl refl refl))
    (busy w (runs_on v w refl (ap (λ (y : PassView). y.view.phase) c.self.view_is ∙ c.requires.phase)))
    (λ runs l used. ⊎_elim (λ (e : l ≡ k). subst (λ (m : ℕ). IsGranted v m) (sym e) granted) (λ old. i.holds_used runs l old)
    (found_before v.uses k x l used))
