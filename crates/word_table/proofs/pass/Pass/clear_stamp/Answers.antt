use Rattle.word_table.proofs.Common.{false, inl, refl, ap, ◌∙◌, subst, Me, View, Idle, IsGood, clear_stamp_action, IsSound, number, HasBit, HasClaim, PassView}
use Rattle.word_table.proofs.Common.{restarts_bounded}
use Rattle.word_table.proofs.Calls.Taken.{taken_in, own_number}
use Rattle.word_table.proofs.Copied.After.{copy_made, lock_copy, holds_off}
use Rattle.word_table.proofs.Copied.VersionCopies.{versions_over}
use Rattle.word_table.proofs.pass.Pass.clear_stamp.Goals as goal

pub invariant_of-self : goal.invariant_of-self
invariant_of-self g c = let i = c.self.invariant in let p = c.self.inside in let l = i.locks_are in let v : View = p.seat.me.0 in
    let w : View = (clear_stamp_action p.call.who v).view 0 in let after : Me (Unit {0}) View = (w, p.seat.me.1) in
    copy_made i (record p.call { phase = Idle; stamp = 0; announced = false }) p.locks c.store.new.seat.table_id c.store.new.seat.me w c.store.ensures.seat
    (ap (λ (m : Me (Unit {0}) View). m.0) {y = after} c.store.ensures.view) (ap (λ (m : Me (Unit {0}) View). m.1) {y = after} c.store.ensures.view)
    refl refl refl refl refl refl refl refl
    record {
      seats_are = i.call_is.seats_are;
      who_is = i.call_is.who_is;
      phase_is = refl;
      calls_are = i.call_is.calls_are;
      stamp_is = refl;
      announced_is = refl;
    }
    (lock_copy p.locks w l.bits_are l.reads_are l.claims_are l.scans_are
    (versions_over p.locks.versions v.uses v.owed v.trace v.undo v.phase l.versions_are Idle
    (inl (ap (λ (x : PassView). x.view.undo) c.self.view_is ∙ c.requires.undone)) refl))
    (λ e. record {
      no_bit = λ k t. c.requires.no_bit k (subst (λ (x : PassView). HasBit x.view k) c.self.view_is t);
      no_claim = λ k t. c.requires.no_claim k (subst (λ (x : PassView). HasClaim x.view k) c.self.view_is t);
    })
    (holds_off w Idle refl (λ e. cc))

pub returns-clause-taken : goal.returns-clause-taken
returns-clause-taken g c = let p = c.self.inside in let t = c.store.ensures.took in (
  t.0,
  taken_in (IsSound (IsGood (g.S.Shape.word_count c.args.table.now.key.shape)
      (g.S.Shape.good c.args.table.now.key.shape)) c.args.table.now.key.seats c.args.table.now.key.base.items)
      (λ j k. clear_stamp_action j) p.call.who 0 0 p.seat.me c.store.new.seat.me.0 p.seat.table_id c.args.self.now t.0
      c.self.view_is c.self.invariant.call_is.who_is refl t.1.0,
)

pub returns-clause-bounded : goal.returns-clause-bounded
returns-clause-bounded g c = let p = c.self.inside in let t = (returns-clause-taken g c).1 in
    restarts_bounded c.args.table.now.key.seats c.args.table.now.key.base.items t.words t.views t.place
    (number c.args.self.now.view) c.args.self.now.view t.holds.locks t.holds.stamps t.knows
    (own_number p.call.who p.seat.me.0 p.seat.table_id c.args.self.now c.self.view_is c.self.invariant.call_is.who_is)
