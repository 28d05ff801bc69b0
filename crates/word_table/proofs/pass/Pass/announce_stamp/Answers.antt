use Rattle.word_table.proofs.Common.{true, refl, ap, ◌∙◌, Me, View, IsGood, announce_stamp_action, PassView, IsSound}
use Rattle.word_table.proofs.Copied.After.{copy_made, lock_copy, busy, runs_on}
use Rattle.word_table.proofs.Calls.Taken.{taken_in}
use Rattle.word_table.proofs.pass.Pass.announce_stamp.Goals as goal

pub invariant_of-self : goal.invariant_of-self
invariant_of-self g c = let i = c.self.invariant in let p = c.self.inside in let l = i.locks_are in let v : View = p.seat.me.0 in
    let w : View = (announce_stamp_action p.call.who v).view 0 in let after : Me (Unit {0}) View = (w, p.seat.me.1) in
    copy_made i (record p.call { announced = true }) p.locks c.store.new.seat.table_id c.store.new.seat.me w c.store.ensures.seat
    (ap (λ (m : Me (Unit {0}) View). m.0) {y = after} c.store.ensures.view) (ap (λ (m : Me (Unit {0}) View). m.1) {y = after} c.store.ensures.view)
    refl refl refl refl refl refl refl refl
    record {
      seats_are = i.call_is.seats_are;
      who_is = i.call_is.who_is;
      phase_is = i.call_is.phase_is;
      calls_are = i.call_is.calls_are;
      stamp_is = i.call_is.stamp_is;
      announced_is = refl;
    }
    (lock_copy p.locks w l.bits_are l.reads_are l.claims_are l.scans_are l.versions_are)
    (busy w (runs_on v w refl (ap (λ (x : PassView). x.view.phase) c.self.view_is ∙ c.requires.phase))) i.holds_used

pub returns-clause-taken : goal.returns-clause-taken
returns-clause-taken g c = let p = c.self.inside in let t = c.store.ensures.took in (
  t.0,
  taken_in (IsSound (IsGood (g.S.Shape.word_count c.args.table.now.key.shape)
      (g.S.Shape.good c.args.table.now.key.shape)) c.args.table.now.key.seats c.args.table.now.key.base.items)
      (λ j k. announce_stamp_action j) p.call.who 0 0 p.seat.me c.store.new.seat.me.0 p.seat.table_id c.args.self.now
      t.0 c.self.view_is c.self.invariant.call_is.who_is refl t.1.0,
)
