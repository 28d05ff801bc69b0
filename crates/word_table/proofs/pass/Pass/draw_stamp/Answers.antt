use Rattle.word_table.proofs.Common.{◌≤◌, ◌+◌, refl, ap, ◌∙◌, arith, View, IsGood, draw_stamp_action, MOST_PASSES, PassView, IsSound}
use Rattle.word_table.proofs.Copied.After.{copy_made, lock_copy, busy, runs_on}
use Rattle.word_table.proofs.Kept.Growing.{draw_grows}
use Rattle.word_table.proofs.Calls.Taken.{taken_in}
use Rattle.word_table.proofs.pass.Pass.draw_stamp.Goals as goal

pub add-found-requires-clause-room : goal.add-found-requires-clause-room
add-found-requires-clause-room g c = let i = c.self.invariant in
    let few : c.self.inside.seat.me.0.seats ≤ MOST_PASSES = omega (arith, i.call_is.seats_are, i.few) in
    draw_grows (IsGood (g.S.Shape.word_count c.args.table.now.key.shape) (g.S.Shape.good c.args.table.now.key.shape))
    c.self.inside.seat.me.0 c.self.inside.call.who i.call_is.who_is few

pub invariant_of-self : goal.invariant_of-self
invariant_of-self g c = let i = c.self.invariant in let p = c.self.inside in let l = i.locks_are in let v : View = p.seat.me.0 in
    let t = c.add-found.ensures.took in let w : View = (draw_stamp_action p.call.who v).view c.add-found.result in
    copy_made i (record p.call { stamp = c.add-found.result + 1 }) p.locks c.add-found.new.seat.table_id c.add-found.new.seat.me w c.add-found.ensures.seat
    t.0.view t.1 refl refl refl refl refl refl refl refl
    record {
      seats_are = i.call_is.seats_are;
      who_is = i.call_is.who_is;
      phase_is = i.call_is.phase_is;
      calls_are = i.call_is.calls_are;
      stamp_is = refl;
      announced_is = i.call_is.announced_is;
    }
    (lock_copy p.locks w l.bits_are l.reads_are l.claims_are l.scans_are l.versions_are)
    (busy w (runs_on v w refl (ap (λ (x : PassView). x.view.phase) c.self.view_is ∙ c.requires.phase))) i.holds_used

pub returns-clause-taken : goal.returns-clause-taken
returns-clause-taken g c = let p = c.self.inside in (
  c.add-found.result,
  refl,
  taken_in
      (IsSound (IsGood (g.S.Shape.word_count c.args.table.now.key.shape) (g.S.Shape.good c.args.table.now.key.shape))
      c.args.table.now.key.seats c.args.table.now.key.base.items) (λ j k. draw_stamp_action j) p.call.who 0 0
      p.seat.me c.add-found.new.seat.me.0 p.seat.table_id c.args.self.now c.add-found.result c.self.view_is
      c.self.invariant.call_is.who_is refl c.add-found.ensures.took.0,
)
