use Rattle.word_table.proofs.Common.{◌≡◌, ℕ, ◌+◌, ◌^◌, ◌<◌, refl, ap, arith, Me, View, Idle, Running, IsGood, begin_call_action, IsSound, LockCopy}
use Rattle.word_table.proofs.Copied.Rows.{zeros, shows_none}
use Rattle.word_table.proofs.Copied.After.{copy_called, lock_copy, busy, holds_none}
use Rattle.word_table.proofs.Copied.VersionCopies.{versions_begun}
use Rattle.word_table.proofs.Calls.Committing.{begin_reads}
use Rattle.word_table.proofs.Calls.Taken.{taken_in, own_number}
use Rattle.word_table.proofs.pass.Pass.begin_call.Goals as goal

pub invariant_of-self : goal.invariant_of-self
invariant_of-self g c = let i = c.self.invariant in let p = c.self.inside in let l = i.locks_are in let v : View = p.seat.me.0 in
    let w : View = (begin_call_action p.call.who v).view 0 in let after : Me (Unit {0}) View = (w, p.seat.me.1) in
    let locks : LockCopy = record p.locks { versions = record p.locks.versions { used = zeros 16; written = zeros 16 } } in
    copy_called i Running (p.call.calls + 1) locks c.store.new.seat.table_id c.store.new.seat.me w c.store.ensures.seat
    (ap (λ (m : Me (Unit {0}) View). m.0) {y = after} c.store.ensures.view) (ap (λ (m : Me (Unit {0}) View). m.1) {y = after} c.store.ensures.view)
    refl refl refl (ap (λ (x : ℕ). x + 1) i.call_is.calls_are) refl refl refl
    (lock_copy locks w l.bits_are l.reads_are l.claims_are l.scans_are
    (versions_begun p.locks.versions v.uses v.owed v.trace v.undo v.phase l.versions_are (zeros 16) (zeros 16) shows_none shows_none))
    (busy w (λ e. let z : Running ≡ Idle = e in cc)) (holds_none w refl)

pub returns-clause-taken : goal.returns-clause-taken
returns-clause-taken g c = let p = c.self.inside in let t = c.store.ensures.took in (
  t.0,
  taken_in (IsSound (IsGood (g.S.Shape.word_count c.args.table.now.key.shape)
      (g.S.Shape.good c.args.table.now.key.shape)) c.args.table.now.key.seats c.args.table.now.key.base.items)
      (λ j k. begin_call_action j) p.call.who 0 0 p.seat.me c.store.new.seat.me.0 p.seat.table_id c.args.self.now t.0
      c.self.view_is c.self.invariant.call_is.who_is refl t.1.0,
)

pub returns-clause-fits : goal.returns-clause-fits
returns-clause-fits g c = let p = c.self.inside in let i = c.self.invariant in let t = returns-clause-taken g c in
    let room : c.args.self.now.view.call + 1 < 2 ^ 32 = omega arith in
    begin_reads (IsGood (g.S.Shape.word_count c.args.table.now.key.shape) (g.S.Shape.good c.args.table.now.key.shape))
    c.args.table.now.key.seats c.args.table.now.key.base.items c.args.self.now.view c.store.new.seat.me.0 t.0 t.1 record {
      who = own_number p.call.who p.seat.me.0 p.seat.table_id c.args.self.now c.self.view_is i.call_is.who_is;
      phase = c.requires.phase;
      room = room;
    }
