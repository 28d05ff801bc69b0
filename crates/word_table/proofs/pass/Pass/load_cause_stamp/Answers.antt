use Rattle.word_table.proofs.Common.{◌≡◌, Bool, true, false, refl, sym, ap, ◌∙◌, ◌==◌, if◌then◌else◌, View, Idle, Running, Yielding, IsGood}
use Rattle.word_table.proofs.Common.{load_cause_stamp_action, after_waiting, after_restarting, PassView, IsSound}
use Rattle.word_table.proofs.Copied.After.{copy_after, busy, look_same, look_phase, look_copy, look_holds}
use Rattle.word_table.proofs.Calls.Committing.{restart_reads}
use Rattle.word_table.proofs.Calls.Taken.{taken_in, own_number}
use Rattle.word_table.proofs.pass.Pass.load_cause_stamp.Goals as goal

-- the call goes on
going : (b : Bool) → (if b then Yielding else Running) ≡ Idle → ⊥
going true e = let z : Yielding ≡ Idle = e in cc
going false e = let z : Running ≡ Idle = e in cc

pub invariant_of-self : goal.invariant_of-self
invariant_of-self g c = let i = c.self.invariant in let p = c.self.inside in let v : View = p.seat.me.0 in
    let t = c.load-shown.ensures.took in let b : Bool = c.load-shown.result == c.args.stamp in
    let yields : v.phase ≡ Yielding = ap (λ (x : PassView). x.view.phase) c.self.view_is ∙ c.requires.phase in
    let w : View = if b then after_waiting v else after_restarting v in
    let phase_is : w.phase ≡ c.phase_after_look-after_look.result = look_phase b v yields ∙ sym c.phase_after_look-after_look.ensures in
    copy_after i c.phase_after_look-after_look.result (record p.locks { versions = record p.locks.versions { used = c.clear_unless.new.row } })
    c.load-shown.new.seat.table_id c.load-shown.new.seat.me w c.load-shown.ensures.seat t.0.view t.1 (look_same b v) phase_is
    (look_copy p.locks v b c.clear_unless.new.row i.locks_are yields
    (ap (λ (x : PassView). x.view.undo) c.self.view_is ∙ c.requires.undone) c.clear_unless.ensures)
    (busy w (λ e. going b (sym (look_phase b v yields) ∙ e))) (look_holds b v yields)

pub returns-clause-taken : goal.returns-clause-taken
returns-clause-taken g c = let p = c.self.inside in
    taken_in (IsSound (IsGood (g.S.Shape.word_count c.args.table.now.key.shape)
    (g.S.Shape.good c.args.table.now.key.shape)) c.args.table.now.key.seats c.args.table.now.key.base.items)
    (λ j k. load_cause_stamp_action j c.args.other c.args.stamp) p.call.who 0 0 p.seat.me c.load-shown.new.seat.me.0
    p.seat.table_id c.args.self.now c.load-shown.result c.self.view_is c.self.invariant.call_is.who_is refl c.load-shown.ensures.took.0

pub returns-clause-one : goal.returns-clause-one
returns-clause-one g c = let p = c.self.inside in
    own_number p.call.who p.seat.me.0 p.seat.table_id c.args.self.now c.self.view_is c.self.invariant.call_is.who_is

pub returns-clause-fits : goal.returns-clause-fits
returns-clause-fits g c ne =
    restart_reads (IsGood (g.S.Shape.word_count c.args.table.now.key.shape) (g.S.Shape.good c.args.table.now.key.shape))
    c.args.table.now.key.seats c.args.table.now.key.base.items c.args.other c.args.stamp c.args.self.now.view
    c.load-shown.new.seat.me.0 c.load-shown.result (returns-clause-taken g c) record {
      who = returns-clause-one g c;
      phase = c.requires.phase;
      last = c.requires.cause;
      no_bit = c.requires.no_bit;
      no_claim = c.requires.no_claim;
      undone = c.requires.undone;
    } ne
