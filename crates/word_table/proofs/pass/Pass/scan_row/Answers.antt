use Rattle.word_table.proofs.Common.{◌∷◌, ◌%◌, ◌∙◌, refl, ap, IsGood, IsSound, scan_row_action, PassView}
use Rattle.word_table.proofs.Calls.Taken.{taken_in}
use Rattle.word_table.proofs.Copied.After.{copy_after, clear_bit, scan_same, scan_phase, scan_copy, scan_holds, busy, runs_on}
use Rattle.word_table.proofs.pass.Pass.scan_row.Goals as goal

pub invariant_of-self : goal.invariant_of-self
invariant_of-self g c = let i = c.self.invariant in let p = c.self.inside in let l = i.locks_are in let w =
    c.load-found.result in let t = c.load-found.ensures.took in
    copy_after i p.call.phase (record p.locks { scans = c.note_if.new.masks }) c.load-found.new.seat.table_id
    c.load-found.new.seat.me ((scan_row_action p.call.who c.args.k c.args.other p.seat.me.0).view w) c.load-found.ensures.seat t.0.view t.1
    (scan_same p.call.who c.args.k c.args.other p.seat.me.0 w) (scan_phase p.call.who c.args.k c.args.other p.seat.me.0 w ∙ i.call_is.phase_is)
    (scan_copy (record p.locks { scans = c.note_if.new.masks }) p.call.who c.args.k c.args.other p.seat.me.0 w l.bits_are l.reads_are l.claims_are
    (clear_bit c.note_if.new.masks.items w (c.args.k % 64) ((c.args.k, c.args.other) ∷ p.seat.me.0.scans)
    p.seat.me.0.scans (c.note_if.ensures p.seat.me.0.scans l.scans_are)) l.versions_are)
    (busy ((scan_row_action p.call.who c.args.k c.args.other p.seat.me.0).view w)
    (runs_on p.seat.me.0 ((scan_row_action p.call.who c.args.k c.args.other p.seat.me.0).view w)
    (scan_phase p.call.who c.args.k c.args.other p.seat.me.0 w) (ap (λ (x : PassView). x.view.phase) c.self.view_is ∙ c.requires.phase)))
    (scan_holds p.call.who c.args.k c.args.other p.seat.me.0 w i.holds_used)

pub returns-clause-taken : goal.returns-clause-taken
returns-clause-taken g c = let p = c.self.inside in
    taken_in (IsSound (IsGood (g.S.Shape.word_count c.args.table.now.key.shape)
    (g.S.Shape.good c.args.table.now.key.shape)) c.args.table.now.key.seats c.args.table.now.key.base.items)
    (λ j k. scan_row_action j k c.args.other) p.call.who c.args.k c.args.k p.seat.me c.load-found.new.seat.me.0
    p.seat.table_id c.args.self.now c.load-found.result c.self.view_is c.self.invariant.call_is.who_is refl c.load-found.ensures.took.0
