use Rattle.word_table.proofs.Common.{◌≤◌, ◌∙◌, arith, ap, lock_of_word, IsGood, IsSound, is_free, load_writer_action, MOST_PASSES, PassView}
use Rattle.word_table.proofs.Calls.Found.{writer_small}
use Rattle.word_table.proofs.Calls.Taken.{taken_in}
use Rattle.word_table.proofs.Copied.After.{copy_after, load_same, load_phase, load_copy, load_holds, same_test, busy, runs_on}
use Rattle.word_table.proofs.pass.Pass.load_writer.Goals as goal

pub invariant_of-self : goal.invariant_of-self
invariant_of-self g c = let i = c.self.invariant in let p = c.self.inside in let l = i.locks_are in let w =
    c.load-found.result in let k = c.lock_of-lock.result in let t = c.load-found.ensures.took in
    copy_after i p.call.phase (record p.locks { reads = c.raise_if.new.row }) c.load-found.new.seat.table_id
    c.load-found.new.seat.me ((load_writer_action p.call.who k c.args.a p.seat.me.0).view w) c.load-found.ensures.seat t.0.view t.1
    (load_same p.call.who k c.args.a p.seat.me.0 w) (load_phase p.call.who k c.args.a p.seat.me.0 w ∙ i.call_is.phase_is)
    (load_copy (record p.locks { reads = c.raise_if.new.row }) p.call.who k c.args.a p.seat.me.0 w l.bits_are
    (same_test c.raise_if.new.row p.seat.me.0.reads k c.is_unclaimed-unclaimed.result (is_free p.call.who w)
    c.is_unclaimed-unclaimed.ensures (c.raise_if.ensures p.seat.me.0.reads l.reads_are)) l.claims_are l.scans_are l.versions_are)
    (busy ((load_writer_action p.call.who k c.args.a p.seat.me.0).view w)
    (runs_on p.seat.me.0 ((load_writer_action p.call.who k c.args.a p.seat.me.0).view w)
    (load_phase p.call.who k c.args.a p.seat.me.0 w) (ap (λ (x : PassView). x.view.phase) c.self.view_is ∙ c.requires.phase)))
    (load_holds p.call.who k c.args.a p.seat.me.0 w i.holds_used)

pub returns-clause-taken : goal.returns-clause-taken
returns-clause-taken g c = let p = c.self.inside in
    taken_in (IsSound (IsGood (g.S.Shape.word_count c.args.table.now.key.shape)
    (g.S.Shape.good c.args.table.now.key.shape)) c.args.table.now.key.seats c.args.table.now.key.base.items)
    (λ j k. load_writer_action j k c.args.a) p.call.who c.lock_of-lock.result (lock_of_word c.args.a) p.seat.me
    c.load-found.new.seat.me.0 p.seat.table_id c.args.self.now c.load-found.result c.self.view_is
    c.self.invariant.call_is.who_is c.lock_of-lock.ensures.lock c.load-found.ensures.took.0

pub returns-clause-small : goal.returns-clause-small
returns-clause-small g c = let i = c.self.invariant in let p = c.self.inside in let t = c.load-found.ensures.took.0 in
    let few : p.seat.me.0.seats ≤ MOST_PASSES = omega (arith, i.call_is.seats_are, i.few) in
    writer_small c.args.table.now.key.seats c.args.table.now.key.base.items t.words t.views t.place p.seat.me.0
    p.call.who c.lock_of-lock.result t.holds.locks t.knows i.call_is.who_is c.lock_of-lock.ensures.below c.load-found.result t.found_is few
