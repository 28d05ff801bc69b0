use Rattle.word_table.proofs.Common.{◌≡◌, ◌≤◌, ◌+◌, ℕ, List, slice_index, sym, ap, ◌∙◌, subst, arith, lock_of_word, number, HasClaim, IsGood, IsSound}
use Rattle.word_table.proofs.Common.{claim_writer_action, MOST_PASSES, PassView}
use Rattle.word_table.proofs.Calls.Found.{not_own_found, writer_small}
use Rattle.word_table.proofs.Calls.Taken.{taken_in}
use Rattle.word_table.proofs.Copied.After.{copy_after, claim_same, claim_phase, claim_copy, claim_holds, busy, runs_on}
use Rattle.word_table.proofs.pass.Pass.claim_writer.Goals as goal

pub invariant_of-self : goal.invariant_of-self
invariant_of-self g c = let i = c.self.invariant in let p = c.self.inside in let l = i.locks_are in let w =
    c.exchange-found.result in let k = c.lock_of-lock.result in let t = c.exchange-found.ensures.took in
    copy_after i p.call.phase (record p.locks { claims = c.raise_if.new.row; scans = c.forget_if.new.masks })
    c.exchange-found.new.seat.table_id c.exchange-found.new.seat.me
    ((claim_writer_action p.call.who k c.args.a p.seat.me.0).view w) c.exchange-found.ensures.seat t.0.view t.1
    (claim_same p.call.who k c.args.a p.seat.me.0 w) (claim_phase p.call.who k c.args.a p.seat.me.0 w ∙ i.call_is.phase_is)
    (claim_copy (record p.locks { claims = c.raise_if.new.row; scans = c.forget_if.new.masks }) p.call.who k c.args.a
    p.seat.me.0 w l.bits_are l.reads_are (c.raise_if.ensures p.seat.me.0.claims l.claims_are)
    (c.forget_if.ensures p.seat.me.0.scans l.scans_are) l.versions_are)
    (busy ((claim_writer_action p.call.who k c.args.a p.seat.me.0).view w)
    (runs_on p.seat.me.0 ((claim_writer_action p.call.who k c.args.a p.seat.me.0).view w)
    (claim_phase p.call.who k c.args.a p.seat.me.0 w) (ap (λ (x : PassView). x.view.phase) c.self.view_is ∙ c.requires.phase)))
    (claim_holds p.call.who k c.args.a p.seat.me.0 w (λ claim. c.requires.claim (subst (λ (m : ℕ). HasClaim c.args.self.now.view m)
    c.lock_of-lock.ensures.lock (subst (λ (x : PassView). HasClaim x.view k) c.self.view_is claim))) i.holds_used)

pub returns-clause-taken : goal.returns-clause-taken
returns-clause-taken g c = let p = c.self.inside in
    taken_in (IsSound (IsGood (g.S.Shape.word_count c.args.table.now.key.shape)
    (g.S.Shape.good c.args.table.now.key.shape)) c.args.table.now.key.seats c.args.table.now.key.base.items)
    (λ j k. claim_writer_action j k c.args.a) p.call.who c.lock_of-lock.result (lock_of_word c.args.a) p.seat.me
    c.exchange-found.new.seat.me.0 p.seat.table_id c.args.self.now c.exchange-found.result c.self.view_is
    c.self.invariant.call_is.who_is c.lock_of-lock.ensures.lock c.exchange-found.ensures.took.0

pub returns-clause-other : goal.returns-clause-other
returns-clause-other g c own = let i = c.self.invariant in let p = c.self.inside in let t = c.exchange-found.ensures.took.0 in
    let number_is : number c.args.self.now.view ≡ p.call.who = ap (λ (x : PassView). number x.view) (sym c.self.view_is)
    ∙ ap (λ (l : List ℕ). slice_index l 0) i.call_is.who_is in
    let no_claim : ¬ HasClaim p.seat.me.0 c.lock_of-lock.result =
    λ claim. c.requires.claim (subst (λ (k : ℕ). HasClaim c.args.self.now.view k) c.lock_of-lock.ensures.lock
    (subst (λ (x : PassView). HasClaim x.view c.lock_of-lock.result) c.self.view_is claim)) in
    not_own_found c.args.table.now.key.seats c.args.table.now.key.base.items t.words t.views t.place p.seat.me.0
    p.call.who c.lock_of-lock.result t.holds.locks t.knows i.call_is.who_is c.lock_of-lock.ensures.below
    c.exchange-found.result t.found_is no_claim (own ∙ ap (λ (x : ℕ). x + 1) number_is)

pub returns-clause-small : goal.returns-clause-small
returns-clause-small g c = let i = c.self.invariant in let p = c.self.inside in let t = c.exchange-found.ensures.took.0 in
    let few : p.seat.me.0.seats ≤ MOST_PASSES = omega (arith, i.call_is.seats_are, i.few) in
    writer_small c.args.table.now.key.seats c.args.table.now.key.base.items t.words t.views t.place p.seat.me.0
    p.call.who c.lock_of-lock.result t.holds.locks t.knows i.call_is.who_is c.lock_of-lock.ensures.below c.exchange-found.result t.found_is few
