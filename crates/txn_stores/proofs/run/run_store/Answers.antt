use Rattle.txn_stores.proofs.Common.{◌≤◌, ℕ, List, ap, sym, ◌∙◌, subst, arith, Done, StoreReply, IsDay}
use Rattle.word_table.specs.declared.limits.TheConstants.{LAST_CALL}
use Rattle.txn_stores.proofs.Days.{day_made}
use Rattle.txn_stores.proofs.Journals.{jobs_counted}
use Rattle.txn_stores.proofs.run.run_store.Goals.{In_ok-closed}
use Rattle.txn_stores.proofs.run.run_store.Goals as goal

pub run_in_order-requires-clause-room : goal.run_in_order-requires-clause-room
run_in_order-requires-clause-room g c κs within =
    subst (λ (n : ℕ). n ≤ LAST_CALL) (sym (jobs_counted (g.S.Store.told c.args.input.now).callers)) (omega (arith, c.callers.ensures.few))

-- what was run is a day
day : (g : _) (c : In_ok-closed g) → IsDay (g.S.Store.told c.args.input.now) g.S.Store.stands c.in_ok-closed.field-0.closed c.in_ok-closed.field-0.done.items
day g c =
    let e = c.in_ok-closed.ensures in
    let store = g.S.Store.told c.args.input.now in
    let closed = c.in_ok-closed.field-0.closed in
    let is = sym c.shape_of.ensures.value in
    day_made store g.S.Store.stands _ g.S.Store.step c.shape_of.result (c.shape_of.ensures.step ∙ ap g.S.Store.step is) c.args.workers closed
    c.in_ok-closed.field-0.done.items
    (record { shape_is = e.closed.2; seats_are = e.closed.1; in_order = e.in_order; once = e.once; entries = e.entries; below = e.below })
    (subst (λ s. g.S.Store.stands s closed.base store.begins) is
    (subst (λ (w : List ℕ). g.S.Store.stands (g.S.Store.shape_of c.args.input.now) w store.begins) (sym e.closed.0) c.in_ok-words.ensures.stands))

pub text_of-requires-clause-day : goal.text_of-requires-clause-day
text_of-requires-clause-day g c =
    subst (λ (l : List (Done (StoreReply g.row.S-Value.Denot))). IsDay (g.S.Store.told c.args.input.now) g.S.Store.stands c.in_ok-closed.field-0.closed l)
    (sym c.deref.ensures.value) (day g (goal.at.text_of-requires-clause-day g c).In_ok-closed)

pub returns-clause-day : goal.returns-clause-day
returns-clause-day g c = day g (goal.at.returns-clause-day g c).In_ok-closed
