use Rattle.txn_commit.proofs.Common.{◌≡◌, ◌<◌, ◌%◌, ◌∙◌, ℕ, List, ap, subst, sym, slice_get, AreAt}
use Rattle.txn_commit.proofs.Orders.FromRun.{all_run, once_in_order, order_run, places_run, recorded_in_order, run_in_order}
use Rattle.txn_commit.proofs.Orders.Serial.{is_serial}
use Rattle.txn_commit.proofs.ordered.run_in_order.Goals as goal

pub arrange-requires-clause-within : goal.arrange-requires-clause-within
arrange-requires-clause-within g c =
    let ran = c.in_ok-closed.ensures in
    let order = order_run ran.run ran.coherent ran.legal ran.records c.as_slice.result.now c.in_ok-places.places.items c.as_slice.ensures.value
    c.in_ok-places.ensures in
    let places = places_run ran.run ran.coherent ran.legal ran.records c.in_ok-places.places.items order in
    λ i p at. places.within i p (ap (λ (l : List ℕ). slice_get l i) (sym c.as_slice-2.ensures.value) ∙ at)

pub arrange-requires-clause-once : goal.arrange-requires-clause-once
arrange-requires-clause-once g c =
    let ran = c.in_ok-closed.ensures in
    let order = order_run ran.run ran.coherent ran.legal ran.records c.as_slice.result.now c.in_ok-places.places.items c.as_slice.ensures.value
    c.in_ok-places.ensures in
    let places = places_run ran.run ran.coherent ran.legal ran.records c.in_ok-places.places.items order in
    λ i j p at_i at_j. places.once i j p (ap (λ (l : List ℕ). slice_get l i) (sym c.as_slice-2.ensures.value) ∙ at_i)
    (ap (λ (l : List ℕ). slice_get l j) (sym c.as_slice-2.ensures.value) ∙ at_j)

pub returns : goal.returns
returns g c =
    let ran = c.in_ok-closed.ensures in
    let given = c.in_ok-closed.field-0.done.items in
    let places = c.in_ok-places.places.items in
    let done = c.in_ok-done.done.items in
    let order = order_run ran.run ran.coherent ran.legal ran.records c.as_slice.result.now places c.as_slice.ensures.value c.in_ok-places.ensures in
    let at = subst (λ (l : List ℕ). AreAt given l done) c.as_slice-2.ensures.value c.in_ok-done.ensures in
    let in_order = run_in_order ran.run ran.coherent ran.legal ran.records places order done at in
    record {
      closed = ran.closed;
      coherent = ran.coherent;
      legal = ran.legal;
      records = ran.records;
      good = ran.good;
      once = once_in_order ran.run ran.coherent ran.legal ran.records places order done at _ _ ran.once;
      seats = all_run ran.run ran.coherent ran.legal ran.records places order done at (λ x. x.seat ≡ x.caller % c.args.workers) ran.seats;
      entries = recorded_in_order ran.run ran.coherent ran.legal ran.records places order done at;
      below = all_run ran.run ran.coherent ran.legal ran.records places order done at (λ x. x.restarts < c.args.workers) ran.below;
      in_order = in_order;
      serial = is_serial _ _ c.in_ok-closed.field-0.closed done in_order c.args.words.items ran.closed.0;
    }
