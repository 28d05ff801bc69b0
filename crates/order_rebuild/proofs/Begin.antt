-- The state before the first item.
use Rattle.order_rebuild.proofs.Common.{◌∷◌, ◌≡◌, ℕ, suc, ◌<◌, Bool, true, false, List, [], length, slice_get, slice_index, take, Some, refl, sym, ap, ◌∙◌}
use Rattle.order_rebuild.proofs.Common.{arith, length-replicate, get_or-replicate, slice_get-get_or, Lines, places, items, item_at, last_of, AreRows, AreGone}
use Rattle.order_rebuild.proofs.Common.{AreStopped, AreWaits, AreClosed, Comer, comer_cmp, AreReady, KeepsReady, Spot, IsNext}
use Rattle.std.specs.BinaryHeap.{IsHeap}
use Rattle.std.specs.Prelude.{replicate}
use Rattle.order_rebuild.proofs.Come.{IsState}

pub first_waits : (l : Lines) → AreRows l → (next wait : List ℕ) → wait ≡ l.last.items → AreWaits l next wait
first_waits l rows next wait is = record {
  count = ap length is ∙ sym l.last.ok.0;
  own = λ q e lt w. let a : last_of l q ≡ suc e = sym (at q) ∙ w in let m = rows.chains.last_most q lt in (omega arith, rows.chains.last_own q e lt a);
  above = λ i lt le. absurd (let a = at (item_at l i) in rows.chains.last_none (item_at l i) i (rows.within i lt) (omega arith) lt refl);
}
  where
    at : (q : ℕ) → slice_index wait q ≡ last_of l q
    at q = ap (λ (xs : List ℕ). slice_index xs q) is

-- no items are in order
heap_first : IsHeap comer_cmp []
unfolding IsHeap
heap_first = λ p k d a b e f. absurd (omega arith)

pub first_ready : (l : Lines) → AreRows l → (left : List Bool) (wait : List ℕ) (ready : List Comer)
    → wait ≡ l.last.items → ((q : ℕ) → q < items l → slice_get left q ≡ Some true) → ready ≡ [] → AreReady l left wait ready
first_ready l rows left wait [] is all empty = record {
  ordered = heap_first;
  known = λ k d lt. absurd (omega arith);
  here = λ q lt w m. absurd (let s = rows.somewhere q lt in let a = ap (λ (xs : List ℕ). slice_index xs q) is in omega arith);
  not_waiting = λ q e lt w. refl;
  not_placed = λ q lt m. refl;
  waiting = λ q e lt w. all q lt;
}
first_ready l rows left wait (x ∷ ready) is all empty = absurd (let z : x ∷ ready ≡ [] = empty in cc)

pub first_gone : (l : Lines) (left : List Bool) (next : List ℕ) → length next ≡ places l
    → ((i : ℕ) → i < places l → slice_index next i ≡ i) → AreGone l left next
first_gone l left next count each = record {
  count = count;
  from = λ b lt is. let e = each b lt in omega arith;
  gone = λ b j lt is low high. absurd (let e = each b lt in omega arith);
}

pub first_stopped : (l : Lines) → AreRows l → (left : List Bool) (next : List ℕ)
    → ((q : ℕ) → q < items l → slice_get left q ≡ Some true) → (p : ℕ) → AreStopped l left next p 0
first_stopped l rows left next all p b lt is go =
    absurd (go (λ a c m. no (slice_get left (item_at l (slice_index next b))) (all (item_at l (slice_index next b)) (rows.within (slice_index next b) a)) m))
  where
    no : (m : _) → m ≡ Some true → m ≡ Some false → ⊥
    no m a b = cc

pub state_first : (l : Lines) → AreRows l → (left : List Bool) (next old new : List ℕ) (ready more : List Comer)
    → old ≡ l.last.items → ((q : ℕ) → q < items l → slice_get left q ≡ Some true) → ready ≡ []
    → length next ≡ places l → ((i : ℕ) → i < places l → slice_index next i ≡ i) → AreWaits l next new
    → AreClosed l next new (λ e. ⊥) → KeepsReady l old ready new more → IsState l left next new more
state_first l rows left next old new ready more is all empty count each waits closed keeps = record {
  gone = first_gone l left next count each;
  stopped = first_stopped l rows left next all;
  waits = waits;
  closed = closed;
  ready_is = keeps left (first_ready l rows left old ready is all empty);
}

pub each_first : (list : List Spot) (out : List ℕ) → out ≡ [] → (i p : ℕ) → slice_get out i ≡ Some p → IsNext list (take i out) p
each_first list [] e i p f = absurd (cc)
each_first list (x ∷ out) e i p f = absurd (cc)

pub nothing : {A : Type 0} (xs : List A) → length xs ≡ 0 → xs ≡ []
nothing [] e = refl
nothing (x ∷ xs) e = absurd (omega arith)

pub all_marked : (n q : ℕ) → q < n → slice_get (replicate n true) q ≡ Some true
all_marked n q lt = slice_get-get_or (replicate n true) q true (let r = length-replicate n true in omega arith) ∙ ap Some (get_or-replicate n q true true lt)
