-- The queues of all workers before they start, and what was dealt to all deques together.
use Rattle.worker_pool.proofs.Common.{◌≡◌, ℕ, zero, suc, ◌+◌, ◌%◌, ◌<◌, ◌≤◌, ◌==◌, if◌then◌else◌, All, List, [], ◌∷◌, length, get_or, refl, sym, ap, ◌∙◌, subst}
use Rattle.worker_pool.proofs.Common.{arith, Global, lt_of_not-le, zero-add, sum_by, nat_tests, sum_by-cons, dite, dec_le, Stealer, Pass, view, IsPassOf}
use Rattle.worker_pool.proofs.Common.{worker_deque, worker_flavor, worker_view, Deal, DealRule, ALL_PARTS, Queue, times, once_below, AreDealtInTurn, AreShown}
use Rattle.worker_pool.proofs.Common.{IsFree, IsNewRow, AreAtEach, owners_dealt, stolen, IsQueueOf, Stealers}
use Rattle.crossbeam_deque.specs.declared.handles.Worker.{Worker}
use Rattle.worker_pool.specs.Inner.Queues.{HadNone}
use Rattle.std.proofs.Math.Nat.{mod-lt}

abbrev pub OwnerOf : Type 0
OwnerOf = Worker ℕ Global Deal DealRule

sum_zero : {X : Type 0} (f : X → ℕ) (xs : List X) → ((k : ℕ) (d : X) → k < length xs → f (get_or xs k d) ≡ 0) → sum_by f xs ≡ 0
sum_zero f [] none = refl
sum_zero f (x ∷ xs) none = omega (arith, sum_by-cons f x xs, none 0 x (omega arith), sum_zero f xs (λ k d lt. none (suc k) d (omega arith)))

module _ (stealers : Stealers) (owners : List OwnerOf) (n j : ℕ) (queue : Queue) (shown : AreShown stealers owners)
    (many : length owners ≡ n) (few : n < ALL_PARTS) (free : All (IsFree n) owners) (row : IsNewRow owners queue.passes.items)
    (own : queue.own ≡ get_or owners j queue.own) (within : j < n) where
  fits_new : AreAtEach stealers queue.passes.items
  fits_new = record {
    count = row.count ∙ sym shown.count;
    each = λ k s p lt.
        let less : k < length owners = omega (arith, lt, shown.count) in
        let it = row.each k queue.own p less in
        let both = shown.each k s queue.own less in
        record {
          deque = subst (λ d. IsPassOf d (get_or queue.passes.items k p)) both.deque it.deque;
          part = ap (λ (v : Deal). v.parts) it.view_is;
          dealt = ap (λ (v : Deal). v.dealt) it.view_is;
          fifo = both.fifo;
        };
  }

  pub new_queue : queue.seat ≡ j → queue.count ≡ 0 → IsQueueOf stealers j queue
  new_queue seat count =
      let less : j < length owners = omega (arith, within, many) in
      let its = free j queue.own less in
      let parts : (worker_view queue.own).parts ≡ (worker_view (get_or owners j queue.own)).parts = ap (λ (w : OwnerOf). (worker_view w).parts) own in
      record {
        seat_is = seat;
        within = omega (arith, within, many, shown.count);
        few = omega (arith, few, many, shown.count);
        own = λ s. ap (λ (w : OwnerOf). worker_deque w) own ∙ (shown.each j s queue.own less).deque;
        fifo = ap (λ (w : OwnerOf). worker_flavor w) own ∙ (shown.each j (first_stealer stealers (omega (arith, less, shown.count))) queue.own less).own_fifo;
        parts = omega (arith, parts, its.parts, shown.count, many);
        row = fits_new;
        count = omega (arith, count);
      }
    where
      first_stealer : (ts : Stealers) → 0 < length ts → Stealer ℕ Global Deal DealRule
      first_stealer [] lt = absurd (omega arith)
      first_stealer (t ∷ ts) lt = t

  pub new_unused : queue.count ≡ 0 → HadNone queue
  new_unused count =
      let less : j < length owners = omega (arith, within, many) in
      let took : (worker_view queue.own).taken ≡ [] = ap (λ (w : OwnerOf). (worker_view w).taken) own ∙ (free j queue.own less).taken in
      record {
        none = λ x.
            let stole : stolen queue.passes.items x ≡ 0 = sum_zero (λ (p : Pass ℕ Deal Global). times x (view p).taken) queue.passes.items
            (λ k p lt. ap (λ (v : Deal). times x v.taken) (row.each k queue.own p (omega (arith, lt, row.count))).view_is) in
            omega (arith, stole, ap (times x) took);
        count = count;
      }

-- a sum in which each place but one counts for nothing
module _ {X : Type 0} (f : X → ℕ) (r left all : ℕ) where
  abbrev AreTurns : ℕ → List X → Type 0
  AreTurns a xs = (k : ℕ) (d : X) → k < length xs → f (get_or xs k d) + (if r == a + k then left else 0) ≡ (if r == a + k then all else 0)

  off_turn : (m n : ℕ) → (r ≡ m → 0 ≡ suc zero) → n + (if r == m then left else 0) ≡ (if r == m then all else 0) → n ≡ 0
  off_turn m n off h = grind (arith, nat_tests, off, h)

  on_turn : (m n : ℕ) → r ≡ m → n + (if r == m then left else 0) ≡ (if r == m then all else 0) → n + left ≡ all
  on_turn m n on h = grind (arith, nat_tests, on, h)

  sum_off : (a : ℕ) (xs : List X) → r < a → AreTurns a xs → sum_by f xs ≡ 0
  sum_off a xs less turns = sum_zero f xs (λ k d lt. off_turn (a + k) (f (get_or xs k d)) (λ e. absurd (omega (arith, e, less))) (turns k d lt))

  later : (a : ℕ) (x : X) (xs : List X) → AreTurns a (x ∷ xs) → AreTurns (a + 1) xs
  later a x xs turns k d lt = subst (λ m. f (get_or xs k d) + (if r == m then left else 0)
      ≡ (if r == m then all else 0)) (omega arith) (turns (suc k) d (omega arith))

  pub sum_turns : (a : ℕ) (xs : List X) → a ≤ r → r < a + length xs → AreTurns a xs → sum_by f xs + left ≡ all
  sum_turns a [] le lt turns = absurd (omega (arith, le, lt))
  sum_turns a (x ∷ xs) le lt turns =
      let first = turns 0 x (omega arith) in
      dite (dec_le r a)
      (λ here. omega (
        arith,
        sum_by-cons f x xs,
        on_turn (a + 0) (f x) (omega (arith, here, le)) first,
        sum_off (a + 1) xs (omega (arith, here)) (later a x xs turns),
      ))
      (λ away. omega (
        arith,
        sum_by-cons f x xs,
        off_turn (a + 0) (f x) (λ e. absurd (omega (arith, e, lt_of_not-le away))) first,
        sum_turns (a + 1) xs (omega (arith, lt_of_not-le away)) (omega (arith, lt)) (later a x xs turns),
      ))

-- what was dealt to all deques and what is left is each caller once
pub dealt_all : (callers : ℕ) (owners : List OwnerOf) (left : List ℕ) → 0 < length owners
    → AreDealtInTurn callers owners left → (x : ℕ) → owners_dealt owners x + times x left ≡ once_below x callers
dealt_all callers owners left some h x =
    let less : x % length owners < length owners = mod-lt x some in
    sum_turns (λ (w : OwnerOf). times x (worker_view w).dealt) (x % length owners) (times x left) (once_below x callers)
    0 owners (omega arith) (omega (arith, less))
    (λ k w lt. subst (λ m. times x (worker_view (get_or owners k w)).dealt
    + (if x % length owners == m then times x left else 0)
    ≡ (if x % length owners == m then once_below x callers else 0)) (sym (zero-add k)) (h.each k w x lt))
