-- Workers that were lent their passes, and what all of them did.
use Rattle.worker_pool.proofs.Common.{◌≡◌, ℕ, ◌<◌, List, [], ◌∷◌, map, length, get_or, slice_index, sym, ap, ◌∙◌, subst, arith, get_or-map, length-map}
use Rattle.worker_pool.proofs.Common.{ClearingInput, BooksShape, fresh_pass, PassView, DeskView, Worker, dealt_to, Stealers, HaveDoneTheirParts}
use Rattle.txn_threads.proofs.Common.{HaveWorkedAt}
use Rattle.worker_pool.specs.Inner.Workers.{DoesItsPart, HasDoneItsPart}
use Rattle.worker_pool.proofs.Yielded.{map_same}

-- clients that are workers: all have the same deques and the same input, and each a deque with the number of its place
module _ {C : Type 0} (worker_of : C → Worker) (stealers_of : C → Stealers) (input_of : C → ClearingInput)
    {stealers : Stealers} {desk : DeskView BooksShape} {input : ClearingInput} {old new : List C} {passes : List PassView}
    (worked : HaveWorkedAt (λ (at : DeskView BooksShape) (o n : C) (b a : PassView). DoesItsPart (stealers_of o) at (input_of o) (worker_of o) (worker_of n) a)
    desk old new passes)
    (shared : (k : ℕ) (d : C) → k < length old → (stealers_of (get_or old k d) ≡ stealers) × (input_of (get_or old k d) ≡ input))
    (seats : (k : ℕ) (d : C) → k < length old → (worker_of (get_or old k d)).queue.seat ≡ k) (long : length stealers ≡ length old) where
  does_at : (k : ℕ) (c : C) (p : PassView) → k < length old
      → DoesItsPart stealers desk input (worker_of (get_or old k c)) (worker_of (get_or new k c)) (get_or passes k p)
  does_at k c p lt =
      let it = worked.each k c p lt in
      let same = shared k c lt in
      subst (λ s. DoesItsPart s desk input (worker_of (get_or old k c)) (worker_of (get_or new k c)) (get_or passes k p)) same.0
      (subst (λ i. DoesItsPart (stealers_of (get_or old k c)) desk i (worker_of (get_or old k c))
      (worker_of (get_or new k c)) (get_or passes k p)) same.1 it.done)

  part_at : (k : ℕ) (c : C) (p : PassView) → k < length old → HasDoneItsPart stealers desk input k (worker_of (get_or new k c)) (get_or passes k p)
  part_at k c p lt =
      let its = ap (λ l. slice_index l 0) (worked.each k c p lt).who_is in
      subst (λ n. HasDoneItsPart stealers desk input n (worker_of (get_or new k c)) (get_or passes k p)) its
      ((does_at k c p lt).part (seats k c lt ∙ sym its))

  pub all_parts : HaveDoneTheirParts stealers desk input (map worker_of new) passes
  all_parts = record {
    stealers_are = omega (arith, long, worked.left, length-map new worker_of);
    count = omega (arith, worked.count, worked.left, length-map new worker_of);
    seats = omega (arith, worked.seats, worked.count, worked.left, length-map new worker_of);
    each = λ k w p lt.
        let less : k < length new = omega (arith, lt, length-map new worker_of) in
        let c : C = a_client new less in
        subst (λ x. HasDoneItsPart stealers desk input k x (get_or passes k p)) (sym (get_or-map worker_of new k c w less))
        (part_at k c p (omega (arith, less, worked.left)));
  }
    where
      a_client : {k : ℕ} (cs : List C) → k < length cs → C
      a_client [] lt = absurd (omega arith)
      a_client (c ∷ cs) lt = c

  -- nothing more was dealt
  pub all_dealt : map (λ c. dealt_to (worker_of c).queue) new ≡ map (λ c. dealt_to (worker_of c).queue) old
  all_dealt = map_same (λ c. dealt_to (worker_of c).queue) old new worked.left
      (λ k c lt. (does_at k c (fresh_pass desk.table desk.base desk.seats k) lt).dealt)
