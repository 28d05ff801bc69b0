-- A deque of callers, in each state to which its steps lead.
-- What a handle at a deque knows is its parts, the callers that it dealt, and those that it took (`Deal`).
use Rattle.std.specs.Prelude.{◌≡◌, ◌≢◌, ℕ, ◌+◌, ◌-◌, ◌<◌, List, [], ◌∷◌, ◌++◌, Some, slice_get, slice_set, sum_by}
use Rattle.worker_pool.specs.declared.rule.Deal.{Deal}
use Rattle.worker_pool.specs.declared.rule.TheConstants.{ALL_PARTS}
use Rattle.worker_pool.specs.Counting.{times}

-- so many parts of a deque, and what was dealt to it and taken from it
abbrev pub deal : ℕ → List ℕ → List ℕ → Deal
deal parts dealt taken = record { parts = parts; dealt = dealt; taken = taken }

-- a handle that has dealt callers, one that has taken them, and one that gave a part away
abbrev pub has_dealt : Deal → List ℕ → Deal
has_dealt v xs = deal v.parts (v.dealt ++ xs) v.taken

abbrev pub has_taken : Deal → List ℕ → Deal
has_taken v xs = deal v.parts v.dealt (v.taken ++ xs)

abbrev pub with_part_less : Deal → Deal
with_part_less v = deal (v.parts - 1) v.dealt v.taken

-- the parts and lists of two put together
abbrev pub joined : Deal → Deal → Deal
joined v w = deal (v.parts + w.parts) (v.dealt ++ w.dealt) (v.taken ++ w.taken)

-- the deque holds these callers, front first, and its handles know this: its owner begins with all parts; a handle with
-- a part deals callers to the back, or takes the first; one with more gives a part to a new handle; and one takes in all
-- that another has
pub data IsDequeReached : List ℕ → List Deal → Type 0 where
  Begins : IsDequeReached [] (deal ALL_PARTS [] [] ∷ [])
  Deals : (items xs : List ℕ) (views : List Deal) (k : ℕ) (v : Deal) → IsDequeReached items views → slice_get views k ≡ Some v
      → 0 < v.parts → IsDequeReached (items ++ xs) (slice_set views k (has_dealt v xs))
  Takes : (caller : ℕ) (items : List ℕ) (views : List Deal) (k : ℕ) (v : Deal) → IsDequeReached (caller ∷ items) views
      → slice_get views k ≡ Some v → 0 < v.parts → IsDequeReached items (slice_set views k (has_taken v (caller ∷ [])))
  Gives : (items : List ℕ) (views : List Deal) (k : ℕ) (v : Deal) → IsDequeReached items views → slice_get views k ≡ Some v
      → 1 < v.parts → IsDequeReached items (slice_set views k (with_part_less v) ++ deal 1 [] [] ∷ [])
  Joins : (items : List ℕ) (views : List Deal) (k j : ℕ) (v w : Deal) → IsDequeReached items views → slice_get views k ≡ Some v
      → slice_get views j ≡ Some w → k ≢ j → 0 < v.parts → 0 < w.parts
      → IsDequeReached items (slice_set (slice_set views k (joined v w)) j (deal 0 [] []))

-- what was dealt to a deque is in it or was taken, each as often; so if a handle has all parts, it dealt all and took
-- all that is not in the deque
pub record DealtIsThereOrTaken : Type 0 where
  pub parts : (items : List ℕ) (views : List Deal) → IsDequeReached items views → sum_by (λ (v : Deal). v.parts) views ≡ ALL_PARTS
  pub once : (items : List ℕ) (views : List Deal) → IsDequeReached items views → (x : ℕ)
      → times x items + sum_by (λ (v : Deal). times x v.taken) views ≡ sum_by (λ (v : Deal). times x v.dealt) views
  pub by_owner : (items : List ℕ) (views : List Deal) → IsDequeReached items views → (k : ℕ) (v : Deal)
      → slice_get views k ≡ Some v → v.parts ≡ ALL_PARTS → (x : ℕ) → times x items + times x v.taken ≡ times x v.dealt
