-- A deque in each state to which its steps lead.
use Rattle.worker_pool.proofs.Common.{◌≡◌, ℕ, zero, suc, ◌+◌, ◌<◌, List, [], ◌∷◌, Some, slice_get, refl, sym, ap, ◌∙◌, subst, arith, sum_by, sum_by-append}
use Rattle.worker_pool.proofs.Common.{sum_by-cons, sum_by-set, get_or_from_slice_get, same_Some, slice_get_within, Deal, ALL_PARTS, times, deal, took, put}
use Rattle.worker_pool.proofs.Common.{IsDealt, some, get_elem?}
use Rattle.std.proofs.Common.{slice_set}
use Rattle.order_rebuild.proofs.Marks.{set_other}
use Rattle.worker_pool.specs.Deques.{IsDequeReached, Begins, Deals, Takes, Gives, Joins, has_dealt, has_taken, joined, with_part_less}
use Rattle.worker_pool.proofs.Steps.{begins, pushes, takes, forks, merges, took_of, put_of, no_took, no_put}
use Rattle.worker_pool.proofs.Sums.{alone}

-- what stands at a place, as the deque's definitions say it
stands_at : {X : Type 0} (xs : List X) (i : ℕ) (v : X) → slice_get xs i ≡ Some v → get_elem? xs i ≡ some v
stands_at [] i v e = absurd (cc e)
stands_at (x ∷ xs) zero v e = ap some (same_Some x v e)
stands_at (x ∷ xs) (suc i) v e = stands_at xs i v e

-- the rule holds
keeps_rule : (items : List ℕ) (views : List Deal) → IsDequeReached items views → IsDealt items views
keeps_rule items views Begins = begins
keeps_rule items views (Deals its xs vs k v r at part) =
    let new = pushes k v xs part its vs (keeps_rule its vs r) (stands_at vs k v at) in
    subst (λ w. IsDealt items (slice_set vs k w)) new.2 new.1
keeps_rule items views (Takes caller its vs k v r at part) =
    let new = takes k v part (caller ∷ []) its vs (omega arith) (omega arith) (keeps_rule (caller ∷ its) vs r) (stands_at vs k v at) in
    subst (λ w. IsDealt items (slice_set vs k w)) new.2 new.1
keeps_rule items views (Gives its vs k v r at part) = forks k v part its vs (keeps_rule its vs r) (stands_at vs k v at)
keeps_rule items views (Joins its vs k j v w r at there differ part more) =
    merges k v j w part more its vs (keeps_rule its vs r) (stands_at vs k v at) (λ e. differ (sym e))
    (stands_at (slice_set vs k (joined v w)) j w (set_other vs k j (joined v w) (λ e. differ (sym e)) ∙ there))

-- a sum over all handles if one changes
changes : (f : Deal → ℕ) (views : List Deal) (k : ℕ) (v w : Deal) → slice_get views k ≡ Some v
    → sum_by f (slice_set views k w) + f v ≡ sum_by f views + f w
changes f views k v w at =
    subst (λ (u : Deal). sum_by f (slice_set views k w) + f u ≡ sum_by f views + f w) (get_or_from_slice_get views k v v at)
    (sum_by-set f views k w v (slice_get_within views k v at))

-- sums that are the same if a handle has a part, and if it has nothing, are the same over all handles
module _ (f g : Deal → ℕ) (same : (v : Deal) → 0 < v.parts → g v ≡ f v) (nothing : g (deal 0 [] []) ≡ f (deal 0 [] [])) where
  same_sum : (items : List ℕ) (views : List Deal) → IsDequeReached items views → sum_by g views ≡ sum_by f views
  same_sum items views Begins =
      let b : Deal = deal ALL_PARTS [] [] in omega (arith, same b (omega arith), sum_by-cons f b [], sum_by-cons g b [])
  same_sum items views (Deals its xs vs k v r at part) =
      let w : Deal = has_dealt v xs in
      omega (arith, same_sum its vs r, changes f vs k v w at, changes g vs k v w at, same v part, same w part)
  same_sum items views (Takes caller its vs k v r at part) =
      let w : Deal = has_taken v (caller ∷ []) in
      omega (arith, same_sum (caller ∷ its) vs r, changes f vs k v w at, changes g vs k v w at, same v part, same w part)
  same_sum items views (Gives its vs k v r at part) =
      let w : Deal = with_part_less v in
      let n : Deal = deal 1 [] [] in
      omega (
        arith,
        same_sum its vs r,
        changes f vs k v w at,
        changes g vs k v w at,
        same v (omega (arith, part)),
        same w (omega (arith, part)),
        same n (omega arith),
        sum_by-append f (slice_set vs k w) (n ∷ []),
        sum_by-append g (slice_set vs k w) (n ∷ []),
        sum_by-cons f n [],
        sum_by-cons g n [],
      )
  same_sum items views (Joins its vs k j v w r at there differ part more) =
      let b : Deal = joined v w in
      let z : Deal = deal 0 [] [] in
      let after : slice_get (slice_set vs k b) j ≡ Some w = set_other vs k j b (λ e. differ (sym e)) ∙ there in
      omega (
        arith,
        same_sum its vs r,
        changes f vs k v b at,
        changes g vs k v b at,
        changes f (slice_set vs k b) j w z after,
        changes g (slice_set vs k b) j w z after,
        same v part,
        same w more,
        same b (omega (arith, part)),
        nothing,
      )

pub parts_are : (items : List ℕ) (views : List Deal) → IsDequeReached items views → sum_by (λ (v : Deal). v.parts) views ≡ ALL_PARTS
parts_are items views r = (keeps_rule items views r).parts

pub once_each : (items : List ℕ) (views : List Deal) → IsDequeReached items views → (x : ℕ)
    → times x items + sum_by (λ (v : Deal). times x v.taken) views ≡ sum_by (λ (v : Deal). times x v.dealt) views
once_each items views r x = omega (
  arith,
  (keeps_rule items views r).once x,
  same_sum (λ (v : Deal). times x v.taken) (took x) (took_of x) refl items views r,
  same_sum (λ (v : Deal). times x v.dealt) (put x) (put_of x) refl items views r,
)

pub by_owner : (items : List ℕ) (views : List Deal) → IsDequeReached items views → (k : ℕ) (v : Deal) → slice_get views k ≡ Some v → v.parts ≡ ALL_PARTS
    → (x : ℕ) → times x items + times x v.taken ≡ times x v.dealt
by_owner items views r k v at all x =
    let h = keeps_rule items views r in
    let P : Deal → ℕ = λ u. u.parts in
    let whole : sum_by P views ≡ P v = h.parts ∙ sym all in
    let part : 0 < v.parts = omega (arith, all) in
    omega (
      arith,
      h.once x,
      alone (took x) P (no_took x) views k v (stands_at views k v at) whole,
      alone (put x) P (no_put x) views k v (stands_at views k v at) whole,
      took_of x v part,
      put_of x v part,
    )
