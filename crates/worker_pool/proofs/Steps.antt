-- Each kind of step keeps the rule of a deque.
use Rattle.worker_pool.proofs.Common.{◌≡◌, ◌≢◌, ℕ, ◌+◌, ◌-◌, ◌<◌, Bool, true, false, List, [], ◌∷◌, ◌++◌, set, length, sym, refl, ◌∙◌, subst, arith, ◌==◌}
use Rattle.worker_pool.proofs.Common.{if◌then◌else◌, sum_by, some, get_elem?, sum_by-append, Deal, ALL_PARTS, times, took, put, IsDealt, deal}
use Rattle.std.proofs.Common.{ne_eqb}
use Rattle.crossbeam_deque.specs.Tasks.{Pushes, Takes, Finds, FindsFew, Forks, Merges}
use Rattle.worker_pool.specs.Inner.Deals.{IsAllTaken}
use Rattle.worker_pool.proofs.Sums.{sum_at_set, alone}

pub times_append : (x : ℕ) (xs ys : List ℕ) → times x (xs ++ ys) ≡ times x xs + times x ys
times_append x xs ys = sum_by-append (λ (y : ℕ). if y == x then 1 else 0) xs ys

if_some : (b : Bool) (n : ℕ) → b ≡ false → (if b then 0 else n) ≡ n
if_some true n e = absurd (Rattle.std.proofs.Common.true≢false e)
if_some false n e = refl

-- a pass with a part counts with its lists
pub took_of : (x : ℕ) (v : Deal) → 0 < v.parts → took x v ≡ times x v.taken
took_of x v part = if_some (v.parts == 0) (times x v.taken) (ne_eqb v.parts 0 (λ e. omega (arith, e, part)))

pub put_of : (x : ℕ) (v : Deal) → 0 < v.parts → put x v ≡ times x v.dealt
put_of x v part = if_some (v.parts == 0) (times x v.dealt) (ne_eqb v.parts 0 (λ e. omega (arith, e, part)))

-- a pass with no part counts for nothing
pub no_took : (x : ℕ) (v : Deal) → v.parts ≡ 0 → took x v ≡ 0
no_took x v e = grind arith

pub no_put : (x : ℕ) (v : Deal) → v.parts ≡ 0 → put x v ≡ 0
no_put x v e = grind arith

pub begins : IsDealt [] (deal ALL_PARTS [] [] ∷ [])
begins = record { parts = refl; once = λ x. refl }

module _ (port : ℕ) (v : Deal) where
  -- what is counted over all views, if a pass with a part becomes another with a part
  counted : (w : Deal) → 0 < v.parts → 0 < w.parts → (views : List Deal) → get_elem? views port ≡ some v → (x : ℕ)
      → (sum_by (took x) (set views port w) + times x v.taken ≡ sum_by (took x) views + times x w.taken)
      × (sum_by (put x) (set views port w) + times x v.dealt ≡ sum_by (put x) views + times x w.dealt)
  counted w part left views at x = (
    omega (arith, sum_at_set (took x) views port v w at, took_of x v part, took_of x w left),
    omega (arith, sum_at_set (put x) views port v w at, put_of x v part, put_of x w left),
  )

  pub pushes : (xs : List ℕ) → 0 < v.parts → Pushes IsDealt port v xs (λ w. w ≡ deal v.parts (v.dealt ++ xs) v.taken)
  pushes xs part items views h at = let w : Deal = deal v.parts (v.dealt ++ xs) v.taken in (
    w,
    record {
      parts = omega (arith, h.parts, sum_at_set (λ (u : Deal). u.parts) views port v w at);
      once = λ x. let now = counted w part part views at x in omega (arith, h.once x, now.0, now.1, times_append x v.dealt xs, times_append x items xs);
    },
    refl,
  )

  pub takes : 0 < v.parts → Takes IsDealt port v 1 (λ xs w. w ≡ deal v.parts v.dealt (v.taken ++ xs))
  takes part xs items views _ _ h at = let w : Deal = deal v.parts v.dealt (v.taken ++ xs) in (
    w,
    record {
      parts = omega (arith, h.parts, sum_at_set (λ (u : Deal). u.parts) views port v w at);
      once = λ x. let now = counted w part part views at x in omega (arith, h.once x, now.0, now.1, times_append x v.taken xs, times_append x xs items);
    },
    refl,
  )

  -- who has all parts and finds nothing knows that all that was dealt was taken
  pub finds : Finds IsDealt port v (v.parts ≡ ALL_PARTS → IsAllTaken v)
  finds views h at all x =
      let P : Deal → ℕ = λ u. u.parts in
      let whole : sum_by P views ≡ P v = h.parts ∙ sym all in
      let part : 0 < v.parts = omega (arith, all) in
      omega (
        arith,
        h.once x,
        alone (took x) P (no_took x) views port v at whole,
        alone (put x) P (no_put x) views port v at whole,
        took_of x v part,
        put_of x v part,
      )

  pub finds_few : (most : ℕ) → most ≡ 0 → FindsFew IsDealt most port v (v.parts ≡ ALL_PARTS → IsAllTaken v)
  finds_few most none items views few h at = finds views (subst (λ (l : List ℕ). IsDealt l views) (nothing items (omega (arith, few, none))) h) at
    where
      nothing : (l : List ℕ) → length l ≡ 0 → l ≡ []
      nothing [] e = refl
      nothing (y ∷ ys) e = absurd (omega arith)

  pub forks : 1 < v.parts → Forks IsDealt port v (deal (v.parts - 1) v.dealt v.taken) (deal 1 [] [])
  forks parts items views h at =
      let l : Deal = deal (v.parts - 1) v.dealt v.taken in
      let r : List Deal = deal 1 [] [] ∷ [] in
      record {
        parts = let P : Deal → ℕ = λ u. u.parts in omega (arith, h.parts, sum_at_set P views port v l at, sum_by-append P (set views port l) r);
        once = λ x.
            let now = counted l (omega arith) (omega arith) views at x in
            omega (arith, h.once x, now.0, now.1, sum_by-append (took x) (set views port l) r, sum_by-append (put x) (set views port l) r);
      }

  pub merges : (other : ℕ) (u : Deal) → 0 < v.parts → 0 < u.parts
      → Merges IsDealt port v other u (deal (v.parts + u.parts) (v.dealt ++ u.dealt) (v.taken ++ u.taken)) (deal 0 [] [])
  merges other u part part' items views h at two at' =
      let b : Deal = deal (v.parts + u.parts) (v.dealt ++ u.dealt) (v.taken ++ u.taken) in
      let z : Deal = deal 0 [] [] in
      let vs : List Deal = set views port b in
      record {
        parts = let P : Deal → ℕ = λ y. y.parts in omega (arith, h.parts, sum_at_set P views port v b at, sum_at_set P vs other u z at');
        once = λ x. let now = counted b part (omega arith) views at x in omega (
          arith,
          h.once x,
          now.0,
          now.1,
          sum_at_set (took x) vs other u z at',
          sum_at_set (put x) vs other u z at',
          took_of x u part',
          put_of x u part',
          times_append x v.dealt u.dealt,
          times_append x v.taken u.taken,
        );
      }
