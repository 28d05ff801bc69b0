-- The marks of what is left.
use Rattle.order_rebuild.proofs.Common.{◌≡◌, ℕ, zero, suc, ◌<◌, Bool, true, false, ⊎_elim, List, [], ◌∷◌, ◌++◌, length, slice_get, slice_set, take, Some, refl}
use Rattle.order_rebuild.proofs.Common.{sym, ap, ◌∙◌, subst, arith, take_all, if◌then◌else◌, dite, ℕ_discrete, IsIn, slice_get_within, below_get, get_first}
use Rattle.order_rebuild.proofs.Common.{get_last, get_cases, Spot, MayCome, IsNext, IsOrder, Orderable}
use Rattle.std.proofs.lemmas.List.{length-set, take-append-le}
use Rattle.order_rebuild.proofs.Open.{IsRest, OpenAt, NoneOpen, LeastOpen}
use Rattle.order_rebuild.proofs.Stuck.{is_in, not_stuck}

pub set_same : {A : Type 0} (s : List A) (i : ℕ) (w v : A) → slice_get s i ≡ Some w → slice_get (slice_set s i v) i ≡ Some v
set_same [] i w v h = cc
set_same (x ∷ s) zero w v h = refl
set_same (x ∷ s) (suc i) w v h = set_same s i w v h

pub set_other : {A : Type 0} (s : List A) (i j : ℕ) (v : A) → (j ≡ i → ⊥) → slice_get (slice_set s i v) j ≡ slice_get s j
set_other [] i j v h = refl
set_other (x ∷ s) zero zero v h = absurd (h refl)
set_other (x ∷ s) zero (suc j) v h = refl
set_other (x ∷ s) (suc i) zero v h = refl
set_other (x ∷ s) (suc i) (suc j) v h = set_other s i j v (λ e. h (ap suc e))

unfoldable pub count_open : List Bool → ℕ
count_open [] = 0
count_open (b ∷ bs) = if b then suc (count_open bs) else count_open bs

pub count-set : (bs : List Bool) (p : ℕ) → slice_get bs p ≡ Some true → count_open (slice_set bs p false) < count_open bs
unfolding count_open
count-set [] p e = cc
count-set (true ∷ bs) zero e = omega arith
count-set (false ∷ bs) zero e = cc
count-set (true ∷ bs) (suc p) e = let h = count-set bs p e in omega arith
count-set (false ∷ bs) (suc p) e = count-set bs p e

pub is_open : (list : List Spot) (placed : List ℕ) (left : List Bool) (p : ℕ) (spot : Spot) → IsRest list placed left
    → MayCome list placed p spot → OpenAt list left p spot
is_open list placed left p spot r m = record {
  at = m.at;
  mark = marked (below_get p left (subst (λ (n : ℕ). p < n) (sym r.count) (slice_get_within list p spot m.at)));
  first = λ q other e f ne b. m.first q other e (r.open_ q f) ne b;
}
  where
    marked : (b : Bool) × (slice_get left p ≡ Some b) → slice_get left p ≡ Some true
    marked (true, e) = e
    marked (false, e) = absurd (m.fresh (r.shut p e))

pub may_open : (list : List Spot) (placed : List ℕ) (left : List Bool) (p : ℕ) (spot : Spot) → IsRest list placed left
    → OpenAt list left p spot → MayCome list placed p spot
may_open list placed left p spot r o = record {
  at = o.at;
  fresh = r.open_ p o.mark;
  first = λ q other e n ne b. o.first q other e (marked q (below_get q left (subst (λ (k : ℕ). q < k) (sym r.count) (slice_get_within list q other e))) n) ne b;
}
  where
    marked : (q : ℕ) → (b : Bool) × (slice_get left q ≡ Some b) → (IsIn q placed → ⊥) → slice_get left q ≡ Some true
    marked q (true, e) n = e
    marked q (false, e) n = absurd (n (r.shut q e))

pub next_open : (list : List Spot) (placed : List ℕ) (left : List Bool) (p : ℕ) → IsRest list placed left → LeastOpen list left p → IsNext list placed p
next_open list placed left p r l = record {
  spot = l.spot;
  may = may_open list placed left p l.spot r l.is_open;
  least =
      λ q other m. l.least q other (is_open list placed left q other r m);
}

pub none_left : (list : List Spot) (placed : List ℕ) (left : List Bool) → Orderable list → IsRest list placed left
    → NoneOpen list left → (p : ℕ) → p < length list → IsIn p placed
none_left list placed left o r none p lt = ⊎_elim (λ m. m)
    (λ n. let q = not_stuck list o placed p lt n in absurd (none q.0 q.1 (is_open list placed left q.0 q.1 r q.2)))
    (is_in p placed)

-- one place more
pub rest_more : (list : List Spot) (placed : List ℕ) (left : List Bool) (p : ℕ) → IsRest list placed left
    → slice_get left p ≡ Some true → IsRest list (placed ++ p ∷ []) (slice_set left p false)
rest_more list placed left p r m = record {
  count = length-set left p false ∙ r.count;
  open_ = λ q e i. dite (ℕ_discrete q p)
      (λ z. let f : slice_get (slice_set left p false) p ≡ Some true =
      subst (λ (j : ℕ). slice_get (slice_set left p false) j ≡ Some true) z e in let g = set_same left p true false m in cc)
      (λ ne. ⊎_elim (λ o. r.open_ q (sym (set_other left p q false ne) ∙ e) (i.0, o.1)) (λ o. ne (sym o.1)) (get_cases placed p q i.0 i.1));
  shut = λ q e. dite (ℕ_discrete q p)
      (λ z. (length placed, get_last placed p ∙ ap Some (sym z)))
      (λ ne. let i = r.shut q (sym (set_other left p q false ne) ∙ e) in (i.0, get_first placed (p ∷ []) i.0 (slice_get_within placed i.0 q i.1) ∙ i.1));
}

pub each_more : (list : List Spot) (out : List ℕ) (p : ℕ)
    → ((i q : ℕ) → slice_get out i ≡ Some q → IsNext list (take i out) q) → IsNext list out p → (i q : ℕ)
    → slice_get (out ++ p ∷ []) i ≡ Some q → IsNext list (take i (out ++ p ∷ [])) q
each_more list out p each next i q e = ⊎_elim
    (λ o. subst (λ (t : List ℕ). IsNext list t q) (sym (take-append-le i out (p ∷ []) (let l = o.0 in omega arith))) (each i q o.1))
    (λ o. let t : take i (out ++ p ∷ []) ≡ out = ap (λ (j : ℕ). take j (out ++ p ∷ [])) o.0
    ∙ (take-append-le (length out) out (p ∷ []) (omega arith) ∙ take_all (length out) out (omega arith)) in
    subst (λ (t : List ℕ). IsNext list t q) (sym t) (subst (λ (j : ℕ). IsNext list out j) o.1 next))
    (get_cases out p q i e)

pub order_done : (list : List Spot) (out : List ℕ) (left : List Bool) → Orderable list → IsRest list out left
    → ((i p : ℕ) → slice_get out i ≡ Some p → IsNext list (take i out) p) → NoneOpen list left → IsOrder list out
order_done list out left o r each none = record { whole = λ p l. none_left list out left o r none p l; each = each }

pub rest_first : (list : List Spot) (left : List Bool) → length left ≡ length list
    → ((p : ℕ) → p < length left → slice_get left p ≡ Some true) → IsRest list [] left
rest_first list left l all = record {
  count = l;
  open_ = λ p e m. let f = m.1 in cc;
  shut = λ p e. let t =
      all p (slice_get_within left p false e) in absurd (two (sym t ∙ e));
}
  where
    two : Some true ≡ Some false → ⊥
    two e = cc
