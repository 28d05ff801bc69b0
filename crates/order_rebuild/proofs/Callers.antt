-- The lanes of a list.
use Rattle.order_rebuild.proofs.Common.{◌≡◌, ℕ, zero, suc, ◌+◌, ◌-◌, ◌<◌, ◌≤◌, true, ⊎_elim, List, [], ◌∷◌, ◌++◌, length, slice_get, replicate, Some, sym, ap}
use Rattle.order_rebuild.proofs.Common.{◌∙◌, subst, arith, dite, ℕ_discrete, dec_lt, slice_get_within, below_get, get_first, get_last, get_cases, Spot, IsLane}
use Rattle.order_rebuild.proofs.Common.{AreCut, AreLanes, Lane, length-replicate}
use Rattle.order_rebuild.proofs.Codes.{same_there}
use Rattle.order_rebuild.proofs.Begin.{all_marked}

-- of the items from `start` on one caller is all along, and the index rises, if it does from each to the next
module _ (list : List Spot) (start end : ℕ) (low : start < end) (inside : end ≤ length list)
    (steps : (p : ℕ) (x y : Spot) → start < p → p < end → slice_get list (p - 1) ≡ Some x → slice_get list p ≡ Some y
    → (x.caller ≡ y.caller) × (x.index < y.index)) where
  before : (p : ℕ) → start < p → p < end → (x : Spot) × (slice_get list (p - 1) ≡ Some x)
  before p a b = below_get (p - 1) list (omega arith)

  along : (n p q : ℕ) (x y : Spot) → q ≡ p + n → start ≤ p → q < end → slice_get list p ≡ Some x → slice_get list q ≡ Some y
      → (x.caller ≡ y.caller) × (0 < n → x.index < y.index)
  along zero p q x y e a b ex ey =
      let same : x ≡ y = same_there list p x y ex (ap (λ (k : ℕ). slice_get list k) (omega (arith, e)) ∙ ey) in
      (ap (λ (s : Spot). s.caller) same, λ l. absurd (omega arith))
  along (suc n) p q x y e a b ex ey =
      let w = before q (omega arith) b in
      let s = steps q w.0 y (omega arith) b w.1 ey in
      let r = along n p (q - 1) x w.0 (omega arith) a (omega arith) ex w.1 in (
        r.0 ∙ s.0,
        λ l. dite (ℕ_discrete n 0)
            (λ z. let same : x ≡ w.0 = same_there list p x w.0 ex (ap (λ (k : ℕ). slice_get list k) (omega arith) ∙ w.1) in
            let i = ap (λ (s : Spot). s.index) same in let f = s.1 in omega arith)
            (λ m. let f = r.1 (omega arith) in let h = s.1 in omega arith),
      )

  pub lane_from : (first : Spot) → slice_get list start ≡ Some first
      → IsLane list (record { caller = first.caller; next = start; end = end })
  lane_from first at = record {
    low = omega arith;
    inside = inside;
    caller = λ p s w e. sym (along (p - start) start p first s (let l = w.0 in omega arith) (omega arith) w.1 at e).0;
    rises = λ p q x y w lt h ex ey. (along (q - p) p q x y (omega arith) w.0 h ex ey).1 (omega arith);
  }

-- one lane more
pub cut_more : (list : List Spot) (next : ℕ) (lanes : List Lane) (lane : Lane) → AreCut list next lanes → IsLane list lane
    → lane.next ≡ next → AreCut list lane.end (lanes ++ lane ∷ [])
cut_more list next lanes lane cut is from = record {
  each = λ i x e. ⊎_elim (λ o. cut.each i x o.1) (λ o. subst (IsLane list) o.1 is) (get_cases lanes lane x i e);
  all = λ p l. dite (dec_lt p next)
      (λ b. let w = cut.all p b in (w.0, w.1, get_first lanes (lane ∷ []) w.0 (slice_get_within lanes w.0 w.1 w.2) ∙ w.2, w.3))
      (λ n. (length lanes, lane, get_last lanes lane, (omega (arith, from), l)));
}

-- the lanes in another order, by rising caller
pub lanes_sorted : (list : List Spot) (n : ℕ) (cut lanes : List Lane) → n ≡ length list → AreCut list n cut
    → ((lane : Lane) → (i : ℕ) × (slice_get cut i ≡ Some lane) → (i : ℕ) × (slice_get lanes i ≡ Some lane))
    → ((lane : Lane) → (i : ℕ) × (slice_get lanes i ≡ Some lane) → (i : ℕ) × (slice_get cut i ≡ Some lane))
    → ((i j : ℕ) (a b : Lane) → slice_get lanes i ≡ Some a → slice_get lanes j ≡ Some b → i < j → a.caller < b.caller)
    → AreLanes list (replicate n true) lanes
lanes_sorted list n cut lanes whole is to from rising = record {
  each = λ i lane e. let w = from lane (i, e) in is.each w.0 lane w.1;
  within = λ i p lane e w.
      let o = from lane (i, e) in let l = (is.each o.0 lane o.1).inside in
      all_marked n p (let h = w.1 in omega (arith, whole, l, h));
  all = λ p m.
      let l = slice_get_within (replicate n true) p true m in
      let w = is.all p (let r = length-replicate n true in omega arith) in
      let o = to w.1 (w.0, w.2) in (o.0, w.1, o.1, w.3);
  rising = rising;
}
