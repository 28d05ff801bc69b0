-- The lanes, one item less.
use Rattle.order_rebuild.proofs.Common.{◌≡◌, ◌≢◌, ℕ, ◌+◌, ◌<◌, ◌≤◌, Bool, true, false, ◌⊎◌, inl, inr, ⊎_elim, List, slice_get, slice_set, Some, refl, sym, ap}
use Rattle.order_rebuild.proofs.Common.{◌∙◌, subst, arith, dite, ℕ_discrete, dec_lt, below_get, Spot, IsInLane, IsLane, AreLanes, shorter, Lane}
use Rattle.order_rebuild.proofs.Open.{OpenAt}
use Rattle.order_rebuild.proofs.Codes.{same_there}
use Rattle.order_rebuild.proofs.Come.{marks}
use Rattle.order_rebuild.proofs.Marks.{set_same, set_other}

module _ (list : List Spot) (left : List Bool) (lanes : List Lane) (are : AreLanes list left lanes) where
  -- of two lanes of one caller one is the other
  pub one_lane : (i j : ℕ) (a b : Lane) → slice_get lanes i ≡ Some a → slice_get lanes j ≡ Some b → a.caller ≡ b.caller → i ≡ j
  one_lane i j a b e f same = dite (dec_lt i j) (λ l. absurd (let h = are.rising i j a b e f l in omega (arith, h, same)))
      (λ n. dite (dec_lt j i) (λ l. absurd (let h = are.rising j i b a f e l in omega (arith, h, same))) (λ m. omega arith))

  -- an open item is the first of its lane
  pub open_first : (q : ℕ) (other : Spot) → OpenAt list left q other → (i : ℕ) (x : Lane) → slice_get lanes i ≡ Some x → IsInLane q x → x.next ≡ q
  open_first q other o i x e w =
      let l = are.each i x e in
      let low = w.0 in let high = w.1 in
      dite (ℕ_discrete x.next q) (λ z. z) (λ n. absurd (
      let s = below_get x.next list (let h = l.inside in omega arith) in
      let m = are.within i x.next x e (omega arith, omega arith) in
      o.first x.next s.0 s.1 m n (inr (
        l.caller x.next s.0 (omega arith, omega arith) s.1 ∙ sym (l.caller q other w o.at),
        l.rises x.next q s.0 other (omega arith, omega arith) (omega arith) high s.1 o.at,
      ))))

  module _ (at : ℕ) (lane : Lane) (here : slice_get lanes at ≡ Some lane) (some : lane.next < lane.end) where
    abbrev pub p : ℕ
    p = lane.next

    pub is_lane : IsLane list lane
    is_lane = are.each at lane here

    abbrev pub spot : (s : Spot) × (slice_get list p ≡ Some s)
    spot = below_get p list (omega (arith, is_lane.inside, some))

    pub mark : slice_get left p ≡ Some true
    mark = are.within at p lane here (omega arith, some)

    pub caller_is : spot.0.caller ≡ lane.caller
    caller_is = is_lane.caller p spot.0 (omega arith, some) spot.1

    -- no item that is left is an earlier one of the caller
    pub first_caller : (q : ℕ) (other : Spot) → slice_get list q ≡ Some other → slice_get left q ≡ Some true → q ≢ p
        → (other.caller ≡ spot.0.caller) → (other.index < spot.0.index) → ⊥
    first_caller q other e m ne same less =
        let w = are.all q m in
        let of = (are.each w.0 w.1 w.2).caller q other w.3 e in
        let one : w.0 ≡ at = one_lane w.0 at w.1 lane w.2 here (sym of ∙ (same ∙ caller_is)) in
        let is : w.1 ≡ lane = same_there lanes at w.1 lane (subst (λ (k : ℕ). slice_get lanes k ≡ Some w.1) one w.2) here in
        let within : IsInLane q lane = subst (IsInLane q) is w.3 in
        let low = within.0 in let high = within.1 in
        let rises = is_lane.rises p q spot.0 other (omega arith, some) (omega arith) high spot.1 e in omega (arith, rises, less)

    -- the first item of another lane is another one
    pub other_item : (i : ℕ) (x : Lane) → slice_get lanes i ≡ Some x → i ≢ at → (q : ℕ) → IsInLane q x → q ≢ p
    other_item i x e ne q w z = ne (one_lane i at x lane e here
        (sym ((are.each i x e).caller p spot.0 (subst (λ (k : ℕ). IsInLane k x) z w) spot.1) ∙ caller_is))

    abbrev pub marked : List Bool
    marked = slice_set left p false

    abbrev pub shortened : List Lane
    shortened = slice_set lanes at (shorter lane)

    stays : (q : ℕ) → q ≢ p → slice_get marked q ≡ slice_get left q
    stays q n = set_other left p q false n

    -- who is left still is another
    still : (q : ℕ) → slice_get marked q ≡ Some true → (q ≢ p) × (slice_get left q ≡ Some true)
    still q m = dite (ℕ_discrete q p)
        (λ z. absurd (marks (slice_get marked p) (subst (λ (k : ℕ). slice_get marked k ≡ Some true) z m) (set_same left p true false mark)))
        (λ n. (n, sym (stays q n) ∙ m))

    -- a lane after the step: the one of the item, shorter, or another
    pub lane_cases : (i : ℕ) (x : Lane) → slice_get shortened i ≡ Some x
        → ((i ≡ at) × (x ≡ shorter lane)) ⊎ ((i ≢ at) × (slice_get lanes i ≡ Some x))
    lane_cases i x e = dite (ℕ_discrete i at)
        (λ z. inl (z, some_lane x (shorter lane) (sym e ∙ (ap (λ (k : ℕ). slice_get shortened k) z ∙ set_same lanes at lane (shorter lane) here))))
        (λ n. inr (n, sym (set_other lanes at i (shorter lane) n) ∙ e))
      where
        some_lane : (a b : Lane) → Some a ≡ Some b → a ≡ b
        some_lane a b e = cc

    -- every lane after the step has a lane before it, with its caller
    old_lane : (i : ℕ) (x : Lane) → slice_get shortened i ≡ Some x → (y : Lane) × (slice_get lanes i ≡ Some y) × (y.caller ≡ x.caller)
    old_lane i x e = ⊎_elim
        (λ o. (lane, subst (λ (k : ℕ). slice_get lanes k ≡ Some lane) (sym o.0) here, sym (ap (λ (y : Lane). y.caller) o.1)))
        (λ o. (x, o.1, refl)) (lane_cases i x e)

    short_lane : IsLane list (shorter lane)
    short_lane = record {
      low = omega (arith, some);
      inside = is_lane.inside;
      caller = λ q s w e. let a = w.0 in is_lane.caller q s (omega arith, w.1) e;
      rises = λ q r x y w l h ex ey. let a = w.0 in is_lane.rises q r x y (omega arith, w.1) l h ex ey;
    }

    pub lanes_after : AreLanes list marked shortened
    lanes_after = record {
      each = λ i x e. ⊎_elim (λ o. subst (IsLane list) (sym o.1) short_lane) (λ o. are.each i x o.1) (lane_cases i x e);
      within = λ i q x e w. ⊎_elim
          (λ o. let v : IsInLane q (shorter lane) = subst (IsInLane q) o.1 w in let a = v.0 in
          stays q (λ z. absurd (omega arith)) ∙ are.within at q lane here (omega arith, v.1))
          (λ o. stays q (other_item i x o.1 o.0 q w) ∙ are.within i q x o.1 w)
          (lane_cases i x e);
      all = λ q m.
          let k = still q m in let w = are.all q k.1 in
          dite (ℕ_discrete w.0 at)
          (λ z. let is : w.1 ≡ lane = same_there lanes at w.1 lane (subst (λ (k : ℕ). slice_get lanes k ≡ Some w.1) z w.2) here in
          let v : IsInLane q lane = subst (IsInLane q) is w.3 in let a = v.0 in let ne = k.0 in
          (at, shorter lane, set_same lanes at lane (shorter lane) here, (dite (ℕ_discrete q p) (λ y. absurd (ne y)) (λ y. omega arith), v.1)))
          (λ n. (w.0, w.1, set_other lanes at w.0 (shorter lane) n ∙ w.2, w.3));
      rising = λ i j a b e f l. let x = old_lane i a e in let y = old_lane j b f in
          let r = are.rising i j x.0 y.0 x.1 y.1 l in let cx = x.2 in let cy = y.2 in omega (arith, r, cx, cy);
    }

    module _ (from : ℕ) (low : from ≤ at) (gone : (i : ℕ) (x : Lane) → i < from → slice_get lanes i ≡ Some x → x.next ≡ x.end) where
      gone_same : (i : ℕ) (x : Lane) → i < from → slice_get shortened i ≡ Some x → x.next ≡ x.end
      gone_same i x l e = ⊎_elim (λ o. absurd (let z = o.0 in omega (arith, l, z, low))) (λ o. gone i x l o.1) (lane_cases i x e)

      gone_more : at ≡ from → lane.next + 1 ≡ lane.end → (i : ℕ) (x : Lane) → i < from + 1 → slice_get shortened i ≡ Some x → x.next ≡ x.end
      gone_more first last i x l e = ⊎_elim
          (λ o. ap (λ (y : Lane). y.next) o.1 ∙ (last ∙ sym (ap (λ (y : Lane). y.end) o.1)))
          (λ o. gone i x (let n = o.0 in dite (ℕ_discrete i at) (λ z. absurd (n z)) (λ z. omega (arith, l, first))) o.1)
          (lane_cases i x e)

      pub gone_after : (next : ℕ) → (next ≡ from) ⊎ ((next ≡ from + 1) × (at ≡ from) × (lane.next + 1 ≡ lane.end))
          → (i : ℕ) (x : Lane) → i < next → slice_get shortened i ≡ Some x → x.next ≡ x.end
      gone_after next is i x l e = ⊎_elim
          (λ s. gone_same i x (omega (arith, l, s)) e)
          (λ s. let a = s.0 in gone_more s.1 s.2 i x (omega (arith, l, a)) e) is
