-- What stands at the places of an order stands in that order itself.
use Rattle.txn_commit.proofs.Common.{◌≡◌, ℕ, ◌<◌, List, map, length, take, get_or, slice_get, Some, sym, ap, ◌∙◌, subst, arith, range_with_len, length-map}
use Rattle.txn_commit.proofs.Common.{get_or-range_with_len, length-range_with_len, get_or_from_slice_get, slice_get-get_or, slice_get_within, dite, dec_lt}
use Rattle.txn_commit.proofs.Common.{Spot, IsIn, at_map, map_at, IsOrder, Orderable, order_keeps, AreAt, IsRebuilt}
use Rattle.order_rebuild.proofs.Common.{front-get, get-front, IsNext, MayCome, Precedes}
use Rattle.txn_commit.proofs.Orders.Arranged.{place_of_done, AreAllPlaces}

-- the places of a list one after another
in_range : (n i : ℕ) → i < n → slice_get (range_with_len 0 n) i ≡ Some i
in_range n i lt = slice_get-get_or (range_with_len 0 n) i 0 (omega (arith, lt, length-range_with_len 0 n))
    ∙ ap Some (omega (arith, get_or-range_with_len 0 n i 0 lt))

of_range : (n i p : ℕ) → slice_get (range_with_len 0 n) i ≡ Some p → (i < n) × (i ≡ p)
of_range n i p at =
    let lt : i < n = omega (arith, slice_get_within (range_with_len 0 n) i p at, length-range_with_len 0 n) in
    (lt, omega (arith, get_or-range_with_len 0 n i 0 lt, get_or_from_slice_get (range_with_len 0 n) i p 0 at))

before_range : (n i p : ℕ) → IsIn p (take i (range_with_len 0 n)) → p < i
before_range n i p (k, e) = let f = get-front i k (range_with_len 0 n) p e in omega (arith, f.0, (of_range n k p f.1).1)

range_before : (n i p : ℕ) → p < i → p < n → IsIn p (take i (range_with_len 0 n))
range_before n i p lt short = (p, front-get i p (range_with_len 0 n) p lt (in_range n p short))

module _ {X : Type 0} (spot : X → Spot) (given done : List X) (places : List ℕ) (at : AreAt given places done)
    (all : AreAllPlaces (length given) places) (orderable : Orderable (map spot given)) (order : IsOrder (map spot given) places) where
  abbrev list : List Spot
  list = map spot given

  abbrev out : List Spot
  out = map spot done

  -- what stands in the one stands in the other
  from : (k : ℕ) (s : Spot) → slice_get out k ≡ Some s → (p : ℕ) × (slice_get places k ≡ Some p) × (slice_get list p ≡ Some s)
  from k s e =
      let m = map_at spot done k s e in
      let t = place_of_done given done places at all k m.0 m.1 in
      (t.0, t.1, at_map spot given t.0 m.0 t.2 ∙ ap Some m.2)

  into : (k p : ℕ) (s : Spot) → slice_get places k ≡ Some p → slice_get list p ≡ Some s → slice_get out k ≡ Some s
  into k p s at_k at_p =
      let m = map_at spot given p s at_p in
      at_map spot done k m.0 (at.each k p at_k ∙ m.1) ∙ ap Some m.2

  -- which place it is in the order
  place_in : (p : ℕ) (s : Spot) → slice_get list p ≡ Some s → (k : ℕ) × (slice_get places k ≡ Some p)
  place_in p s e = all.whole p (omega (arith, slice_get_within list p s e, length-map given spot))

  keeps : (i j : ℕ) (x y : Spot) → slice_get out i ≡ Some x → slice_get out j ≡ Some y → i < j → Precedes y x → ⊥
  keeps i j x y at_x at_y lt =
      let t = from i x at_x in
      let u = from j y at_y in
      order_keeps list places order i j t.0 u.0 x y t.1 u.1 t.2 u.2 lt

  orderable_there : Orderable out
  orderable_there = record {
    apart = λ i j x y at_x at_y caller index.
        let t = from i x at_x in
        let u = from j y at_y in
        all.once i j t.0 t.1 (u.1 ∙ ap Some (sym (orderable.apart t.0 u.0 x y t.2 u.2 caller index)));
    number = λ i. i;
    own = λ i j below_i below_j e. e;
    in_order = keeps;
  }

  -- what may come at a place of the range may come at its place in the order
  may_come : (i k p : ℕ) (s : Spot) → slice_get places k ≡ Some p → MayCome out (take i (range_with_len 0 (length done))) k s
      → MayCome list (take i places) p s
  may_come i k p s at_k may =
      let t = from k s may.at in
      let same : t.0 ≡ p = same_place t.0 p (sym t.1 ∙ at_k) in
      record {
        at = ap (λ (q : ℕ). slice_get list q) (sym same) ∙ t.2;
        fresh = λ (j, e).
            let f = get-front i j places p e in
            let one : j ≡ k = all.once j k p f.1 at_k in
            may.fresh (range_before (length done) i k (omega (arith, f.0, one)) within);
        first = λ q other at_q fresh off before.
            let w = place_in q other at_q in
            may.first w.0 other (into w.0 q other w.1 at_q)
            (λ placed. fresh (w.0, front-get i w.0 places q (before_range (length done) i w.0 placed) w.1))
            (λ here. off (same_place q p (sym w.1 ∙ (ap (λ (n : ℕ). slice_get places n) here ∙ at_k)))) before;
      }
    where
      within : k < length done
      within = omega (arith, slice_get_within out k s may.at, length-map done spot)

      same_place : (u v : ℕ) → Some u ≡ Some v → u ≡ v
      same_place u v e = cc

  next_there : (i : ℕ) → i < length done → IsNext out (take i (range_with_len 0 (length done))) i
  next_there i lt =
      let lt_places : i < length places = omega (arith, lt, at.count) in
      let p : ℕ = get_or places i 0 in
      let at_i : slice_get places i ≡ Some p = slice_get-get_or places i 0 lt_places in
      let next = order.each i p at_i in
      let here : slice_get out i ≡ Some next.spot = into i p next.spot at_i next.may.at in
      record {
        spot = next.spot;
        may = record {
          at = here;
          fresh = λ placed. absurd (omega (arith, before_range (length done) i i placed));
          first = λ k other at_k fresh off before.
              dite (dec_lt k i)
              (λ less. fresh (range_before (length done) i k less (omega (arith, less, lt))))
              (λ no. keeps i k next.spot other here at_k (omega (arith, no, off_by i k off)) before);
        };
        least = λ k other may.
            let t = from k other may.at in
            next.least t.0 other (may_come i k t.0 other t.1 may);
      }
    where
      off_by : (i k : ℕ) → (k ≡ i → ⊥) → (k ≡ i → ⊥)
      off_by i k off = off

  pub in_place : IsRebuilt spot done
  in_place = record {
    orderable = orderable_there;
    order = record {
      whole = λ k lt. (k, in_range (length done) k (omega (arith, lt, length-map done spot)));
      each = λ i p e. let r = of_range (length done) i p e in next_at i p r.1 (next_there i r.0);
    };
  }
    where
      next_at : (i p : ℕ) → i ≡ p → IsNext out (take i (range_with_len 0 (length done))) i → IsNext out (take i (range_with_len 0 (length done))) p
      next_at i p same next = subst (λ (q : ℕ). IsNext out (take i (range_with_len 0 (length done))) q) same next
