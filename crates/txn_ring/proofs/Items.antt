-- The queue after the words of a push and of a pop.
use Rattle.txn_ring.proofs.Common.{◌≡◌, ◌≢◌, ℕ, ◌+◌, ◌*◌, ◌%◌, ◌<◌, ◌≤◌, ◌⊎◌, inl, inr, List, [], ◌∷◌, ◌++◌, length, slice_get, slice_set, Some, refl, sym, ap}
use Rattle.txn_ring.proofs.Common.{◌∙◌, subst, arith, same_Some, Ring, place_at, IsOwn, HasItem, QueueHolds, TakesFront}
use Rattle.std.proofs.Common.{zero, suc}
use Rattle.std.proofs.lemmas.List.{length-set, length_push}
use Rattle.std.proofs.lemmas.Option.{slice_get_within}
use Rattle.history_model.proofs.Traces.TraceLaws.{get_set_same, get_set_other}
use Rattle.txn_ring.proofs.Places.{places_differ, place_below, next_place, front_place}

-- an element of a list with one more is an old one, or that one
pub got_append : {A : Type 0} (xs : List A) (x y : A) (i : ℕ) → slice_get (xs ++ x ∷ []) i ≡ Some y → (slice_get xs i ≡ Some y) ⊎ ((i ≡ length xs) × (x ≡ y))
got_append [] x y zero e = inr (refl, same_Some x y e)
got_append [] x y (suc i) e = cc
got_append (z ∷ xs) x y zero e = inl e
got_append (z ∷ xs) x y (suc i) e = elim (got_append xs x y i e) [ inl k ↦ inl k | inr k ↦ inr (omega (arith, k.0), k.1) ]

-- lists that are as long and have the same elements are one
pub same_elements : {A : Type 0} (xs ys : List A) → length xs ≡ length ys
    → ((i : ℕ) (x y : A) → slice_get xs i ≡ Some x → slice_get ys i ≡ Some y → x ≡ y) → xs ≡ ys
same_elements [] [] e same = refl
same_elements [] (y ∷ ys) e same = absurd (omega arith)
same_elements (x ∷ xs) [] e same = absurd (omega arith)
same_elements (x ∷ xs) (y ∷ ys) e same =
    ap (λ z. z ∷ xs) (same zero x y refl refl) ∙ ap (λ zs. y ∷ zs) (same_elements xs ys (omega arith) (λ i v w. same (suc i) v w))

module _ (ring : Ring) where
  pub front_own : IsOwn ring ring.at
  front_own = omega arith

  pub count_own : 0 < ring.capacity → IsOwn ring (ring.at + 1)
  count_own lt = omega arith

  pub first_own : (p : ℕ) → p < ring.capacity → IsOwn ring (place_at ring p)
  first_own p lt = omega arith

  pub second_own : (p : ℕ) → p < ring.capacity → IsOwn ring (place_at ring p + 1)
  second_own p lt = omega arith

  -- the same items if the ring's words stay
  pub queue_stands : (s t : List ℕ) (items : List (ℕ × ℕ)) → QueueHolds ring s items → length t ≡ length s
      → ((a : ℕ) → IsOwn ring a → slice_get t a ≡ slice_get s a) → QueueHolds ring t items
  queue_stands s t items h long same = record {
    laid_out = record { places = omega (arith, h.laid_out.places); whole = omega (arith, h.laid_out.whole) };
    front = h.front;
    below = h.below;
    front_word = same ring.at front_own ∙ h.front_word;
    room = h.room;
    count_word = same (ring.at + 1) (count_own (omega (arith, h.below))) ∙ h.count_word;
    stands = λ i item e.
        let p : ℕ = (h.front + i) % ring.capacity in
        let lt : p < ring.capacity = place_below ring.capacity h.front i h.below in
        let was : HasItem ring s p item = h.stands i item e in
        record { first = same (place_at ring p) (first_own p lt) ∙ was.first; second = same (place_at ring p + 1) (second_own p lt) ∙ was.second };
  }

  -- one item at one place
  one_item : (s : List ℕ) (p : ℕ) (x y : ℕ × ℕ) → HasItem ring s p x → HasItem ring s p y → x ≡ y
  one_item s p x y here there =
      let first : x.0 ≡ y.0 = same_Some x.0 y.0 (sym here.first ∙ there.first) in
      let second : x.1 ≡ y.1 = same_Some x.1 y.1 (sym here.second ∙ there.second) in
      ap (λ (a : ℕ). let q : ℕ × ℕ = (a, x.1) in q) first ∙ ap (λ (b : ℕ). let q : ℕ × ℕ = (y.0, b) in q) second

  -- one queue in one word list
  pub one_queue : (s : List ℕ) (items others : List (ℕ × ℕ)) → QueueHolds ring s items → QueueHolds ring s others → items ≡ others
  one_queue s items others h k =
      let fronts : h.front ≡ k.front = same_Some h.front k.front (sym h.front_word ∙ k.front_word) in
      same_elements items others (same_Some (length items) (length others) (sym h.count_word ∙ k.count_word))
      (λ i x y ex ey.
      let p : ℕ = (k.front + i) % ring.capacity in
      let here : HasItem ring s p x = subst (λ (f : ℕ). HasItem ring s ((f + i) % ring.capacity) x) fronts (h.stands i x ex) in
      one_item s p x y here (k.stands i y ey))

  -- the words as a push leaves them
  abbrev pub pushed_words : List ℕ → ℕ → ℕ × ℕ → ℕ → List ℕ
  pushed_words s p item count = slice_set (slice_set (slice_set s (place_at ring p) item.0) (place_at ring p + 1) item.1) (ring.at + 1) (count + 1)

  -- an item is pushed
  pub pushed : (s : List ℕ) (items : List (ℕ × ℕ)) (item : ℕ × ℕ) (count front : ℕ) → slice_get s (ring.at + 1) ≡ Some count → slice_get s ring.at ≡ Some front
      → count < ring.capacity → QueueHolds ring s items → QueueHolds ring (pushed_words s ((front + count) % ring.capacity) item count) (items ++ item ∷ [])
  pushed s items item count front ec ef lt h =
      let c : ℕ = ring.capacity in
      let fronts : h.front ≡ front = same_Some h.front front (sym h.front_word ∙ ef) in
      let counts : length items ≡ count = same_Some (length items) count (sym h.count_word ∙ ec) in
      let below : front < c = subst (λ (k : ℕ). k < c) fronts h.below in
      let p : ℕ = (front + count) % c in
      let q : ℕ = place_at ring p in
      let p_lt : p < c = place_below c front count below in
      let whole : ring.at + 2 + 2 * c ≤ length s = h.laid_out.whole in
      let t1 : List ℕ = slice_set s q item.0 in
      let t2 : List ℕ = slice_set t1 (q + 1) item.1 in
      let t3 : List ℕ = slice_set t2 (ring.at + 1) (count + 1) in
      let long1 : length t1 ≡ length s = length-set s q item.0 in
      let long2 : length t2 ≡ length s = length-set t1 (q + 1) item.1 ∙ long1 in
      let long3 : length t3 ≡ length s = length-set t2 (ring.at + 1) (count + 1) ∙ long2 in
      let kept : (a : ℕ) → a ≢ ring.at + 1 → a ≢ q → a ≢ q + 1 → slice_get t3 a ≡ slice_get s a =
      λ a no_count no_first no_second. get_set_other t2 (ring.at + 1) a (count + 1) no_count
      ∙ get_set_other t1 (q + 1) a item.1 no_second ∙ get_set_other s q a item.0 no_first in
      let longer : length (items ++ item ∷ []) ≡ count + 1 = length_push items item ∙ ap (λ k. k + 1) counts in
      let first : slice_get t3 q ≡ Some item.0 =
      get_set_other t2 (ring.at + 1) q (count + 1) (λ e. absurd (omega arith)) ∙ get_set_other t1 (q + 1) q item.1 (λ e. absurd (omega arith))
      ∙ get_set_same s q item.0 (omega arith) in
      let second : slice_get t3 (q + 1) ≡ Some item.1 =
      get_set_other t2 (ring.at + 1) (q + 1) (count + 1) (λ e. absurd (omega arith))
      ∙ get_set_same t1 (q + 1) item.1 (omega arith) in
      record {
        laid_out = record { places = omega (arith, h.laid_out.places); whole = omega arith };
        front = front;
        below = below;
        front_word = kept ring.at (λ e. absurd (omega arith)) (λ e. absurd (omega arith)) (λ e. absurd (omega arith)) ∙ ef;
        room = omega arith;
        count_word = get_set_same t2 (ring.at + 1) (count + 1) (omega arith) ∙ ap Some (sym longer);
        stands = λ i other e. elim (got_append items item other i e) [
          | inl k ↦
              let r : ℕ = (front + i) % c in
              let was : HasItem ring s r other = subst (λ (f : ℕ). HasItem ring s ((f + i) % c) other) fronts (h.stands i other k) in
              let differ : r ≢ p = places_differ c front i count below (omega (arith, slice_get_within items i other k)) lt in
              record {
                first = kept (place_at ring r) (λ z. absurd (omega arith)) (λ z. differ (omega arith)) (λ z. absurd (omega arith)) ∙ was.first;
                second = kept (place_at ring r + 1) (λ z. absurd (omega arith)) (λ z. absurd (omega arith))
                    (λ z. differ (omega arith)) ∙ was.second;
              }
          | inr k ↦
              let place : (front + i) % c ≡ p = ap (λ j. (front + j) % c) (k.0 ∙ counts) in
              record {
                first = ap (λ z. slice_get t3 (place_at ring z)) place ∙ first ∙ ap (λ (z : ℕ × ℕ). Some z.0) k.1;
                second = ap (λ z. slice_get t3 (place_at ring z + 1)) place ∙ second ∙ ap (λ (z : ℕ × ℕ). Some z.1) k.1;
              }
        ];
      }

  -- the words as a pop leaves them
  abbrev pub popped_words : List ℕ → ℕ → ℕ → List ℕ
  popped_words s front rest = slice_set (slice_set s ring.at ((front + 1) % ring.capacity)) (ring.at + 1) rest

  -- the front item is popped
  pub popped : (s : List ℕ) (items : List (ℕ × ℕ)) (item : ℕ × ℕ) (rest front : ℕ)
      → slice_get s (ring.at + 1) ≡ Some (rest + 1) → slice_get s ring.at ≡ Some front
      → HasItem ring s front item → QueueHolds ring s items → TakesFront ring item (popped_words s front rest) items
  popped s [] item rest front ec ef here h = let z : 0 ≡ rest + 1 = same_Some 0 (rest + 1) (sym h.count_word ∙ ec) in absurd (omega arith)
  popped s (x ∷ items) item rest front ec ef here h =
      let c : ℕ = ring.capacity in
      let fronts : h.front ≡ front = same_Some h.front front (sym h.front_word ∙ ef) in
      let longer : length (x ∷ items) ≡ rest + 1 = same_Some (length (x ∷ items)) (rest + 1) (sym h.count_word ∙ ec) in
      let counts : length items ≡ rest = omega arith in
      let below : front < c = subst (λ (k : ℕ). k < c) fronts h.below in
      let whole : ring.at + 2 + 2 * c ≤ length s = h.laid_out.whole in
      let next : ℕ = (front + 1) % c in
      let t1 : List ℕ = slice_set s ring.at next in
      let t2 : List ℕ = slice_set t1 (ring.at + 1) rest in
      let long1 : length t1 ≡ length s = length-set s ring.at next in
      let long2 : length t2 ≡ length s = length-set t1 (ring.at + 1) rest ∙ long1 in
      let at_first : HasItem ring s front x = subst (λ (f : ℕ). HasItem ring s f x) (ap (λ k. (k + 0) % c) fronts
      ∙ front_place c front below) (h.stands 0 x refl) in
      record {
        rest = items;
        is_first = ap (λ z. z ∷ items) (one_item s front x item at_first here);
        left = record {
          laid_out = record { places = omega (arith, h.laid_out.places); whole = omega arith };
          front = next;
          below = place_below c front 1 below;
          front_word = get_set_other t1 (ring.at + 1) ring.at rest (λ e. absurd (omega arith)) ∙ get_set_same s ring.at next (omega arith);
          room = omega (arith, h.room);
          count_word = get_set_same t1 (ring.at + 1) rest (omega arith) ∙ ap Some (sym counts);
          stands = λ i other e.
              let r : ℕ = (next + i) % c in
              let place : (front + (suc i)) % c ≡ r = ap (λ k. (front + k) % c) (omega arith) ∙ sym (next_place c front i) in
              let was : HasItem ring s ((front + (suc i)) % c) other =
              subst (λ (f : ℕ). HasItem ring s ((f + (suc i)) % c) other) fronts (h.stands (suc i) other e) in
              let there : HasItem ring s r other = subst (λ (z : ℕ). HasItem ring s z other) place was in
              let kept : (a : ℕ) → a ≢ ring.at + 1 → a ≢ ring.at → slice_get t2 a ≡ slice_get s a =
              λ a no_count no_front. get_set_other t1 (ring.at + 1) a rest no_count ∙ get_set_other s ring.at a next no_front in
              record {
                first = kept (place_at ring r) (λ z. absurd (omega arith)) (λ z. absurd (omega arith)) ∙ there.first;
                second = kept (place_at ring r + 1) (λ z. absurd (omega arith)) (λ z. absurd (omega arith)) ∙ there.second;
              };
        };
      }
