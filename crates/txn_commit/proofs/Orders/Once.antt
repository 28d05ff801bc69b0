-- Each caller's jobs once and in their order, in another order of what was run in which those of a caller rise.
use Rattle.txn_commit.proofs.Common.{◌≡◌, ℕ, zero, suc, ◌+◌, ◌<◌, ◌≤◌, ◌==◌, Bool, true, false, cond, List, [], ◌∷◌, AllPairs, map, length, get_or, slice_get}
use Rattle.txn_commit.proofs.Common.{Some, refl, sym, ap, ◌∙◌, subst, arith, eq-eqb, filter, range_with_len, get_or-range_with_len, length-range_with_len}
use Rattle.txn_commit.proofs.Common.{AllPairs-cons, get_or_from_slice_get, slice_get-get_or, slice_get_within, IsIn, at_map, map_at, Done, indexes_of}
use Rattle.txn_commit.proofs.Common.{AreOnceInOrder, spot_of, AreAt}
use Rattle.std.proofs.Common.{zero-add}
use Rattle.std.proofs.lemmas.Bool.Decides.{nat_tests}
use Rattle.std.proofs.lemmas.List.Elements.{All-map, filter_passes}
use Rattle.std.proofs.lemmas.List.Kept.{AllPairs-filter}
use Rattle.word_table.proofs.Joined.Counting.{filter_in, in_filter}
use Rattle.txn_commit.proofs.Orders.Arranged.{all_arranged, by_place, place_of_done, AreAllPlaces}

-- the pairs of a list of images
pub pairs_map : {X Y : Type 0} (R : Y → Y → Type 0) (f : X → Y) (xs : List X) → AllPairs (λ x y. R (f x) (f y)) xs → AllPairs R (map f xs)
pairs_map R f [] pairs = λ i j d lt short. absurd (omega arith)
pairs_map R f (x ∷ xs) pairs = AllPairs-cons R (f x) (map f xs) (All-map (R (f x)) f xs (λ k d lt. pairs 0 (suc k) d (omega arith) (omega arith)))
    (pairs_map R f xs (λ i j d lt short. pairs (suc i) (suc j) d (omega arith) (omega arith)))

-- and if the images of those that a test keeps are related in pairs, so are these
pub pairs_kept : {X Y : Type 0} (R : Y → Y → Type 0) (f : X → Y) (p : X → Bool) (xs : List X) → AllPairs R (map f (filter p xs))
    → AllPairs (λ x y. p x ≡ true → p y ≡ true → R (f x) (f y)) xs
pairs_kept R f p [] pairs = λ i j d lt short. absurd (omega arith)
pairs_kept {X = X} R f p (x ∷ xs) pairs = by_test (pairs_kept R f p xs) (p x) refl
  where
    kept : List X
    kept = filter p xs

    by_test : (AllPairs R (map f kept) → AllPairs (λ x y. p x ≡ true → p y ≡ true → R (f x) (f y)) xs) → (b : Bool) → p x ≡ b
        → AllPairs (λ x y. p x ≡ true → p y ≡ true → R (f x) (f y)) (x ∷ xs)
    by_test rest true is =
        let all : AllPairs R (f x ∷ map f kept) = subst (λ b. AllPairs R (map f (cond b (x ∷ kept) kept))) is pairs in
        AllPairs-cons (λ x y. p x ≡ true → p y ≡ true → R (f x) (f y)) x xs
        (λ k d lt first passes.
        let y : X = get_or xs k d in
        let there = in_filter p xs y passes (k, slice_get-get_or xs k d lt) in
        by_place R (f x ∷ map f kept) all 0 (suc there.0) (f x) (f y) refl (at_map f kept there.0 y there.1) (omega arith))
        (rest (λ i j d lt short. all (suc i) (suc j) d (omega (arith, lt)) (omega (arith, short))))
    by_test rest false is = AllPairs-cons (λ x y. p x ≡ true → p y ≡ true → R (f x) (f y)) x xs
        (λ k d lt first passes. absurd (let no : true ≡ false = sym first ∙ is in cc))
        (rest (subst (λ b. AllPairs R (map f (cond b (x ∷ kept) kept))) is pairs))

-- if a caller's jobs stand there in their order, their indexes rise
pub later_index : {A : Type 0} (callers : ℕ) (jobs : ℕ → ℕ) (done : List (Done A)) → AreOnceInOrder callers jobs done
    → AllPairs (λ (x y : Done A). x.caller ≡ y.caller → x.index < y.index) done
later_index {A = A} callers jobs done once i j d lt short same =
    let x : Done A = get_or done i d in
    let y : Done A = get_or done j d in
    let c : ℕ = x.caller in
    let rising : AllPairs (λ x y. x < y) (indexes_of c done) =
    subst (AllPairs (λ x y. x < y)) (sym (once.each c (once.of_callers i d (omega (arith, lt, short))))) (range_rises (jobs c)) in
    pairs_kept (λ x y. x < y) (λ (ran : Done A). ran.index) (λ (ran : Done A). ran.caller == c) done rising i j d lt short
    (eq-eqb c c refl) (eq-eqb y.caller c (sym same))
  where
    range_rises : (n : ℕ) → AllPairs (λ x y. x < y) (range_with_len 0 n)
    range_rises n i j d lt short = omega (
      arith,
      lt,
      length-range_with_len 0 n,
      get_or-range_with_len 0 n i d (omega (arith, lt, short, length-range_with_len 0 n)),
      get_or-range_with_len 0 n j d (omega (arith, short, length-range_with_len 0 n)),
    )

-- numbers that rise, and are all those of a range
rising_range : (a n : ℕ) (xs : List ℕ) → AllPairs (λ x y. x < y) xs → ((x : ℕ) → IsIn x xs → (a ≤ x) × (x < a + n))
    → ((x : ℕ) → a ≤ x → x < a + n → IsIn x xs) → xs ≡ range_with_len a n
rising_range a zero [] rise within all = refl
rising_range a zero (x ∷ xs) rise within all = let w = within x (zero, refl) in absurd (omega (arith, w.0, w.1))
rising_range a (suc n) [] rise within all = let t = all a (omega arith) (omega arith) in absurd (let e : slice_get [] t.0 ≡ Some a = t.1 in cc)
rising_range a (suc n) (y ∷ ys) rise within all =
    let rest = rising_range (a + 1) n ys (λ i j d lt short. rise (suc i) (suc j) d (omega (arith, lt)) (omega (arith, short)))
    (λ x t. let w = within x (suc t.0, t.1) in (omega (arith, later x t, here), omega (arith, w.1)))
    (λ x least most. past x (omega (arith, least)) (all x (omega (arith, least)) (omega (arith, most)))) in
    λ i. here i ∷ rest i
  where
    first : (t : IsIn a (y ∷ ys)) → y ≡ a
    first (zero, e) = let same : Some y ≡ Some a = e in cc
    first (suc k, e) = absurd (omega (arith, by_place (λ u v. u < v) (y ∷ ys) rise 0 (suc k) y a refl e (omega arith), (within y (zero, refl)).0))

    here : y ≡ a
    here = first (all a (omega arith) (omega arith))

    later : (x : ℕ) → IsIn x ys → y < x
    later x (k, e) = by_place (λ u v. u < v) (y ∷ ys) rise 0 (suc k) y x refl e (omega arith)

    past : (x : ℕ) → a < x → IsIn x (y ∷ ys) → IsIn x ys
    past x lt (zero, e) = absurd (omega (arith, lt, here, same)) where
      same : y ≡ x
      same = let f : Some y ≡ Some x = e in cc
    past x lt (suc k, e) = (k, e)

module _ {A : Type 0} (callers : ℕ) (jobs : ℕ → ℕ) (given done : List (Done A)) (places : List ℕ) (at : AreAt given places done)
    (all : AreAllPlaces (length given) places) (once : AreOnceInOrder callers jobs given)
    (rising : AllPairs (λ (x y : Done A). (spot_of x).caller ≡ (spot_of y).caller → (spot_of x).index < (spot_of y).index) done) where
  abbrev of : ℕ → Done A → Bool
  of c ran = ran.caller == c

  to_done : (x : Done A) → IsIn x given → IsIn x done
  to_done x (p, e) = let w = all.whole p (slice_get_within given p x e) in (w.0, at.each w.0 p w.1 ∙ e)

  to_given : (x : Done A) → IsIn x done → IsIn x given
  to_given x (k, e) = let t = place_of_done given done places at all k x e in (t.0, t.2)

  -- the indexes of a caller are the same numbers in both
  carried : (xs ys : List (Done A)) → ((x : Done A) → IsIn x xs → IsIn x ys) → (c i : ℕ) → IsIn i (indexes_of c xs) → IsIn i (indexes_of c ys)
  carried xs ys to c i (k, e) =
      let m = map_at (λ (ran : Done A). ran.index) (filter (of c) xs) k i e in
      let passes : of c m.0 ≡ true = subst (λ (r : Done A). of c r ≡ true) (get_or_from_slice_get (filter (of c) xs) k m.0 m.0 m.1)
      (filter_passes (of c) xs k m.0 (slice_get_within (filter (of c) xs) k m.0 m.1)) in
      let there = in_filter (of c) ys m.0 passes (to m.0 (filter_in (of c) xs m.0 (k, m.1))) in
      (there.0, at_map (λ (ran : Done A). ran.index) (filter (of c) ys) there.0 m.0 there.1 ∙ ap Some m.2)

  in_range : (n i : ℕ) → IsIn i (range_with_len 0 n) → (0 ≤ i) × (i < 0 + n)
  in_range n i (k, e) =
      let lt : k < n = omega (arith, slice_get_within (range_with_len 0 n) k i e, length-range_with_len 0 n) in
      let is : 0 + k ≡ i = sym (get_or-range_with_len 0 n k 0 lt) ∙ get_or_from_slice_get (range_with_len 0 n) k i 0 e in
      (omega arith, omega (arith, lt, is))

  range_in : (n i : ℕ) → 0 ≤ i → i < 0 + n → IsIn i (range_with_len 0 n)
  range_in n i least lt = (
    i,
    slice_get-get_or (range_with_len 0 n) i 0 (omega (arith, lt, length-range_with_len 0 n))
        ∙ ap Some (get_or-range_with_len 0 n i 0 (omega (arith, lt)) ∙ zero-add i),
  )

  rises : (c : ℕ) → AllPairs (λ x y. x < y) (indexes_of c done)
  rises c = pairs_map (λ x y. x < y) (λ (ran : Done A). ran.index) (filter (of c) done)
      (λ i j d lt short. AllPairs-filter (λ (x y : Done A). x.caller ≡ y.caller → x.index < y.index) (of c) done rising i j d lt short
      (own i d (omega (arith, lt, short)) ∙ sym (own j d short)))
    where
      own : (k : ℕ) (d : Done A) → k < length (filter (of c) done) → (get_or (filter (of c) done) k d).caller ≡ c
      own k d lt = grind (arith, nat_tests, filter_passes (of c) done k d lt)

  pub once_there : AreOnceInOrder callers jobs done
  once_there = record {
    of_callers = all_arranged given done places at all (λ ran. ran.caller < callers) once.of_callers;
    each = λ c lt. rising_range 0 (jobs c) (indexes_of c done) (rises c)
        (λ x t. in_range (jobs c) x (subst (λ l. IsIn x l) (once.each c lt) (carried done given to_given c x t)))
        (λ x least most. carried given done to_done c x (subst (λ l. IsIn x l) (sym (once.each c lt)) (range_in (jobs c) x least most)));
  }
