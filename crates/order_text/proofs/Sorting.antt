-- Lists in a total order: `in_order` sorts, and of items no two of which tie one list alone is sorted.
use Rattle.order_text.proofs.Common.{◌≡◌, ℕ, suc, ◌<◌, ◌≤◌, true, false, ◌⊎◌, inl, inr, ⊎_elim, List, [], ◌∷◌, length, get_or, refl, sym, ap, ◌∙◌, subst, arith}
use Rattle.order_text.proofs.Common.{IsPermutation, eq_by_cmp, is_eq, is_lt, IsTotalOrder, Ordering, Less, Equal, Greater, tied_itself, ranks_by}
use Rattle.std.specs.List.{IsDistinct}
use Rattle.std.specs.List.Sorted.{IsStrictlySortedBy, IsSortedBy}
use Rattle.std.specs.Ordering.{is_le, ordering_reverse}
use Rattle.std.proofs.lemmas.List.Sorted.{Contains-permutation, IsPermutation-sym, sorted_far}
use Rattle.std.proofs.lemmas.Map.Keys.{IsDistinct-IsPermutation}
use Rattle.order_text.specs.Matching.{in_order, put_in}
use Rattle.order_text.proofs.Members.{Has, choose, chosen, contains_had, has_contained, of_all, of_one}

module _ {X : Type 0} (cmp : X → X → Ordering) (total : IsTotalOrder cmp) where
  before_itself : (x : X) → ¬ (cmp x x ≡ Less)
  before_itself x e = let z : Less ≡ Equal = sym e ∙ tied_itself total x in absurd (cc)

  turned : (x y : X) → cmp x y ≡ Greater → cmp y x ≡ Less
  turned x y e = total.antisymm y x ∙ ap ordering_reverse e

  both_before : (x y : X) → cmp x y ≡ Less → ¬ (cmp y x ≡ Less)
  both_before x y e f = let z : Less ≡ Greater = sym f ∙ (total.antisymm y x ∙ ap ordering_reverse e) in absurd (cc)

  -- one sorted list has given items
  pub one_sorted : (xs ys : List X) → IsStrictlySortedBy cmp xs → IsStrictlySortedBy cmp ys
      → ((z : X) → Has z xs → Has z ys) → ((z : X) → Has z ys → Has z xs) → xs ≡ ys
  unfolding IsStrictlySortedBy
  one_sorted [] [] sx sy to back = refl
  one_sorted [] (y ∷ ys) sx sy to back = absurd (back y (inl refl))
  one_sorted (x ∷ xs) [] sx sy to back = absurd (to x (inl refl))
  one_sorted (x ∷ xs) (y ∷ ys) sx sy to back =
      let first : x ≡ y = ⊎_elim (λ e. e) (λ behind. ⊎_elim (λ e. sym e)
      (λ later. absurd (both_before y x (of_one (λ z. cmp y z ≡ Less) ys x sy.0 behind) (of_one (λ z. cmp x z ≡ Less) xs y sx.0 later)))
      (back y (inl refl))) (to x (inl refl)) in
      let rest : xs ≡ ys = one_sorted xs ys sx.1 sy.1
      (λ z t. ⊎_elim (λ e. absurd (before_itself x (subst (λ (w : X). cmp x w ≡ Less) (e ∙ sym first) (of_one (λ w. cmp x w ≡ Less) xs z sx.0 t))))
      (λ u. u) (to z (inr t)))
      (λ z t. ⊎_elim (λ e. absurd (before_itself y (subst (λ (w : X). cmp y w ≡ Less) (e ∙ first) (of_one (λ w. cmp y w ≡ Less) ys z sy.0 t))))
      (λ u. u) (back z (inr t))) in
      ap (λ (z : X). z ∷ xs) first ∙ ap (λ (zs : List X). y ∷ zs) rest

  -- an item is put in: it and the others are there
  put_has : (x z : X) (ys : List X) → Has z (put_in cmp x ys) → (z ≡ x) ⊎ Has z ys
  put_has x z [] h = h
  put_has x z (y ∷ ys) h = chosen (Has z) (is_le (cmp x y)) (x ∷ y ∷ ys) (y ∷ put_in cmp x ys) (λ _ t. t)
      (λ _ t. ⊎_elim (λ e. inr (inl e)) (λ u. ⊎_elim (λ e. inl e) (λ v. inr (inr v)) (put_has x z ys u)) t) h

  has_put : (x z : X) (ys : List X) → (z ≡ x) ⊎ Has z ys → Has z (put_in cmp x ys)
  has_put x z [] h = h
  has_put x z (y ∷ ys) h = choose (Has z) (is_le (cmp x y)) (x ∷ y ∷ ys) (y ∷ put_in cmp x ys) (λ _. h)
      (λ _. ⊎_elim (λ e. inr (has_put x z ys (inl e))) (λ t. ⊎_elim (λ e. inl e) (λ u. inr (has_put x z ys (inr u))) t) h)

  pub in_order_has : (xs : List X) (z : X) → Has z (in_order cmp xs) → Has z xs
  in_order_has [] z h = h
  in_order_has (x ∷ xs) z h = ⊎_elim (λ e. inl e) (λ t. inr (in_order_has xs z t)) (put_has x z (in_order cmp xs) h)

  pub has_in_order : (xs : List X) (z : X) → Has z xs → Has z (in_order cmp xs)
  has_in_order [] z h = h
  has_in_order (x ∷ xs) z h = has_put x z (in_order cmp xs) (⊎_elim (λ e. inl e) (λ t. inr (has_in_order xs z t)) h)

  -- and it ties with none, so the list is sorted
  before : (x y : X) → is_le (cmp x y) ≡ true → is_eq (cmp x y) ≡ false → cmp x y ≡ Less
  before x y le ne = by (cmp x y) refl le ne
    where
      by : (o : Ordering) → cmp x y ≡ o → is_le o ≡ true → is_eq o ≡ false → cmp x y ≡ Less
      by Less e le ne = e
      by Equal e le ne = absurd (cc)
      by Greater e le ne = absurd (cc)

  behind : (x y : X) → is_le (cmp x y) ≡ false → cmp y x ≡ Less
  behind x y le = by (cmp x y) refl le
    where
      by : (o : Ordering) → cmp x y ≡ o → is_le o ≡ false → cmp y x ≡ Less
      by Less e le = absurd (cc)
      by Equal e le = absurd (cc)
      by Greater e le = turned x y e

  put_sorted : (x : X) (ys : List X) → ((z : X) → Has z ys → is_eq (cmp x z) ≡ false) → IsStrictlySortedBy cmp ys → IsStrictlySortedBy cmp (put_in cmp x ys)
  unfolding IsStrictlySortedBy
  put_sorted x [] apart s = (tt, tt)
  put_sorted x (y ∷ ys) apart s = choose (IsStrictlySortedBy cmp) (is_le (cmp x y)) (x ∷ y ∷ ys) (y ∷ put_in cmp x ys)
      (λ le. let lt : cmp x y ≡ Less = before x y le (apart y (inl refl)) in (
        (lt, of_all (λ z. cmp x z ≡ Less) ys (λ z t. total.trans x y z lt (of_one (λ w. cmp y w ≡ Less) ys z s.0 t))),
        s,
      ))
      (λ le. (
        of_all (λ z. cmp y z ≡ Less) (put_in cmp x ys) (λ z t. ⊎_elim (λ e. subst (λ (w : X). cmp y w ≡ Less) (sym e) (behind x y le))
            (λ u. of_one (λ w. cmp y w ≡ Less) ys z s.0 u) (put_has x z ys t)),
        put_sorted x ys (λ z t. apart z (inr t)) s.1,
      ))

  pub in_order_sorted : (xs : List X) → IsDistinct (eq_by_cmp cmp) xs → IsStrictlySortedBy cmp (in_order cmp xs)
  unfolding IsStrictlySortedBy IsDistinct
  in_order_sorted [] apart = tt
  in_order_sorted (x ∷ xs) apart = put_sorted x (in_order cmp xs)
      (λ z t. of_one (λ w. is_eq (cmp x w) ≡ false) xs z apart.0 (in_order_has xs z t)) (in_order_sorted xs apart.1)

  -- what a sort leaves of items no two of which tie is the list in the order
  sorted_from : (ys : List X) → IsDistinct (eq_by_cmp cmp) ys
      → ((i j : ℕ) (d : X) → i ≤ j → j < length ys → is_lt (cmp (get_or ys j d) (get_or ys i d)) ≡ false) → IsStrictlySortedBy cmp ys
  unfolding IsStrictlySortedBy IsDistinct
  sorted_from [] apart up = tt
  sorted_from (y ∷ ys) apart up = (
    of_all (λ z. cmp y z ≡ Less) ys (λ z t. let c = contains_had ys z t in
        ahead y z (subst (λ (w : X). is_lt (cmp w y) ≡ false) c.2 (up 0 (suc c.0) z (omega arith) (omega arith)))
        (of_one (λ w. is_eq (cmp y w) ≡ false) ys z apart.0 t)),
    sorted_from ys apart.1 (λ i j d le lt. up (suc i) (suc j) d (omega arith) (omega arith)),
  )
    where
      ahead : (x z : X) → is_lt (cmp z x) ≡ false → is_eq (cmp x z) ≡ false → cmp x z ≡ Less
      ahead x z lt ne = by (cmp x z) refl
        where
          by : (o : Ordering) → cmp x z ≡ o → cmp x z ≡ Less
          by Less e = e
          by Equal e = absurd (let f : is_eq (cmp x z) ≡ true = ap is_eq e in cc)
          by Greater e = absurd (let f : is_lt (cmp z x) ≡ true = ap is_lt (turned x z e) in cc)

  pub sorts : (xs ys : List X) → IsDistinct (eq_by_cmp cmp) xs → IsPermutation xs ys → IsSortedBy (λ x y. is_lt (cmp x y)) ys → ys ≡ in_order cmp xs
  sorts xs ys apart moved up = one_sorted ys (in_order cmp xs)
      (sorted_from ys (IsDistinct-IsPermutation (eq_by_cmp cmp) flips xs ys moved apart)
      (sorted_far (λ x y. is_lt (cmp x y)) (ranks_by total (λ x. x)) ys up))
      (in_order_sorted xs apart)
      (λ z t. has_in_order xs z (has_contained xs z (Contains-permutation ys xs z (IsPermutation-sym xs ys moved) (contains_had ys z t))))
      (λ z t. has_contained ys z (Contains-permutation xs ys z moved (contains_had xs z (in_order_has xs z t))))
    where
      flips : (x y : X) → eq_by_cmp cmp x y ≡ eq_by_cmp cmp y x
      flips x y = ap is_eq (total.antisymm x y) ∙ reversed (cmp y x)
        where
          reversed : (o : Ordering) → is_eq (ordering_reverse o) ≡ is_eq o
          reversed Less = refl
          reversed Equal = refl
          reversed Greater = refl
