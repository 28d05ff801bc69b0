-- On an orderable list some item may always come, and the order is one alone.
use Rattle.order_rebuild.proofs.Common.{◌≡◌, ◌≢◌, ℕ, zero, suc, ◌<◌, ◌≤◌, ◌⊎◌, inl, inr, ⊎_elim, List, [], ◌∷◌, length, slice_get, take, Some, refl, sym, ap}
use Rattle.order_rebuild.proofs.Common.{◌∙◌, subst, arith, dite, ℕ_discrete, dec_lt, IsIn, take_all, slice_get_within, get-front, front-get, below_get, Spot}
use Rattle.order_rebuild.proofs.Common.{Precedes, MayCome, IsNext, IsOrder, Orderable}
use Rattle.history_model.proofs.ListPlaces.{take-more}

-- whether a number is in a list
pub is_in : (p : ℕ) (xs : List ℕ) → IsIn p xs ⊎ (IsIn p xs → ⊥)
is_in p [] = inr (λ m. let e = m.1 in cc)
is_in p (x ∷ xs) = dite (ℕ_discrete x p)
    (λ e. inl (zero, ap Some e))
    (λ ne. ⊎_elim (λ m. inl (suc m.0, m.1)) (λ none. inr (λ m. no_place ne none m.0 m.1)) (is_in p xs))
  where
    no_place : x ≢ p → (IsIn p xs → ⊥) → (i : ℕ) → slice_get (x ∷ xs) i ≡ Some p → ⊥
    no_place ne none zero e = let q : x ≡ p = cc in ne q
    no_place ne none (suc i) e = none (i, e)

-- of the numbers below n that are not in the list, one whose `number` is least
least_left : (number : ℕ → ℕ) (placed : List ℕ) (n : ℕ)
    → ((p : ℕ) × (p < n) × (IsIn p placed → ⊥) × ((q : ℕ) → q < n → (IsIn q placed → ⊥) → number p ≤ number q)) ⊎ ((q : ℕ) → q < n → IsIn q placed)
least_left number placed zero = inr (λ q l. absurd (omega arith))
least_left number placed (suc n) = ⊎_elim
    (λ f. ⊎_elim
    (λ m. inl (
      f.0,
      omega (arith, f.1),
      f.2,
      λ q l free. dite (ℕ_discrete q n) (λ e. absurd (free (subst (λ (i : ℕ). IsIn i placed) (sym e) m))) (λ ne. f.3 q (omega arith) free),
    ))
    (λ free. dite (dec_lt (number n) (number f.0))
    (λ l. inl (
      n,
      omega arith,
      free,
      λ q k none. dite (ℕ_discrete q n) (λ e. let s = ap number e in
          omega arith) (λ ne. let h = f.3 q (omega arith) none in omega arith),
    ))
    (λ l. inl (f.0, omega (arith, f.1), f.2, λ q k none. dite (ℕ_discrete q n) (λ e. let s = ap number e in omega arith) (λ ne. f.3 q (omega arith) none))))
    (is_in n placed))
    (λ all. ⊎_elim
    (λ m. inr (λ q l. dite (ℕ_discrete q n) (λ e. subst (λ (i : ℕ). IsIn i placed) (sym e) m) (λ ne. all q (omega arith))))
    (λ free. inl (
      n,
      omega arith,
      free,
      λ q l none. dite (ℕ_discrete q n) (λ e. let s = ap number e in
          omega arith) (λ ne. absurd (none (all q (omega arith)))),
    ))
    (is_in n placed))
    (least_left number placed n)

-- never stuck: while an item is left, one may come
pub not_stuck : (list : List Spot) → Orderable list → (placed : List ℕ) (p : ℕ) → p < length list → (IsIn p placed → ⊥)
    → (q : ℕ) × (spot : Spot) × MayCome list placed q spot
not_stuck list o placed p lt fresh = ⊎_elim
    (λ f. let s = below_get f.0 list f.1 in (
      f.0,
      s.0,
      record {
        at = s.1;
        fresh = f.2;
        first = λ q other e n ne before.
            let b = slice_get_within list q other e in
            let h = f.3 q b n in
            o.in_order f.0 q s.0 other s.1 e (dite (dec_lt (o.number f.0) (o.number q)) (λ l. l) (λ l. absurd (ne (o.own q f.0 b f.1 (omega arith))))) before;
      },
    ))
    (λ all. absurd (fresh (all p lt)))
    (least_left o.number placed (length list))

-- the next item is one alone
pub next_same : (list : List Spot) → Orderable list → (placed : List ℕ) (p q : ℕ) → IsNext list placed p → IsNext list placed q → p ≡ q
next_same list o placed p q a b = dite (ℕ_discrete p q) (λ e. e) (λ ne.
    let same : a.spot.caller ≡ b.spot.caller = (let l = a.least q b.spot b.may in let m = b.least p a.spot a.may in omega arith) in
    dite (ℕ_discrete a.spot.index b.spot.index)
    (λ e. o.apart p q a.spot b.spot a.may.at b.may.at same e)
    (λ d. dite (dec_lt a.spot.index b.spot.index)
    (λ l. absurd (b.may.first p a.spot a.may.at a.may.fresh ne (inr (same, l))))
    (λ l. absurd (a.may.first q b.spot b.may.at b.may.fresh (λ e. ne (sym e)) (inr (sym same, omega arith))))))

-- so is the order
fronts : (list : List Spot) → Orderable list → (one two : List ℕ) → IsOrder list one → IsOrder list two → (i : ℕ)
    → i ≤ length one → i ≤ length two → take i one ≡ take i two
fronts list o one two a b zero l m = refl
fronts list o one two a b (suc i) l m =
    let x = below_get i one (omega arith) in
    let y = below_get i two (omega arith) in
    let before : take i one ≡ take i two = fronts list o one two a b i (omega arith) (omega arith) in
    let same : x.0 ≡ y.0 = next_same list o (take i two) x.0 y.0 (subst (λ (t : List ℕ). IsNext list t x.0) before (a.each i x.0 x.1)) (b.each i y.0 y.1) in
    take-more i one x.0 x.1 ∙ (rw (before, same) refl ∙ sym (take-more i two y.0 y.1))

not_longer : (list : List Spot) → Orderable list → (one two : List ℕ) → IsOrder list one → IsOrder list two → length one < length two → ⊥
not_longer list o one two a b l =
    let y = below_get (length one) two l in
    let n = b.each (length one) y.0 y.1 in
    let low = slice_get_within list y.0 n.spot n.may.at in
    let same : one ≡ take (length one) two = sym (take_all (length one) one (omega arith))
    ∙ fronts list o one two a b (length one) (omega arith) (omega arith) in
    n.may.fresh (subst (λ (t : List ℕ). IsIn y.0 t) same (a.whole y.0 low))

pub order_same : (list : List Spot) → Orderable list → (one two : List ℕ) → IsOrder list one → IsOrder list two → one ≡ two
order_same list o one two a b =
    let m : length one ≡ length two = equal (length one) (length two) (not_longer list o one two a b) (not_longer list o two one b a) in
    sym (take_all (length one) one (omega arith)) ∙ (fronts list o one two a b (length one) (omega arith) (omega arith)
    ∙ (ap (λ (n : ℕ). take n two) m ∙ take_all (length two) two (omega arith)))
  where
    equal : (i j : ℕ) → (i < j → ⊥) → (j < i → ⊥) → i ≡ j
    equal i j a b = grind arith

-- what the order is for: none comes before one that stands earlier, and no place stands twice
pub order_once : (list : List Spot) (out : List ℕ) → IsOrder list out → (i j p : ℕ) → slice_get out i ≡ Some p → slice_get out j ≡ Some p → i < j → ⊥
order_once list out o i j p e f l = (o.each j p f).may.fresh (i, front-get j i out p l e)

pub order_keeps : (list : List Spot) (out : List ℕ) → IsOrder list out → (i j p q : ℕ) (x y : Spot)
    → slice_get out i ≡ Some p → slice_get out j ≡ Some q → slice_get list p ≡ Some x → slice_get list q ≡ Some y → i < j → Precedes y x → ⊥
order_keeps list out o i j p q x y e f a b l before =
    let n = o.each i p e in
    let same : n.spot ≡ x = some_same n.spot x (sym n.may.at ∙ a) in
    n.may.first q y b
    (λ m. let g = get-front i m.0 out q m.1 in order_once list out o m.0 j q g.1 f (omega (arith, g.0)))
    (λ z. order_once list out o i j p e (f ∙ ap Some z) l)
    (subst (λ (s : Spot). Precedes y s) (sym same) before)
  where
    some_same : (u v : Spot) → Some u ≡ Some v → u ≡ v
    some_same u v e = cc
