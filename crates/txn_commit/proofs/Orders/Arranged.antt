-- What stands at places, each of which stands among them once.
use Rattle.txn_commit.proofs.Common.{◌≡◌, ◌≢◌, ℕ, zero, suc, ◌+◌, ◌<◌, List, [], ◌∷◌, ◌++◌, All, AllPairs, length, length-append, get_or, slice_get, slice_set}
use Rattle.txn_commit.proofs.Common.{Option, Some, None, refl, sym, ap, ◌∙◌, subst, arith, dite, dec_lt, get_or_from_slice_get, slice_get-get_or}
use Rattle.txn_commit.proofs.Common.{slice_get_within, IsIn, AreAt}
use Rattle.order_rebuild.proofs.Common.{get_first, get_last}
use Rattle.std.proofs.lemmas.List.{length-set}

-- all places below n, each once
pub record AreAllPlaces (n : ℕ) (places : List ℕ) : Type 0 where
  pub within : (i p : ℕ) → slice_get places i ≡ Some p → p < n
  pub once : (i j p : ℕ) → slice_get places i ≡ Some p → slice_get places j ≡ Some p → i ≡ j
  pub whole : (p : ℕ) → p < n → IsIn p places

-- two that stand at places of a list in pairs
pub by_place : {X : Type 0} (R : X → X → Type 0) (xs : List X) → AllPairs R xs → (p q : ℕ) (x y : X)
    → slice_get xs p ≡ Some x → slice_get xs q ≡ Some y → p < q → R x y
by_place {X = X} R xs all p q x y at_x at_y lt =
    let within = slice_get_within xs q y at_y in
    let here : get_or xs p x ≡ x = get_or_from_slice_get xs p x x at_x in
    let there : get_or xs q x ≡ y = get_or_from_slice_get xs q y x at_y in
    subst (λ (z : X). R z y) here (subst (λ (z : X). R (get_or xs p x) z) there (all p q x lt within))

module _ {X : Type 0} (given done : List X) (places : List ℕ) (at : AreAt given places done) (all : AreAllPlaces (length given) places) where
  -- what stands in the one stands in the other
  pub place_of_done : (k : ℕ) (x : X) → slice_get done k ≡ Some x → (p : ℕ) × (slice_get places k ≡ Some p) × (slice_get given p ≡ Some x)
  place_of_done k x e =
      let lt : k < length places = omega (arith, slice_get_within done k x e, at.count) in
      let is = slice_get-get_or places k 0 lt in
      (get_or places k 0, is, sym (at.each k (get_or places k 0) is) ∙ e)

  pub all_arranged : (P : X → Type 0) → All P given → All P done
  all_arranged P each k d lt =
      let x : X = get_or done k d in
      let t = place_of_done k x (slice_get-get_or done k d lt) in
      subst P (get_or_from_slice_get given t.0 x x t.2) (each t.0 x (slice_get_within given t.0 x t.2))

-- another place than the one that changes
other_place : {X : Type 0} (xs : List X) (i j : ℕ) (v : X) → j ≢ i → slice_get (slice_set xs i v) j ≡ slice_get xs j
other_place [] i j v off = refl
other_place (x ∷ xs) zero zero v off = absurd (off refl)
other_place (x ∷ xs) zero (suc j) v off = refl
other_place (x ∷ xs) (suc i) zero v off = refl
other_place (x ∷ xs) (suc i) (suc j) v off = other_place xs i j v (λ e. off (ap suc e))

-- what stood at the first places is arranged, and all else still stands
pub record IsArranging {X : Type 0} (given : List X) (places : List ℕ) (k : ℕ) (left : List (Option X)) (arranged : List X) : Type 0 where
  pub long : length left ≡ length given
  pub count : length arranged ≡ k
  pub each : (i p : ℕ) → i < k → slice_get places i ≡ Some p → slice_get arranged i ≡ slice_get given p
  pub still : (p : ℕ) (x : X) → slice_get given p ≡ Some x → ((i : ℕ) → i < k → slice_get places i ≡ Some p → ⊥) → slice_get left p ≡ Some (Some x)

pub arranged_all : {X : Type 0} (given : List X) (places : List ℕ) (left : List (Option X)) (arranged : List X)
    → IsArranging given places (length places) left arranged → AreAt given places arranged
arranged_all given places left arranged a = record {
  count = a.count;
  each = λ i p e. a.each i p (slice_get_within places i p e) e;
}

module _ {X : Type 0} (given : List X) (places : List ℕ) (k : ℕ) (left : List (Option X)) (arranged : List X)
    (within : (i p : ℕ) → slice_get places i ≡ Some p → p < length given)
    (once : (i j p : ℕ) → slice_get places i ≡ Some p → slice_get places j ≡ Some p → i ≡ j)
    (a : IsArranging given places k left arranged) (lt : k < length places) where
  place_k : slice_get places k ≡ Some (get_or places k 0)
  place_k = slice_get-get_or places k 0 lt

  some_of : (xs : List X) (p : ℕ) → p < length xs → (x : X) × (slice_get xs p ≡ Some x)
  some_of [] p less = absurd (omega arith)
  some_of (x ∷ xs) p less = (get_or (x ∷ xs) p x, slice_get-get_or (x ∷ xs) p x less)

  -- what stands at the next place still stands
  pub at_hand : (x : X) × (slice_get given (get_or places k 0) ≡ Some x) × (slice_get left (get_or places k 0) ≡ Some (Some x))
  at_hand =
      let t = some_of given (get_or places k 0) (within k (get_or places k 0) place_k) in
      (t.0, t.1, a.still (get_or places k 0) t.0 t.1 (λ i less e. absurd (omega (arith, once i k (get_or places k 0) e place_k, less))))

  pub one_arranged : (x : X) (after : List X) (d : Option X) → get_or left (get_or places k 0) d ≡ Some x → after ≡ arranged ++ x ∷ []
      → IsArranging given places (k + 1) (slice_set left (get_or places k 0) None) after
  one_arranged x after d found is =
      let p : ℕ = get_or places k 0 in
      let hand = at_hand in
      let there : Some hand.0 ≡ Some x = sym (get_or_from_slice_get left p (Some hand.0) d hand.2) ∙ found in
      record {
        long = length-set left p None ∙ a.long;
        count = omega (arith, ap (λ l. length l) is, length-append arranged (x ∷ []), a.count);
        each = λ i q less e. dite (dec_lt i k)
            (λ early. ap (λ l. slice_get l i) is ∙ (get_first arranged (x ∷ []) i (omega (arith, early, a.count)) ∙ a.each i q early e))
            (λ late.
            let here : i ≡ k = omega (arith, less, late) in
            let same : q ≡ p = same_place q p (sym e ∙ (ap (λ n. slice_get places n) here ∙ place_k)) in
            ap (λ l. slice_get l i) is ∙ (ap (λ n. slice_get (arranged ++ x ∷ []) n) (here ∙ sym a.count)
            ∙ (get_last arranged x ∙ (sym there ∙ (sym hand.1 ∙ ap (λ n. slice_get given n) (sym same))))));
        still = λ q y e none.
            other_place left p q None (λ same. none k (omega arith) (place_k ∙ ap Some (sym same)))
            ∙ a.still q y e (λ i less f. none i (omega (arith, less)) f);
      }
    where
      same_place : (u v : ℕ) → Some u ≡ Some v → u ≡ v
      same_place u v e = cc
