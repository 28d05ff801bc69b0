-- Lists by their places: one item changes, or one more comes.
use Rattle.worker_pool.proofs.Common.{◌≡◌, ℕ, ◌+◌, ◌<◌, List, [], ◌∷◌, ◌++◌, length, get_or, sym, refl, ap, ◌∙◌, subst, arith, length-append}
use Rattle.worker_pool.proofs.Common.{get_or_append_left, get_or_push, dite, ℕ_discrete}

module _ {X Y : Type 0} (R : X → Y → Type 0) where
  -- the items of two lists are related, each with that at its place
  abbrev pub AreRelated : List X → List Y → Type 0
  AreRelated xs ys = (k : ℕ) (d : X) (e : Y) → k < length xs → R (get_or xs k d) (get_or ys k e)

  pub related_push : (xs : List X) (ys : List Y) (x : X) (y : Y) → length ys ≡ length xs → AreRelated xs ys → R x y → AreRelated (xs ++ x ∷ []) (ys ++ y ∷ [])
  related_push xs ys x y long each one k d e lt = dite (ℕ_discrete k (length xs))
      (λ at.
      let left : get_or (xs ++ x ∷ []) k d ≡ x = ap (λ i. get_or (xs ++ x ∷ []) i d) at ∙ get_or_push xs x d (length xs) refl in
      let right : get_or (ys ++ y ∷ []) k e ≡ y = ap (λ i. get_or (ys ++ y ∷ []) i e) (at ∙ sym long) ∙ get_or_push ys y e (length ys) refl in
      subst (λ (z : X × Y). R z.0 z.1) (λ i. (sym left i, sym right i)) one)
      (λ off.
      let within : k < length xs = omega (arith, off, lt, length-append xs (x ∷ [])) in
      subst (λ (z : X × Y). R z.0 z.1) (λ i. (
        sym (get_or_append_left xs (x ∷ []) d k within) i,
        sym (get_or_append_left ys (y ∷ []) e k (omega (arith, within, long))) i,
      )) (each k d e within))
