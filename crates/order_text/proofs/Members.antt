-- Items of lists.
use Rattle.order_text.proofs.Common.{◌≡◌, ℕ, suc, ◌<◌, Bool, true, false, cond, ◌⊎◌, inl, inr, ⊎_elim, List, [], ◌∷◌, ◌++◌, length, map, filter, All, get_or}
use Rattle.order_text.proofs.Common.{refl, sym, ◌∙◌, subst, arith}
use Rattle.std.proofs.Common.{zero, Contains}
use Rattle.std.specs.List.{AllByRecursion}

-- a choice of two lists: what holds of it, and what follows
pub choose : {X : Type 0} (P : List X → Type 0) (b : Bool) (us vs : List X) → (b ≡ true → P us) → (b ≡ false → P vs) → P (cond b us vs)
choose P true us vs then_so otherwise = then_so refl
choose P false us vs then_so otherwise = otherwise refl

pub chosen : {X C : Type 0} (P : List X → Type 0) (b : Bool) (us vs : List X) → (b ≡ true → P us → C) → (b ≡ false → P vs → C) → P (cond b us vs) → C
chosen P true us vs then_so otherwise h = then_so refl h
chosen P false us vs then_so otherwise h = otherwise refl h

-- x is one of the items
abbrev pub Has : {X : Type 0} → X → List X → Type 0
Has x [] = ⊥
Has x (y ∷ ys) = (x ≡ y) ⊎ Has x ys

module _ {X : Type 0} where
  has_at : (ys : List X) (k : ℕ) (x : X) → k < length ys → get_or ys k x ≡ x → Has x ys
  has_at [] k x lt is = absurd (omega arith)
  has_at (y ∷ ys) zero x lt is = inl (sym is)
  has_at (y ∷ ys) (suc k) x lt is = inr (has_at ys k x (omega arith) is)

  pub has_contained : (ys : List X) (x : X) → Contains ys x → Has x ys
  has_contained ys x c = has_at ys c.0 x c.1 c.2

  pub contains_had : (ys : List X) (x : X) → Has x ys → Contains ys x
  contains_had [] x h = absurd h
  contains_had (y ∷ ys) x h = ⊎_elim (λ e. (0, omega arith, sym e)) (λ t. let r = contains_had ys x t in (suc r.0, omega arith, r.2)) h

  -- what holds of all items holds of one
  pub of_one : (P : X → Type 0) (ys : List X) (x : X) → AllByRecursion P ys → Has x ys → P x
  of_one P [] x all h = absurd h
  of_one P (y ∷ ys) x all h = ⊎_elim (λ e. subst P (sym e) all.0) (λ t. of_one P ys x all.1 t) h

  pub of_all : (P : X → Type 0) (ys : List X) → ((x : X) → Has x ys → P x) → AllByRecursion P ys
  of_all P [] each = tt
  of_all P (y ∷ ys) each = (each y (inl refl), of_all P ys (λ x t. each x (inr t)))

  pub of_every : (P : X → Type 0) (ys : List X) (x : X) → All P ys → Has x ys → P x
  of_every P ys x all h = let c = contains_had ys x h in subst P c.2 (all c.0 x c.1)

  pub of_each : (P : X → Type 0) (ys : List X) → ((x : X) → Has x ys → P x) → All P ys
  of_each P ys each = λ k d lt. each (get_or ys k d) (had ys k d lt)
    where
      had : (zs : List X) (k : ℕ) (d : X) → k < length zs → Has (get_or zs k d) zs
      had [] k d lt = absurd (omega arith)
      had (z ∷ zs) zero d lt = inl refl
      had (z ∷ zs) (suc k) d lt = inr (had zs k d (omega arith))

  -- the items that pass a test
  pub has_filtered : (p : X → Bool) (xs : List X) (z : X) → Has z (filter p xs) → Has z xs × (p z ≡ true)
  has_filtered p [] z h = absurd h
  has_filtered p (x ∷ xs) z h = chosen (Has z) (p x) (x ∷ filter p xs) (filter p xs)
      (λ e t. ⊎_elim (λ f. (inl f, subst (λ (w : X). p w ≡ true) (sym f) e)) (λ u. let r = has_filtered p xs z u in (inr r.0, r.1)) t)
      (λ e t. let r = has_filtered p xs z t in (inr r.0, r.1)) h

  pub filtered_has : (p : X → Bool) (xs : List X) (z : X) → Has z xs → p z ≡ true → Has z (filter p xs)
  filtered_has p [] z h yes_is = absurd h
  filtered_has p (x ∷ xs) z h passes = choose (Has z) (p x) (x ∷ filter p xs) (filter p xs)
      (λ e. ⊎_elim (λ f. inl f) (λ t. inr (filtered_has p xs z t passes)) h)
      (λ e. ⊎_elim (λ f. absurd (let g : p z ≡ false = subst (λ (w : X). p w ≡ false) (sym f) e in let both : true ≡ false = sym passes ∙ g in cc))
      (λ t. filtered_has p xs z t passes) h)

  -- those of two lists
  pub has_either : (xs ys : List X) (z : X) → Has z (xs ++ ys) → Has z xs ⊎ Has z ys
  has_either [] ys z h = inr h
  has_either (x ∷ xs) ys z h = ⊎_elim (λ e. inl (inl e)) (λ t. ⊎_elim (λ u. inl (inr u)) (λ v. inr v) (has_either xs ys z t)) h

-- those that a function gives
module _ {X Y : Type 0} (f : X → Y) where
  pub has_mapped : (xs : List X) (z : Y) → Has z (map f xs) → (x : X) × (Has x xs × (z ≡ f x))
  has_mapped [] z h = absurd h
  has_mapped (x ∷ xs) z h = ⊎_elim (λ e. (x, (inl refl, e))) (λ t. let m = has_mapped xs z t in (m.0, (inr m.1.0, m.1.1))) h

  pub mapped_has : (xs : List X) (x : X) → Has x xs → Has (f x) (map f xs)
  mapped_has [] x h = absurd h
  mapped_has (y ∷ ys) x h = ⊎_elim (λ e. inl (subst (λ (w : X). f x ≡ f w) e refl)) (λ t. inr (mapped_has ys x t)) h
