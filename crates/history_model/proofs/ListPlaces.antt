-- A list by its places: its first part, one element more at its end, and lists that are one.
use Rattle.history_model.proofs.Common.{◌≡◌, ℕ, zero, suc, ◌<◌, ◌⊎◌, inl, inr, ⊎_elim, List, [], ◌∷◌, ◌++◌, length, slice_get, take, Some, refl, sym, ap, ◌∙◌}
use Rattle.history_model.proofs.Common.{arith, slice_get_within, slice_get-get_or, get_or_from_slice_get, same_Some}
use Rattle.std.proofs.Common.{get_or, replicate, map}
use Rattle.std.proofs.Math.Seq.{take-suc}
use Rattle.std.proofs.lemmas.List.{same_lists, length-replicate, get_or-replicate}

-- what stands at a place of the first part
pub get_first : {A : Type 0} (xs ys : List A) (i : ℕ) → i < length xs → slice_get (xs ++ ys) i ≡ slice_get xs i
get_first [] ys i h = absurd (omega arith)
get_first (x ∷ xs) ys zero h = refl
get_first (x ∷ xs) ys (suc i) h = get_first xs ys i (omega arith)

-- the one that was put at the end
pub get_last : {A : Type 0} (xs : List A) (y : A) → slice_get (xs ++ y ∷ []) (length xs) ≡ Some y
get_last [] y = refl
get_last (x ∷ xs) y = get_last xs y

-- an element of a list with one more at its end
pub get_cases : {A : Type 0} (xs : List A) (y x : A) (i : ℕ) → slice_get (xs ++ y ∷ []) i ≡ Some x
    → ((i < length xs) × (slice_get xs i ≡ Some x)) ⊎ ((i ≡ length xs) × (y ≡ x))
get_cases [] y x zero e = inr (refl, same_Some y x e)
get_cases [] y x (suc i) e = absurd (cc)
get_cases (z ∷ xs) y x zero e = inl (omega arith, e)
get_cases (z ∷ xs) y x (suc i) e = ⊎_elim (λ t. inl (omega (arith, t.0), t.1)) (λ t. inr (ap suc t.0, t.1)) (get_cases xs y x i e)

-- what stands in the front of a list
pub get-front : {A : Type 0} (p i : ℕ) (xs : List A) (x : A) → slice_get (take p xs) i ≡ Some x → (i < p) × (slice_get xs i ≡ Some x)
get-front zero i xs x e = cc
get-front (suc p) i [] x e = cc
get-front (suc p) zero (y ∷ xs) x e = (omega arith, e)
get-front (suc p) (suc i) (y ∷ xs) x e = let r = get-front p i xs x e in (omega (arith, r.0), r.1)

-- and the other way round
pub front-get : {A : Type 0} (p i : ℕ) (xs : List A) (x : A) → i < p → slice_get xs i ≡ Some x → slice_get (take p xs) i ≡ Some x
front-get zero i xs x h e = absurd (omega arith)
front-get (suc p) i [] x h e = cc
front-get (suc p) zero (y ∷ xs) x h e = e
front-get (suc p) (suc i) (y ∷ xs) x h e = front-get p i xs x (omega arith) e

-- each place below the length has an element
pub below_get : {A : Type 0} (i : ℕ) (xs : List A) → i < length xs → (x : A) × (slice_get xs i ≡ Some x)
below_get i [] h = absurd (omega arith)
below_get zero (y ∷ xs) h = (y, refl)
below_get (suc i) (y ∷ xs) h = below_get i xs (omega arith)

-- the front with one element more
pub take-more : {A : Type 0} (p : ℕ) (xs : List A) (x : A) → slice_get xs p ≡ Some x → take (suc p) xs ≡ take p xs ++ x ∷ []
take-more {A} p xs x e = take-suc xs p x (slice_get_within xs p x e) ∙ ap (λ (y : A). take p xs ++ y ∷ []) (get_or_from_slice_get xs p x x e)

-- lists of one length with the same elements are one
pub same_list : {A : Type 0} (xs ys : List A) → length xs ≡ length ys → ((i : ℕ) (x : A) → slice_get xs i ≡ Some x → slice_get ys i ≡ Some x) → xs ≡ ys
same_list xs ys l h = same_lists xs ys l (λ k d lt. sym (get_or_from_slice_get ys k (get_or xs k d) d (h k (get_or xs k d) (slice_get-get_or xs k d lt))))

-- what stands in a mapped list
pub map_at : {A B : Type 0} (f : A → B) (xs : List A) (i : ℕ) (y : B) → slice_get (map f xs) i ≡ Some y → (x : A) × (slice_get xs i ≡ Some x) × (f x ≡ y)
map_at f [] i y e = cc
map_at f (x ∷ xs) zero y e = (x, refl, cc)
map_at f (x ∷ xs) (suc i) y e = map_at f xs i y e

-- and the other way round
pub at_map : {A B : Type 0} (f : A → B) (xs : List A) (i : ℕ) (x : A) → slice_get xs i ≡ Some x → slice_get (map f xs) i ≡ Some (f x)
at_map f [] i x e = cc
at_map f (z ∷ xs) zero x e = let q : z ≡ x = cc in ap (λ w. Some (f w)) q
at_map f (z ∷ xs) (suc i) x e = at_map f xs i x e

-- each word of a list of zeros is 0
pub zero_there : (n i : ℕ) (ws : List ℕ) → ws ≡ replicate n 0 → i < n → slice_get ws i ≡ Some 0
zero_there n i ws e lt =
    let nil : ℕ = 0 in
    let zeros : List ℕ = replicate n nil in
    ap (λ xs. slice_get xs i) e ∙ slice_get-get_or zeros i 0 (let long : length zeros ≡ n = length-replicate n nil in
    omega (arith, long, lt)) ∙ ap (λ k. Some k) (get_or-replicate n i nil nil lt)
