-- Lists that are put together of others, and two lists of which the one has something for each of the other.
use Rattle.txn_commit.proofs.Common.{◌≡◌, ◌≢◌, ℕ, zero, suc, ◌<◌, ⊎_elim, List, [], ◌∷◌, ◌++◌, All, AllPairs, flat_map, length, map, get_or, slice_get, Some}
use Rattle.txn_commit.proofs.Common.{refl, sym, ap, ◌∙◌, subst, subst₂, arith, append-nil, flat_map-cons, All-append, AllPairs-cons, get_or_from_slice_get}
use Rattle.txn_commit.proofs.Common.{slice_get-get_or, slice_get_within, IsIn, in_first}
use Rattle.word_table.proofs.Common.{in_second, none_in}
use Rattle.std.proofs.lemmas.Option.{same_Some}
use Rattle.values_rule.proofs.Told.ItemsIn.{in_parts}

-- of all that stands in a list
pub all_in : {X : Type 0} (P : X → Type 0) (xs : List X) → ((x : X) → IsIn x xs → P x) → All P xs
all_in P xs h k d lt = h (get_or xs k d) (k, slice_get-get_or xs k d lt)

pub of_in : {X : Type 0} (P : X → Type 0) (xs : List X) → All P xs → (x : X) → IsIn x xs → P x
of_in P xs all x t = subst P (get_or_from_slice_get xs t.0 x x t.1) (all t.0 x (slice_get_within xs t.0 x t.1))

-- what stands in lists that are put together stands in one of them
pub in_flat : {X Y : Type 0} (f : X → List Y) (xs : List X) (y : Y) → IsIn y (flat_map f xs) → (k : ℕ) × (x : X) × (slice_get xs k ≡ Some x) × IsIn y (f x)
in_flat f [] y t = absurd (none_in y t)
in_flat f (x ∷ xs) y t = ⊎_elim (λ h. (zero, x, refl, h)) (λ h. let r = in_flat f xs y h in (suc r.0, r.1, r.2, r.3)) (in_parts (f x) (flat_map f xs) y t)

pub into_flat : {X Y : Type 0} (f : X → List Y) (xs : List X) (y : Y) (k : ℕ) (x : X) → slice_get xs k ≡ Some x → IsIn y (f x) → IsIn y (flat_map f xs)
into_flat f [] y k x at t = absurd (none_in x (k, at))
into_flat f (z ∷ xs) y zero x at t = in_first (f z) (flat_map f xs) y (subst (λ w. IsIn y (f w)) (sym (same_Some z x at)) t)
into_flat f (z ∷ xs) y (suc k) x at t = in_second (f z) (flat_map f xs) y (into_flat f xs y k x at t)

-- if all but one are empty, that one is all
nothing_flat : {X Y : Type 0} (g : X → List Y) (xs : List X) → ((k : ℕ) (x : X) → slice_get xs k ≡ Some x → g x ≡ []) → flat_map g xs ≡ []
nothing_flat g [] none = refl
nothing_flat g (x ∷ xs) none = flat_map-cons g x xs ∙ ap (λ l. l ++ flat_map g xs) (none zero x refl) ∙ nothing_flat g xs (λ k y at. none (suc k) y at)

pub one_flat : {X Y : Type 0} (g : X → List Y) (xs : List X) (j : ℕ) (x : X) → slice_get xs j ≡ Some x
    → ((k : ℕ) (y : X) → slice_get xs k ≡ Some y → k ≢ j → g y ≡ []) → flat_map g xs ≡ g x
one_flat g [] j x at others = absurd (none_in x (j, at))
one_flat g (y ∷ xs) zero x at others = flat_map-cons g y xs
    ∙ ap (λ l. g y ++ l) (nothing_flat g xs (λ k z e. others (suc k) z e (λ same. absurd (omega (arith, same)))))
    ∙ append-nil (g y) ∙ ap g (same_Some y x at)
one_flat g (y ∷ xs) (suc j) x at others = flat_map-cons g y xs
    ∙ ap (λ l. l ++ flat_map g xs) (others zero y refl (λ same. absurd (omega (arith, same))))
    ∙ one_flat g xs j x at (λ k z e off. others (suc k) z e (λ same. off (omega (arith, same))))

-- pairs of what stands in lists that are put together: of one, or of two in their order
pairs_both : {Y : Type 0} (R : Y → Y → Type 0) (xs ys : List Y) → AllPairs R xs → AllPairs R ys → ((a b : Y) → IsIn a xs → IsIn b ys → R a b)
    → AllPairs R (xs ++ ys)
pairs_both R [] ys first second cross = second
pairs_both R (x ∷ xs) ys first second cross = AllPairs-cons R x (xs ++ ys)
    (All-append (R x) xs ys (λ k d lt. first 0 (suc k) d (omega arith) (omega (arith, lt))) (all_in (R x) ys (λ b t. cross x b (zero, refl) t)))
    (pairs_both R xs ys (λ i j d lt short. first (suc i) (suc j) d (omega (arith, lt)) (omega (arith, short))) second
    (λ a b s t. cross a b (suc s.0, s.1) t))

pub pairs_flat : {X Y : Type 0} (R : Y → Y → Type 0) (f : X → List Y) (xs : List X)
    → ((k : ℕ) (x : X) → slice_get xs k ≡ Some x → AllPairs R (f x))
    → ((i j : ℕ) (x y : X) → slice_get xs i ≡ Some x → slice_get xs j ≡ Some y → i < j → (a b : Y) → IsIn a (f x) → IsIn b (f y) → R a b)
    → AllPairs R (flat_map f xs)
pairs_flat R f [] own cross = λ i j d lt short. absurd (omega arith)
pairs_flat R f (x ∷ xs) own cross = subst (AllPairs R) (sym (flat_map-cons f x xs))
    (pairs_both R (f x) (flat_map f xs) (own zero x refl)
    (pairs_flat R f xs (λ k y at. own (suc k) y at) (λ i j y z at_y at_z lt. cross (suc i) (suc j) y z at_y at_z (omega (arith, lt))))
    (λ a b s t. let r = in_flat f xs b t in cross zero (suc r.0) x r.1 refl r.2 (omega arith) a b s r.3))

-- two lists of one length, where what stands at a place of the one and what stands there in the other are related
pub record AreBeside {X Y : Type 0} (R : X → Y → Type 0) (xs : List X) (ys : List Y) : Type 0 where
  pub as_many : length xs ≡ length ys
  pub each : (k : ℕ) (x : X) (y : Y) → slice_get xs k ≡ Some x → slice_get ys k ≡ Some y → R x y

module _ {X Y : Type 0} (R : X → Y → Type 0) where
  beside_none : AreBeside R [] []
  beside_none = record { as_many = refl; each = λ k x y at_x at_y. absurd (none_in x (k, at_x)) }

  beside_one : (x : X) (y : Y) (xs : List X) (ys : List Y) → R x y → AreBeside R xs ys → AreBeside R (x ∷ xs) (y ∷ ys)
  beside_one x y xs ys here rest = record { as_many = ap suc rest.as_many; each = at }
    where
      at : (k : ℕ) (a : X) (b : Y) → slice_get (x ∷ xs) k ≡ Some a → slice_get (y ∷ ys) k ≡ Some b → R a b
      at zero a b at_a at_b = subst (λ z. R a z) (same_Some y b at_b) (subst (λ z. R z y) (same_Some x a at_a) here)
      at (suc k) a b at_a at_b = rest.each k a b at_a at_b

  beside_both : (xs us : List X) (ys vs : List Y) → AreBeside R xs ys → AreBeside R us vs → AreBeside R (xs ++ us) (ys ++ vs)
  beside_both [] us [] vs first second = second
  beside_both [] us (y ∷ ys) vs first second = absurd (omega (arith, first.as_many))
  beside_both (x ∷ xs) us [] vs first second = absurd (omega (arith, first.as_many))
  beside_both (x ∷ xs) us (y ∷ ys) vs first second = beside_one x y (xs ++ us) (ys ++ vs) (first.each zero x y refl refl)
      (beside_both xs us ys vs (record { as_many = omega (arith, first.as_many); each = λ k a b at_a at_b. first.each (suc k) a b at_a at_b }) second)

  pub beside_flat : {U V : Type 0} (f : U → List X) (g : V → List Y) (us : List U) (vs : List V) → length us ≡ length vs
      → ((k : ℕ) (u : U) (v : V) → slice_get us k ≡ Some u → slice_get vs k ≡ Some v → AreBeside R (f u) (g v))
      → AreBeside R (flat_map f us) (flat_map g vs)
  beside_flat f g [] [] long each = beside_none
  beside_flat f g [] (v ∷ vs) long each = absurd (omega (arith, long))
  beside_flat f g (u ∷ us) [] long each = absurd (omega (arith, long))
  beside_flat f g (u ∷ us) (v ∷ vs) long each = subst₂ (AreBeside R) (sym (flat_map-cons f u us)) (sym (flat_map-cons g v vs))
      (beside_both (f u) (flat_map f us) (g v) (flat_map g vs) (each zero u v refl refl)
      (beside_flat f g us vs (omega (arith, long)) (λ k a b at_a at_b. each (suc k) a b at_a at_b)))

  -- the two images of each of a list
  pub beside_images : {Z : Type 0} (f : Z → X) (g : Z → Y) (zs : List Z) → ((z : Z) → IsIn z zs → R (f z) (g z)) → AreBeside R (map f zs) (map g zs)
  beside_images f g [] each = beside_none
  beside_images f g (z ∷ zs) each = beside_one (f z) (g z) (map f zs) (map g zs) (each z (zero, refl))
      (beside_images f g zs (λ w t. each w (suc t.0, t.1)))
