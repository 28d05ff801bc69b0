-- Items as a finite map, by a key and with a value of each: one item more, fewer, and how many entries there are.
use Rattle.order_match.proofs.Common.{◌≡◌, ◌≢◌, ℕ, ◌==◌, Bool, true, false, cond, not, inl, inr, List, [], ◌∷◌, ◌++◌, map, filter, length, Some, None, refl}
use Rattle.order_match.proofs.Common.{sym, ap, ◌∙◌, subst, arith, eq-eqb, eqb-true, ne_eqb, same_Some, option_map, dite, ℕ_discrete, nat_cmp_total, nat_cmp}
use Rattle.order_match.proofs.Common.{eq_by_cmp, nat_cmp-IsAntisymmetric, len_after_insert, Entries, Has}
use Rattle.std.proofs.lemmas.List.{map-append}
use Rattle.std.specs.Prelude.{find as first}
use Rattle.std.specs.FinMap.Entries.{find}
use Rattle.txn_tree_map.proofs.Held.Entries.{tied, untied}
use Rattle.txn_stores.proofs.Maps.{removed_here, removed_there}
use Rattle.std.specs.FinMap as finite

same_test : (q k : ℕ) → eq_by_cmp nat_cmp q k ≡ (k == q)
same_test q k = dite (ℕ_discrete q k)
    (λ e. tied q k e ∙ sym (eq-eqb k q (sym e)))
    (λ ne. untied q k ne ∙ sym (ne_eqb k q (λ e. ne (sym e))))

module _ {X : Type 0} (key value : X → ℕ) where
  abbrev pub map_of : List X → Entries
  map_of xs = finite.from_entries (map (λ x. (key x, value x)) xs)

  found_by : (q : ℕ) (xs : List X) → find nat_cmp q (map (λ x. (key x, value x)) xs) ≡ option_map value (first (λ x. key x == q) xs)
  found_by q [] = refl
  found_by q (x ∷ xs) =
      ap (λ b. cond b (Some (value x)) (find nat_cmp q (map (λ y. (key y, value y)) xs))) (same_test q (key x))
      ∙ ap (λ o. cond (key x == q) (Some (value x)) o) (found_by q xs)
      ∙ at (key x == q)
    where
      at : (b : Bool) → cond b (Some (value x)) (option_map value (first (λ y. key y == q) xs))
          ≡ option_map value (cond b (Some x) (first (λ y. key y == q) xs))
      at true = refl
      at false = refl

  -- what a key has: the value of the first item with it
  pub get_map : (q : ℕ) (xs : List X) → finite.get (map_of xs) q ≡ option_map value (first (λ x. key x == q) xs)
  get_map q xs = finite.get-from_entries nat_cmp_total (map (λ x. (key x, value x)) xs) q ∙ found_by q xs

  -- no item has the key
  pub first_none : (q : ℕ) (xs : List X) → ((x : X) → Has x xs → key x ≢ q) → first (λ x. key x == q) xs ≡ None
  first_none q [] apart = refl
  first_none q (x ∷ xs) apart = ap (λ b. cond b (Some x) (first (λ y. key y == q) xs)) (ne_eqb (key x) q (apart x (inl refl)))
      ∙ first_none q xs (λ y h. apart y (inr h))

  -- one item alone has it
  pub first_is : (q : ℕ) (z : X) (xs : List X) → Has z xs → key z ≡ q → ((x : X) → Has x xs → key x ≡ q → x ≡ z)
      → first (λ x. key x == q) xs ≡ Some z
  first_is q z [] h e one = absurd h
  first_is q z (x ∷ xs) h e one = dite (ℕ_discrete (key x) q)
      (λ same. ap (λ b. cond b (Some x) (first (λ y. key y == q) xs)) (eq-eqb (key x) q same) ∙ ap Some (one x (inl refl) same))
      (λ ne. ap (λ b. cond b (Some x) (first (λ y. key y == q) xs)) (ne_eqb (key x) q ne)
      ∙ first_is q z xs (elim h [ inl here ↦ absurd (ne (ap key (sym here) ∙ e)) | inr there ↦ there ]) e (λ y k. one y (inr k)))

  -- an item that is found is one of them, and has the key
  pub first_has : (q : ℕ) (z : X) (xs : List X) → first (λ x. key x == q) xs ≡ Some z → Has z xs × (key z ≡ q)
  first_has q z [] e = absurd (cc)
  first_has q z (x ∷ xs) e = at (key x == q) refl e (λ told. first_has q z xs told)
    where
      at : (b : Bool) → (key x == q) ≡ b → cond b (Some x) (first (λ y. key y == q) xs) ≡ Some z
          → (first (λ y. key y == q) xs ≡ Some z → Has z xs × (key z ≡ q)) → Has z (x ∷ xs) × (key z ≡ q)
      at true is told rest = let same : x ≡ z = same_Some x z told in (inl (sym same), ap key (sym same) ∙ eqb-true (key x) q is)
      at false is told rest = let t = rest told in (inr t.0, t.1)

  -- without the items of a key
  abbrev others : ℕ → List X → List X
  others q xs = filter (λ x. not (key x == q)) xs

  gone : (q : ℕ) (xs : List X) → first (λ x. key x == q) (others q xs) ≡ None
  gone q [] = refl
  gone q (x ∷ xs) = at (key x == q) refl (gone q xs)
    where
      at : (b : Bool) → (key x == q) ≡ b → first (λ y. key y == q) (others q xs) ≡ None
          → first (λ y. key y == q) (cond (not b) (x ∷ others q xs) (others q xs)) ≡ None
      at true e rest = rest
      at false e rest = ap (λ b. cond b (Some x) (first (λ y. key y == q) (others q xs))) e ∙ rest

  stays : (k q : ℕ) → q ≢ k → (xs : List X) → first (λ x. key x == q) (others k xs) ≡ first (λ x. key x == q) xs
  stays k q ne [] = refl
  stays k q ne (x ∷ xs) = at (key x == k) refl (stays k q ne xs)
    where
      at : (b : Bool) → (key x == k) ≡ b → first (λ y. key y == q) (others k xs) ≡ first (λ y. key y == q) xs
          → first (λ y. key y == q) (cond (not b) (x ∷ others k xs) (others k xs)) ≡ first (λ y. key y == q) (x ∷ xs)
      at true e rest = rest ∙ sym (ap (λ b. cond b (Some x) (first (λ y. key y == q) xs))
          (ne_eqb (key x) q (λ same. ne (sym same ∙ eqb-true (key x) k e))))
      at false e rest = ap (λ o. cond (key x == q) (Some x) o) rest

  pub map_without : (k : ℕ) (xs : List X) → map_of (filter (λ x. not (key x == k)) xs) ≡ finite.remove (map_of xs) k
  map_without k xs = finite.same_map nat_cmp_total nat_cmp-IsAntisymmetric (map_of (filter (λ x. not (key x == k)) xs)) (finite.remove (map_of xs) k)
      (λ q. get_map q (filter (λ x. not (key x == k)) xs) ∙ dite (ℕ_discrete q k)
      (λ e. subst (λ z. option_map value (first (λ x. key x == z) (filter (λ x. not (key x == k)) xs)) ≡ finite.get (finite.remove (map_of xs) k) z) (sym e)
      (ap (option_map value) (gone k xs) ∙ sym (removed_here (map_of xs) k)))
      (λ ne. ap (option_map value) (stays k q ne xs) ∙ sym (removed_there (map_of xs) k q ne ∙ get_map q xs)))

  -- with one item more, whose key is new
  pub map_with : (x : X) (xs : List X) → ((y : X) → Has y xs → key y ≢ key x) → map_of (xs ++ x ∷ []) ≡ finite.insert (map_of xs) (key x) (value x)
  map_with x xs new = ap (λ (es : List (ℕ × ℕ)). finite.from_entries {R = nat_cmp} es) (map-append (λ y. (key y, value y)) xs (x ∷ []))
      ∙ finite.from_entries_push nat_cmp_total nat_cmp-IsAntisymmetric (map (λ y. (key y, value y)) xs) (key x) (value x)
      (found_by (key x) xs ∙ ap (option_map value) (first_none (key x) xs new))

  -- as many entries as items, if no two have one key
  abbrev pub HaveKeys : List X → Type 0
  HaveKeys [] = Unit {0}
  HaveKeys (x ∷ xs) = ((y : X) → Has y xs → key y ≢ key x) × HaveKeys xs

  pub len_map : (xs : List X) → HaveKeys xs → finite.len (map_of xs) ≡ length xs
  len_map [] apart = finite.len-empty nat_cmp ℕ
  len_map (x ∷ xs) apart =
      let none = get_map (key x) xs ∙ ap (option_map value) (first_none (key x) xs apart.0) in
      omega (arith, len_after_insert nat_cmp_total (map_of xs) (key x) (value x) none, len_map xs apart.1)
