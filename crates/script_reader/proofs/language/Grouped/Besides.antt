-- Callers by their numbers.
use Rattle.script_reader.proofs.Common.{◌≡◌, ℕ, suc, zero, ◌<◌, ◌≤◌, List, [], ◌∷◌, map, length, slice_get, slice_index_or, Some, None, refl, sym, ap, ◌∙◌}
use Rattle.script_reader.proofs.Common.{true≢false, arith, position, position_or_len, bytes_eq, length-map, position-Some, fails_before_first, common_steps}
use Rattle.script_reader.proofs.Common.{same_Some, none-some, bytes_eq-Decides, CallerOf, beside}
use Rattle.std.proofs.lemmas.List.{get_or-map}

-- an element that is there is found
pub found_there : {A : Type 0} (xs : List A) (i : ℕ) {x : A} → i < length xs → x ≡ slice_index_or xs i x → slice_get xs i ≡ Some x
found_there [] i less at = absurd (omega (arith, less))
found_there (y ∷ xs) zero less at = ap Some (sym at)
found_there (y ∷ xs) (suc i) less at = found_there xs i (omega (arith, less)) at

module _ {S : Type 0} where
  module _ {K V : Type 0} (bytes : K → List ℕ) (view : V → List S) where
    -- the name of a caller is that of its key
    pub name_beside : (keys : List K) (xs : List V) (i : ℕ) {k : K} (d : CallerOf S) → length keys ≡ length xs
        → slice_get keys i ≡ Some k → (slice_index_or (beside (map bytes keys) (map view xs)) i d).name ≡ bytes k
    name_beside [] xs i d even at = absurd (none-some _ at)
    name_beside (x ∷ keys) [] i d even at = absurd (omega arith)
    name_beside (x ∷ keys) (v ∷ xs) zero {k} d even at = ap bytes (same_Some x k at)
    name_beside (x ∷ keys) (v ∷ xs) (suc i) d even at = name_beside keys xs i d (omega arith) at

    -- and its scripts are those beside its key
    pub scripts_beside : (keys : List K) (xs : List V) (i : ℕ) {v : V} (d : CallerOf S) → length keys ≡ length xs
        → i < length xs → slice_index_or xs i v ≡ v → (slice_index_or (beside (map bytes keys) (map view xs)) i d).scripts ≡ view v
    scripts_beside [] [] i d even less at = absurd (omega arith)
    scripts_beside [] (y ∷ xs) i d even less at = absurd (omega arith)
    scripts_beside (x ∷ keys) [] i d even less at = absurd (omega arith)
    scripts_beside (x ∷ keys) (y ∷ xs) zero d even less at = ap view at
    scripts_beside (x ∷ keys) (y ∷ xs) (suc i) d even less at = scripts_beside keys xs i d (omega arith) (omega arith) at

  -- the names of callers
  names_beside : (names : List (List ℕ)) (scripts : List (List S)) → length names ≡ length scripts
      → map (λ (c : CallerOf S). c.name) (beside names scripts) ≡ names
  names_beside [] scripts even = refl
  names_beside (n ∷ names) [] even = absurd (omega arith)
  names_beside (n ∷ names) (x ∷ scripts) even = ap (λ l. n ∷ l) (names_beside names scripts (omega arith))

  module _ {K V : Type 0} (bytes : K → List ℕ) (view : V → List S) (keys : List K) (xs : List V) (even : length keys ≡ length xs) (name : List ℕ) where
    names_are : map (λ (c : CallerOf S). c.name) (beside (map bytes keys) (map view xs)) ≡ map bytes keys
    names_are = names_beside (map bytes keys) (map view xs) (length-map keys bytes ∙ even ∙ sym (length-map xs view))

    -- there are as many as keys
    as_many : length (beside (map bytes keys) (map view xs)) ≡ length keys
    as_many = sym (length-map (beside (map bytes keys) (map view xs)) (λ (c : CallerOf S). c.name)) ∙ ap length names_are ∙ length-map keys bytes

    -- the name at a place is that of the key
    name_at : {i : ℕ} (d : CallerOf S) (k : K) → i < length keys → (slice_index_or (beside (map bytes keys) (map view xs)) i d).name
        ≡ bytes (slice_index_or keys i k)
    name_at {i} d k less =
        sym (get_or-map (λ (c : CallerOf S). c.name) (beside (map bytes keys) (map view xs)) i d [] (omega (arith, as_many, less)))
        ∙ ap (λ l. slice_index_or l i []) names_are ∙ get_or-map bytes keys i k [] less

    -- if a name is found, the caller has it
    pub named_where_found : {i : ℕ} (d : CallerOf S) → position (λ k. bytes_eq name (bytes k)) keys ≡ Some i
        → (i < length (beside (map bytes keys) (map view xs))) × ((slice_index_or (beside (map bytes keys) (map view xs)) i d).name ≡ name)
    named_where_found {i} d found = by keys refl found
      where
        by : (ks : List K) → ks ≡ keys → position (λ k. bytes_eq name (bytes k)) ks ≡ Some i
            → (i < length (beside (map bytes keys) (map view xs))) × ((slice_index_or (beside (map bytes keys) (map view xs)) i d).name ≡ name)
        by [] e nothing = absurd (none-some _ nothing)
        by (k ∷ ks) e here =
            let at = position-Some (λ k. bytes_eq name (bytes k)) keys i k found in
            (omega (arith, at.0, as_many), name_at d k at.0 ∙ sym ((bytes_eq-Decides name (bytes (slice_index_or keys i k))).0 at.1))

    -- if none is found, no caller has it
    pub no_caller_named : position (λ k. bytes_eq name (bytes k)) keys ≡ None → {i : ℕ} (d : CallerOf S)
        → i < length (beside (map bytes keys) (map view xs)) → (slice_index_or (beside (map bytes keys) (map view xs)) i d).name ≡ name → ⊥
    no_caller_named found {i} d less same = by keys refl
      where
        past : length keys ≤ position_or_len (λ k. bytes_eq name (bytes k)) keys
        past = grind (arith, common_steps)

        by : (ks : List K) → ks ≡ keys → ⊥
        by [] e = omega (arith, as_many, less, ap length e)
        by (k ∷ ks) e =
            let within : i < length keys = omega (arith, as_many, less) in
            true≢false (sym ((bytes_eq-Decides name (bytes (slice_index_or keys i k))).1 (sym same
            ∙ name_at d k within)) ∙ fails_before_first (λ k. bytes_eq name (bytes k)) keys i k (omega (arith, within, past)))
