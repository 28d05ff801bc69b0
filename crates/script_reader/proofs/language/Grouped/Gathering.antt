-- Callers that are gathered one script at a time.
use Rattle.script_reader.proofs.Common.{◌≡◌, ℕ, suc, zero, ◌+◌, ◌<◌, ◌≤◌, Bool, true, false, not, cond, ◌||◌, List, [], ◌∷◌, ◌++◌, map, length, set}
use Rattle.script_reader.proofs.Common.{slice_index_or, if◌then◌else◌, nat_lt, Some, None, refl, sym, ap, ◌∙◌, length-append, arith, list_any, position}
use Rattle.script_reader.proofs.Common.{position_or_len, bytes_eq, map-append, length-map, same_Some, sum_by-cons, CallerOf, SubmissionOf, count_scripts}
use Rattle.script_reader.proofs.Common.{add_name, beside, add_submission, is_caller}
use Rattle.script_reader.specs.Inner.Gatherings.{put_script}

-- a choice between two lists, behind one element
pub choice-cons : {A : Type 0} (b : Bool) {x : A} (xs ys : List A) → (if b then x ∷ xs else x ∷ ys) ≡ x ∷ (if b then xs else ys)
choice-cons true xs ys = refl
choice-cons false xs ys = refl

-- the place of a name among keys is that of its bytes
pub position-map : {K : Type 0} (bytes : K → List ℕ) (name : List ℕ) (keys : List K)
    → position_or_len (λ k. bytes_eq name (bytes k)) keys ≡ position_or_len (bytes_eq name) (map bytes keys)
position-map bytes name [] = refl
position-map bytes name (k ∷ keys) = ap (λ n. cond (not (bytes_eq name (bytes k))) (1 + n) 0) (position-map bytes name keys)

-- a name is among keys if its bytes are
pub any-map : {K : Type 0} (bytes : K → List ℕ) (name : List ℕ) (keys : List K)
    → list_any (λ k. bytes_eq name (bytes k)) keys ≡ list_any (bytes_eq name) (map bytes keys)
any-map bytes name [] = refl
any-map bytes name (k ∷ keys) = ap (λ b. bytes_eq name (bytes k) || b) (any-map bytes name keys)

-- the place at which a test is passed first is the place that is counted
pub position-found : {K : Type 0} (test : K → Bool) (keys : List K) {place : ℕ} → position test keys ≡ Some place → position_or_len test keys ≡ place
position-found test keys {place} = by (nat_lt (position_or_len test keys) (length keys))
  where
    by : (b : Bool) → cond b (Some (position_or_len test keys)) None ≡ Some place → position_or_len test keys ≡ place
    by true found = same_Some (position_or_len test keys) place found
    by false found = absurd (cc)

-- a name that is known is not added
pub name-known : {names : List (List ℕ)} (name : List ℕ) → list_any (bytes_eq name) names ≡ true → names ≡ add_name names name
name-known {names} name known = sym (ap (λ b. if b then names else names ++ name ∷ []) known)

-- a new key is a new name
pub keys-add : {K : Type 0} (bytes : K → List ℕ) (keys : List K) (key : K)
    → map bytes (if list_any (λ k. bytes_eq (bytes key) (bytes k)) keys then keys else keys ++ key ∷ []) ≡ add_name (map bytes keys) (bytes key)
keys-add bytes keys key = by (list_any (λ k. bytes_eq (bytes key) (bytes k)) keys)
    ∙ ap (λ b. if b then map bytes keys else map bytes keys ++ bytes key ∷ []) (any-map bytes (bytes key) keys)
  where
    by : (b : Bool) → map bytes (if b then keys else keys ++ key ∷ []) ≡ (if b then map bytes keys else map bytes keys ++ bytes key ∷ [])
    by true = refl
    by false = map-append bytes keys (key ∷ [])

module _ {S : Type 0} where
  -- a store has as many callers as names
  pub length-beside : (names : List (List ℕ)) (scripts : List (List S)) → length names ≡ length scripts → length (beside names scripts) ≡ length names
  length-beside [] scripts e = refl
  length-beside (n ∷ names) [] e = absurd (omega arith)
  length-beside (n ∷ names) (x ∷ scripts) e = omega (arith, length-beside names scripts (omega arith))

  -- and each name is that of a caller
  pub is_caller-beside : (name : List ℕ) (names : List (List ℕ)) (scripts : List (List S))
      → length names ≡ length scripts → is_caller name (beside names scripts) ≡ list_any (bytes_eq name) names
  is_caller-beside name [] scripts e = refl
  is_caller-beside name (n ∷ names) [] e = absurd (omega arith)
  is_caller-beside name (n ∷ names) (x ∷ scripts) e = ap (λ b. bytes_eq name n || b) (is_caller-beside name names scripts (omega arith))

  -- a script put at the place of its caller's name is one more script of the caller
  pub beside-add : (names : List (List ℕ)) (scripts : List (List S)) (s : SubmissionOf S) → length names ≡ length scripts
      → beside (add_name names s.caller) (put_script scripts (position_or_len (bytes_eq s.caller) names) s.script) ≡ add_submission (beside names scripts) s
  beside-add [] [] s e = refl
  beside-add [] (x ∷ scripts) s e = absurd (omega arith)
  beside-add (n ∷ names) [] s e = absurd (omega arith)
  beside-add (n ∷ names) (x ∷ scripts) s e =
      by (bytes_eq s.caller n) (list_any (bytes_eq s.caller) names) (position_or_len (bytes_eq s.caller) names) (beside-add names scripts s (omega arith))
    where
      by : (here there : Bool) (place : ℕ)
          → beside (if there then names else names ++ s.caller ∷ []) (put_script scripts place s.script) ≡ add_submission (beside names scripts) s
          → beside (if here || there then n ∷ names else (n ∷ names) ++ s.caller ∷ []) (put_script (x ∷ scripts) (cond (not here) (1 + place) 0) s.script)
          ≡ (if here then record { name = n; scripts = x ++ s.script ∷ [] } ∷ beside names scripts else record {
            name =
                n;
            scripts = x;
          } ∷ add_submission (beside names scripts) s)
      by true there place rest = refl
      by false there place rest =
          let later : 1 + place ≡ suc place = omega arith in
          ap (λ p. beside (if there then n ∷ names else (n ∷ names) ++ s.caller ∷ []) (put_script (x ∷ scripts) p s.script)) later
          ∙ ap (λ l. beside l (x ∷ put_script scripts place s.script)) (choice-cons there names (names ++ s.caller ∷ []))
          ∙ ap (λ l. record { name = n; scripts = x } ∷ l) rest

  -- names and scripts stay beside each other
  pub length-add : (names : List (List ℕ)) (scripts : List (List S)) (name : List ℕ) (script : S) → length names ≡ length scripts
      → length (add_name names name) ≡ length (put_script scripts (position_or_len (bytes_eq name) names) script)
  length-add [] [] name script e = refl
  length-add [] (x ∷ scripts) name script e = absurd (omega arith)
  length-add (n ∷ names) [] name script e = absurd (omega arith)
  length-add (n ∷ names) (x ∷ scripts) name script e =
      by (bytes_eq name n) (list_any (bytes_eq name) names) (position_or_len (bytes_eq name) names) (length-add names scripts name script (omega arith))
    where
      by : (here there : Bool) (place : ℕ)
          → length (if there then names else names ++ name ∷ []) ≡ length (put_script scripts place script)
          → length (if here || there then n ∷ names else (n ∷ names) ++ name ∷ []) ≡ length (put_script (x ∷ scripts) (cond (not here) (1 + place) 0) script)
      by true there place rest = e
      by false there place rest =
          let later : 1 + place ≡ suc place = omega arith in
          ap length (choice-cons there names (names ++ name ∷ [])) ∙ ap suc rest ∙ ap (λ p. length (put_script (x ∷ scripts) p script)) (sym later)

  -- each script that is added counts
  pub count-add : (callers : List (CallerOf S)) (s : SubmissionOf S) → count_scripts (add_submission callers s) ≡ count_scripts callers + 1
  count-add [] s = refl
  count-add (c ∷ callers) s = by (bytes_eq s.caller c.name) (count-add callers s)
    where
      by : (here : Bool) → count_scripts (add_submission callers s) ≡ count_scripts callers + 1
          → count_scripts (if here then record { name = c.name; scripts = c.scripts ++ s.script ∷ [] } ∷ callers else c
          ∷ add_submission callers s) ≡ count_scripts (c ∷ callers) + 1
      by true rest = omega (
        arith,
        sum_by-cons (λ (c : CallerOf S). length c.scripts) c callers,
        sum_by-cons (λ (c : CallerOf S). length c.scripts) (record { name = c.name; scripts = c.scripts ++ s.script ∷ [] })
            callers,
        length-append c.scripts (s.script ∷ []),
      )
      by false rest = omega (
        arith,
        rest,
        sum_by-cons (λ (c : CallerOf S). length c.scripts) c callers,
        sum_by-cons (λ (c : CallerOf S). length c.scripts) c (add_submission callers s),
      )

  -- a list of scripts with one more at a place
  pub map-set-put : {V : Type 0} (view : V → List S) (xs : List V) (i : ℕ) {old : V} (new : V) (script : S)
      → i < length xs → slice_index_or xs i old ≡ old → view new ≡ view old ++ script ∷ [] → map view (set xs i new) ≡ put_script (map view xs) i script
  map-set-put view [] i new script less at e = absurd (omega arith)
  map-set-put view (x ∷ xs) zero new script less at e = ap (λ v. v ∷ map view xs) (e ∙ ap (λ o. view o ++ script ∷ []) (sym at))
  map-set-put view (x ∷ xs) (suc i) new script less at e = ap (λ l. view x ∷ l) (map-set-put view xs i new script (omega arith) at e)

  -- a list of scripts with one more caller
  pub map-push-put : {V : Type 0} (view : V → List S) (xs : List V) (i : ℕ) (new : V) {script : S}
      → length xs ≤ i → view new ≡ script ∷ [] → map view (xs ++ new ∷ []) ≡ put_script (map view xs) i script
  map-push-put view [] i new past e = ap (λ v. v ∷ []) e
  map-push-put view (x ∷ xs) zero new past e = absurd (omega arith)
  map-push-put view (x ∷ xs) (suc i) new past e = ap (λ l. view x ∷ l) (map-push-put view xs i new (omega arith) e)

  module _ {K V : Type 0} (bytes : K → List ℕ) (view : V → List S) (keys : List K) (xs : List V) (even : length keys ≡ length xs) where
    -- so are their views
    even_views : length (map bytes keys) ≡ length (map view xs)
    even_views = simp length-map even

    -- a store has as many callers as keys
    pub count_callers : length (beside (map bytes keys) (map view xs)) ≡ length keys
    count_callers = length-beside (map bytes keys) (map view xs) even_views ∙ simp length-map

    -- and a caller for each key
    pub has_caller : (name : List ℕ) → is_caller name (beside (map bytes keys) (map view xs)) ≡ list_any (λ k. bytes_eq name (bytes k)) keys
    has_caller name = is_caller-beside name (map bytes keys) (map view xs) even_views ∙ sym (any-map bytes name keys)

    module _ (keys' : List K) (xs' : List V) (name : List ℕ) (script : S) {place : ℕ}
        (names_after : map bytes keys' ≡ add_name (map bytes keys) name)
        (at : place ≡ position_or_len (bytes_eq name) (map bytes keys))
        (put : map view xs' ≡ put_script (map view xs) place script) where
      -- the scripts after one more was put
      scripts_after : map view xs' ≡ put_script (map view xs) (position_or_len (bytes_eq name) (map bytes keys)) script
      scripts_after = put ∙ ap (λ p. put_script (map view xs) p script) at

      -- an insertion and a script that is put at the name's place add a script of the caller
      pub store-add : beside (map bytes keys') (map view xs') ≡ add_submission (beside (map bytes keys) (map view xs)) (record {
        caller =
            name;
        script = script;
      })
      store-add = ap (λ n. beside n (map view xs')) names_after
          ∙ ap (beside (add_name (map bytes keys) name)) scripts_after
          ∙ beside-add (map bytes keys) (map view xs) (record { caller = name; script = script }) even_views

      -- and leave names and scripts beside each other
      pub even_after : length keys' ≡ length xs'
      even_after =
          let views : length (map bytes keys') ≡ length (map view xs') = ap length names_after
          ∙ length-add (map bytes keys) (map view xs) name script even_views ∙ sym (ap length scripts_after) in
          simp length-map at views
