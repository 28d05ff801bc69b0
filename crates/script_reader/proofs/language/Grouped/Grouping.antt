-- The callers of a text's scripts are those that are gathered one script at a time.
use Rattle.script_reader.proofs.Common.{◌≡◌, ℕ, Bool, true, false, cond, ◌||◌, List, [], ◌∷◌, ◌++◌, map, filter, fold, if◌then◌else◌, refl, sym, ap, ◌∙◌}
use Rattle.script_reader.proofs.Common.{append_assoc, arith, list_any, AllByRecursion, bytes_eq, map-append, append-nil, filter-append, fold_push}
use Rattle.script_reader.proofs.Common.{bytes_eq-Decides, CallerOf, SubmissionOf, add_name, first_seen, scripts_by, add_submission}
use Rattle.std.specs.List.{IsDistinct}
use Rattle.std.specs.Cmp.{IsEquivalence}
use Rattle.std.specs.Cmp.Lexicographic.{nat_list_eq_equiv}
use Rattle.std.proofs.lemmas.Map.Keys.{IsDistinct-head, IsDistinct-tail, IsDistinct-push}
use Rattle.script_reader.specs.Gathered.{callers_of}
use Rattle.std.proofs.lemmas.List.Folds.{list_any-append}
use Rattle.script_reader.proofs.Conditions.{or_assoc, or_false}

-- equal bytes are equal texts, and texts that are equal to one another are equal to the same others
pub laws : IsEquivalence bytes_eq
laws = nat_list_eq_equiv

-- some name of a list with one more is the given one
any-push : (c x : List ℕ) (seen : List (List ℕ)) → list_any (bytes_eq c) (seen ++ x ∷ []) ≡ (list_any (bytes_eq c) seen || bytes_eq c x)
any-push c x seen = simp (list_any-append, or_false)

-- what is equal to a name that is there is there
any-same : (c x : List ℕ) (seen : List (List ℕ)) → bytes_eq c x ≡ true → list_any (bytes_eq x) seen ≡ list_any (bytes_eq c) seen
any-same c x seen same = let e : c ≡ x = (bytes_eq-Decides c x).0 same in ap (λ n. list_any (bytes_eq n) seen) (sym e)

-- a name is seen after one more, if it was seen before or is that one
any-add_name : (c x : List ℕ) (seen : List (List ℕ)) → list_any (bytes_eq c) (add_name seen x) ≡ (list_any (bytes_eq c) seen || bytes_eq c x)
any-add_name c x seen = by (list_any (bytes_eq x) seen) refl (bytes_eq c x) refl
  where
    by : (there : Bool) → list_any (bytes_eq x) seen ≡ there → (same : Bool) → bytes_eq c x ≡ same
        → list_any (bytes_eq c) (if there then seen else seen ++ x ∷ []) ≡ (list_any (bytes_eq c) seen || same)
    by false e same f = any-push c x seen ∙ ap (λ b. list_any (bytes_eq c) seen || b) f
    by true e true f = let here : list_any (bytes_eq c) seen ≡ true = sym (any-same c x seen f) ∙ e in rw here refl
    by true e false f = sym (or_false (list_any (bytes_eq c) seen))

-- the names that are first seen are all the names
pub any-seen : (c : List ℕ) (names seen : List (List ℕ)) → list_any (bytes_eq c) (fold add_name seen names)
    ≡ (list_any (bytes_eq c) seen || list_any (bytes_eq c) names)
any-seen c [] seen = sym (or_false (list_any (bytes_eq c) seen))
any-seen c (x ∷ names) seen = any-seen c names (add_name seen x)
    ∙ ap (λ b. b || list_any (bytes_eq c) names) (any-add_name c x seen)
    ∙ or_assoc (list_any (bytes_eq c) seen) (bytes_eq c x) (list_any (bytes_eq c) names)

-- a name that may be new leaves the names distinct
pub add_name-distinct : (seen : List (List ℕ)) (x : List ℕ) → IsDistinct bytes_eq seen → IsDistinct bytes_eq (add_name seen x)
add_name-distinct seen x apart = by (list_any (bytes_eq x) seen) refl
  where
    by : (there : Bool) → list_any (bytes_eq x) seen ≡ there → IsDistinct bytes_eq (if there then seen else seen ++ x ∷ [])
    by true e = apart
    by false e = IsDistinct-push laws seen x apart e

-- names that are first seen are distinct
pub seen-distinct : (names seen : List (List ℕ)) → IsDistinct bytes_eq seen → IsDistinct bytes_eq (fold add_name seen names)
seen-distinct [] seen apart = apart
seen-distinct (x ∷ names) seen apart = seen-distinct names (add_name seen x) (add_name-distinct seen x apart)

-- no names are distinct
pub no-names : IsDistinct bytes_eq []
unfolding IsDistinct
no-names = tt

module _ {S : Type 0} where
  -- a name that no script has has no scripts
  no-scripts : (c : List ℕ) (subs : List (SubmissionOf S)) → list_any (bytes_eq c) (map (λ s. s.caller) subs) ≡ false → scripts_by c subs ≡ []
  no-scripts c [] none = refl
  no-scripts c (s ∷ subs) none = grind (arith, no-scripts c subs, none)

  -- the scripts of a caller after one more script
  scripts_by-push : (n : List ℕ) (subs : List (SubmissionOf S)) (s : SubmissionOf S)
      → scripts_by n (subs ++ s ∷ []) ≡ scripts_by n subs ++ (if bytes_eq n s.caller then s.script ∷ [] else [])
  scripts_by-push n subs s =
      ap (map (λ s. s.script)) (filter-append (λ s. bytes_eq n s.caller) subs (s ∷ []))
      ∙ map-append (λ s. s.script) (filter (λ s. bytes_eq n s.caller) subs) (filter (λ s. bytes_eq n s.caller) (s ∷ []))
      ∙ ap (λ l. scripts_by n subs ++ l) (by (bytes_eq n s.caller))
    where
      by : (b : Bool) → map (λ s. s.script) (cond b (s ∷ []) []) ≡ (if b then s.script ∷ [] else [])
      by true = refl
      by false = refl

  module _ (scripts : List ℕ → List S) (s : SubmissionOf S) where
    -- a caller with its scripts
    abbrev had : List ℕ → CallerOf S
    had n = record { name = n; scripts = scripts n }

    -- and with one more if it is its own
    abbrev has : List ℕ → CallerOf S
    has n = record { name = n; scripts = scripts n ++ (if bytes_eq n s.caller then s.script ∷ [] else []) }

    -- another caller has what it had
    other : (n : List ℕ) → bytes_eq n s.caller ≡ false → has n ≡ had n
    other n apart = ap (λ b. record { name = n; scripts = scripts n ++ (if b then s.script ∷ [] else []) }) apart
        ∙ ap (λ l. record { name = n; scripts = l }) (append-nil (scripts n))

    -- and so do all others
    others : {c : List ℕ} → c ≡ s.caller → (names : List (List ℕ)) → AllByRecursion (λ m. bytes_eq c m ≡ false) names → map has names ≡ map had names
    others same [] apart = refl
    others {c} same (n ∷ names) apart =
        let away : bytes_eq n s.caller ≡ false = ap (bytes_eq n) (sym same) ∙ laws.symm n c ∙ apart.0 in
        ap (λ x. x ∷ map has names) (other n away) ∙ ap (λ l. had n ∷ l) (others same names apart.1)

    -- one more script, among distinct names
    add-had : (names : List (List ℕ)) → IsDistinct bytes_eq names
        → map has names ++ (if list_any (bytes_eq s.caller) names then [] else record {
          name = s.caller;
          scripts =
              s.script ∷ [];
        } ∷ []) ≡ add_submission (map had names) s
    add-had [] apart = refl
    add-had (n ∷ names) apart = by (bytes_eq s.caller n) refl (add-had names (IsDistinct-tail bytes_eq n names apart))
      where
        by : (b : Bool) → bytes_eq s.caller n ≡ b
            → map has names ++ (if list_any (bytes_eq s.caller) names then [] else record {
              name = s.caller;
              scripts =
                  s.script ∷ [];
            } ∷ []) ≡ add_submission (map had names) s
            → (has n ∷ map has names) ++ (if b || list_any (bytes_eq s.caller) names then [] else record { name = s.caller; scripts = s.script ∷ [] } ∷ [])
            ≡ (if b then record { name = n; scripts = scripts n ++ s.script ∷ [] } ∷ map had names else had n ∷ add_submission (map had names) s)
        by true e rest =
            let own : has n ≡ record { name = n; scripts = scripts n ++ s.script ∷ [] } =
            ap (λ b. record { name = n; scripts = scripts n ++ (if b then s.script ∷ [] else []) }) (laws.symm n s.caller ∙ e) in
            append-nil (has n ∷ map has names)
            ∙ ap (λ x. x ∷ map has names) own
            ∙ ap (λ l. record { name = n; scripts = scripts n ++ s.script ∷ [] } ∷ l)
            (others (sym ((bytes_eq-Decides s.caller n).0 e)) names (IsDistinct-head bytes_eq n names apart))
        by false e rest =
            ap (λ x. x ∷ (map has names ++ (if list_any (bytes_eq s.caller) names then [] else record {
              name =
                  s.caller;
              scripts = s.script ∷ [];
            } ∷ []))) (other n (laws.symm n s.caller ∙ e))
            ∙ ap (λ l. had n ∷ l) rest

    -- one more script, if a new caller had none
    has-added : (names : List (List ℕ)) → IsDistinct bytes_eq names
        → (list_any (bytes_eq s.caller) names ≡ false → scripts s.caller ≡ []) → map has (add_name names s.caller) ≡ add_submission (map had names) s
    has-added names apart none = by (list_any (bytes_eq s.caller) names) refl (add-had names apart)
      where
        by : (there : Bool) → list_any (bytes_eq s.caller) names ≡ there
            → map has names ++ (if there then [] else record { name = s.caller; scripts = s.script ∷ [] } ∷ []) ≡ add_submission (map had names) s
            → map has (if there then names else names ++ s.caller ∷ []) ≡ add_submission (map had names) s
        by true e rest = sym (append-nil (map has names)) ∙ rest
        by false e rest =
            let own : has s.caller ≡ record { name = s.caller; scripts = s.script ∷ [] } =
            ap (λ b. record { name = s.caller; scripts = scripts s.caller ++ (if b then s.script ∷ [] else []) }) (laws.refl s.caller)
            ∙ ap (λ l. record { name = s.caller; scripts = l ++ s.script ∷ [] }) (none e) in
            map-append has names (s.caller ∷ []) ∙ ap (λ x. map has names ++ x ∷ []) own ∙ rest

  -- the callers of one more script
  pub callers_of-push : (subs : List (SubmissionOf S)) (s : SubmissionOf S) → callers_of (subs ++ s ∷ []) ≡ add_submission (callers_of subs) s
  callers_of-push subs s =
      let names : List (List ℕ) = first_seen (map (λ s. s.caller) subs) in
      let seen : first_seen (map (λ s. s.caller) (subs ++ s ∷ [])) ≡ add_name names s.caller =
      ap first_seen (map-append (λ s. s.caller) subs (s ∷ [])) ∙ fold_push add_name [] (map (λ s. s.caller) subs) s.caller in
      ap (map (λ n. record { name = n; scripts = scripts_by n (subs ++ s ∷ []) })) seen
      ∙ each (add_name names s.caller)
      ∙ has-added (λ n. scripts_by n subs) s names (seen-distinct (map (λ s. s.caller) subs) [] no-names)
      (λ none. no-scripts s.caller subs (sym (any-seen s.caller (map (λ s. s.caller) subs) []) ∙ none))
    where
      each : (names : List (List ℕ)) → map (λ n. record {
        name = n;
        scripts =
            scripts_by n (subs ++ s ∷ []);
      }) names ≡ map (has (λ n. scripts_by n subs) s) names
      each [] = refl
      each (n ∷ names) = ap (λ l. record {
        name = n;
        scripts =
            l;
      } ∷ map (λ n. record { name = n; scripts = scripts_by n (subs ++ s ∷ []) }) names) (scripts_by-push n subs s)
          ∙ ap (λ l. has (λ n. scripts_by n subs) s n ∷ l) (each names)

  -- and of any more scripts
  callers_of-more : (done more : List (SubmissionOf S)) → callers_of (done ++ more) ≡ fold add_submission (callers_of done) more
  callers_of-more done [] = ap callers_of (append-nil done)
  callers_of-more done (s ∷ more) =
      ap callers_of (sym (append_assoc done (s ∷ []) more))
      ∙ callers_of-more (done ++ s ∷ []) more
      ∙ ap (λ callers. fold add_submission callers more) (callers_of-push done s)

  -- the callers of a text's scripts are gathered one script at a time
  pub callers_of-gathered : (subs : List (SubmissionOf S)) → callers_of subs ≡ fold add_submission [] subs
  callers_of-gathered subs = callers_of-more [] subs
