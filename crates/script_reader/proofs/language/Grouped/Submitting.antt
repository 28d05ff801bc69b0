-- Callers with one more script, and the scripts of callers.
use Rattle.script_reader.proofs.Common.{◌≡◌, ℕ, ◌+◌, ◌<◌, ◌≤◌, Bool, true, false, ◌||◌, ◌&&◌, nat_le, List, [], ◌∷◌, ◌++◌, map, fold, length, codes}
use Rattle.script_reader.proofs.Common.{if◌then◌else◌, inl, inr, refl, sym, ap, subst, ◌∙◌, length-append, lit<, arith, list_any, list_all, AllByRecursion}
use Rattle.script_reader.proofs.Common.{bytes_eq, leb-true, eqb_tells, length-map, All-push, All-from_recursion, recursion_from_All, bytes_eq-Decides}
use Rattle.script_reader.proofs.Common.{MOST_CALLERS, MOST_SCRIPTS, IsFreeOf, AreWords, CallerOf, SubmissionOf, AreCallers, count_scripts, add_name}
use Rattle.script_reader.proofs.Common.{add_submission, is_caller}
use Rattle.std.specs.List.{All, IsDistinct}
use Rattle.script_reader.specs.Gathered.{callers_of, IsName}
use Rattle.script_reader.proofs.text.Tokens.Cutting.{word_from_test}
use Rattle.script_reader.proofs.Conditions.{both}
use Rattle.script_reader.proofs.language.Grouped.Gathering.{choice-cons, any-map, count-add}
use Rattle.script_reader.proofs.language.Grouped.Grouping.{add_name-distinct, callers_of-gathered}

-- how many names there are after one more, which may be new
pub length-add_name : {most : ℕ} (names : List (List ℕ)) (name : List ℕ) (there : Bool)
    → (there ≡ false → length names < most) → length names ≤ most → length (if there then names else names ++ name ∷ []) ≤ most
length-add_name names name true room few = few
length-add_name names name false room few = omega (arith, room refl, length-append names (name ∷ []))

-- what holds of each element of two lists holds of the first, and of an element behind it
pub all_but_last : {A : Type 0} (P : A → Type 0) (xs : List A) (x : A) → AllByRecursion P (xs ++ x ∷ []) → AllByRecursion P xs × P x
all_but_last P [] x all = (tt, all.0)
all_but_last P (y ∷ xs) x all = let rest = all_but_last P xs x all.1 in ((all.0, rest.0), rest.1)

-- the test of a name, in its parts
pub letters_of : (name : List ℕ) → IsName name → list_all (λ c. nat_le 97 c && nat_le c 122) name ≡ true
letters_of name h = (both h).1

-- a name can stand as a word
letters-free : {c : ℕ} (name : List ℕ) → c < 97 → list_all (λ c. nat_le 97 c && nat_le c 122) name ≡ true → IsFreeOf c name
letters-free [] low letters = tt
letters-free {c} (b ∷ name) low letters = (
  elim (eqb_tells b c) [
    | inl same ↦ absurd (omega (arith, leb-true 97 b (both (both letters).0).0))
    | inr apart ↦
        apart.0
  ],
  letters-free name low (both letters).1,
)

-- the words of the line that begins a script are those of a line
pub caller-AreWords : (name : List ℕ) → IsName name → AreWords (codes "script" ∷ name ∷ [])
caller-AreWords name h = record {
  some = omega arith;
  each = (
    word_from_test (codes "script") refl,
    ((letters-free name (lit< tt) (letters_of name h), letters-free name (lit< tt) (letters_of name h)), tt),
  );
}

module _ {S : Type 0} where
  -- what holds of callers holds after one more script, if it holds of a caller with it
  all-add : (P : CallerOf S → Type 0) (s : SubmissionOf S)
      → ((c : CallerOf S) → P c → P (record { name = c.name; scripts = c.scripts ++ s.script ∷ [] })) → P (record { name = s.caller; scripts = s.script ∷ [] })
      → (callers : List (CallerOf S)) → AllByRecursion P callers → AllByRecursion P (add_submission callers s)
  all-add P s keeps new [] all = (new, tt)
  all-add P s keeps new (c ∷ callers) all = by (bytes_eq s.caller c.name) (all-add P s keeps new callers all.1)
    where
      by : (b : Bool) → AllByRecursion P (add_submission callers s)
          → AllByRecursion P (if b then record { name = c.name; scripts = c.scripts ++ s.script ∷ [] } ∷ callers else c ∷ add_submission callers s)
      by true rest = (keeps c all.0, all.1)
      by false rest = (all.0, rest)

  -- the names after one more script
  names-add : (callers : List (CallerOf S)) (s : SubmissionOf S) → map (λ c. c.name) (add_submission callers s) ≡ add_name (map (λ c. c.name) callers) s.caller
  names-add [] s = refl
  names-add (c ∷ callers) s = by (bytes_eq s.caller c.name) (list_any (bytes_eq s.caller) (map (λ c. c.name) callers)) (names-add callers s)
    where
      by : (here there : Bool)
          → map (λ c. c.name) (add_submission callers s) ≡ (if there then map (λ c. c.name) callers else map (λ c. c.name) callers ++ s.caller ∷ [])
          → map (λ c. c.name) (if here then record { name = c.name; scripts = c.scripts ++ s.script ∷ [] } ∷ callers else c ∷ add_submission callers s)
          ≡ (if here || there then c.name ∷ map (λ c. c.name) callers else (c.name ∷ map (λ c. c.name) callers) ++ s.caller ∷ [])
      by true there rest = refl
      by false there rest = ap (λ l. c.name ∷ l) rest ∙ sym (choice-cons there (map (λ c. c.name) callers) (map (λ c. c.name) callers ++ s.caller ∷ []))

  -- callers with one more script
  pub callers_more : (IsScript : S → Type 0) (callers : List (CallerOf S)) (s : SubmissionOf S) → AreCallers IsScript callers → IsName s.caller
      → IsScript s.script
      → count_scripts callers < MOST_SCRIPTS → (is_caller s.caller callers ≡ false → length callers < MOST_CALLERS)
      → AreCallers IsScript (add_submission callers s)
  callers_more IsScript callers s h name script room space = record {
    few =
        let names : length (map (λ c. c.name) (add_submission callers s))
        ≡ length (add_name (map (λ c. c.name) callers) s.caller) = ap length (names-add callers s) in
        let many : length (map (λ (c : CallerOf S). c.name) callers) ≡ length callers = simp length-map in
        let as_many : length (map (λ (c : CallerOf S). c.name) (add_submission callers s)) ≡ length (add_submission callers s) = simp length-map in
        omega (
          arith,
          names,
          many,
          as_many,
          length-add_name (map (λ c. c.name) callers) s.caller (list_any (bytes_eq s.caller) (map (λ c. c.name) callers))
              (λ absent. subst (λ n. n < MOST_CALLERS) (sym many) (space (any-map (λ c. c.name) s.caller callers
              ∙ absent))) (subst (λ n. n ≤ MOST_CALLERS) (sym many) h.few),
        );
    few_scripts = omega (arith, count-add callers s);
    names = All-from_recursion _ _ (all-add (λ c. IsName c.name) s (λ c n. n) name callers (recursion_from_All _ _ h.names));
    names_differ = subst (IsDistinct bytes_eq) (sym (names-add callers s)) (add_name-distinct (map (λ c. c.name) callers) s.caller h.names_differ);
    scripts = All-from_recursion _ _ (all-add (λ c. All IsScript c.scripts) s (λ c all. All-push IsScript c.scripts s.script all script)
        (All-push IsScript [] s.script (λ k d less. absurd (omega arith)) script) callers (recursion_from_All _ _ h.scripts));
    some_scripts = All-from_recursion _ _
        (all-add (λ c. 1 ≤ length c.scripts) s (λ c some. omega (arith, some, length-append c.scripts (s.script ∷ [])))
        (omega arith) callers (recursion_from_All _ _ h.some_scripts));
  }

  -- a caller with a name, whose scripts are as they have to be
  pub record IsGood (IsScript : S → Type 0) (c : CallerOf S) : Type 0 where
    pub name : IsName c.name
    pub scripts : AllByRecursion IsScript c.scripts

  -- a script as it has to be, of a caller with a name
  pub record IsGoodScript (IsScript : S → Type 0) (s : SubmissionOf S) : Type 0 where
    pub name : IsName s.caller
    pub script : IsScript s.script

  -- callers that are good after one more script were good before, and so is the script
  good-add : (IsScript : S → Type 0) (callers : List (CallerOf S)) (s : SubmissionOf S)
      → AllByRecursion (IsGood IsScript) (add_submission callers s) → AllByRecursion (IsGood IsScript) callers × IsGoodScript IsScript s
  good-add IsScript [] s all = (tt, record { name = all.0.name; script = all.0.scripts.0 })
  good-add IsScript (c ∷ callers) s all = by (bytes_eq s.caller c.name) refl all (good-add IsScript callers s)
    where
      by : (b : Bool) → bytes_eq s.caller c.name ≡ b
          → AllByRecursion (IsGood IsScript) (if b then record {
            name = c.name;
            scripts =
                c.scripts ++ s.script ∷ [];
          } ∷ callers else c ∷ add_submission callers s)
          → (AllByRecursion (IsGood IsScript) (add_submission callers s) → AllByRecursion (IsGood IsScript) callers × IsGoodScript IsScript s)
          → AllByRecursion (IsGood IsScript) (c ∷ callers) × IsGoodScript IsScript s
      by true e all rest =
          let scripts = all_but_last IsScript c.scripts s.script all.0.scripts in (
            (record { name = all.0.name; scripts = scripts.0 }, all.1),
            record { name = subst IsName (sym ((bytes_eq-Decides s.caller c.name).0 e)) all.0.name; script = scripts.1 },
          )
      by false e all rest = let before = rest all.1 in ((all.0, before.0), before.1)

  -- so are the scripts of good callers
  good-scripts : (IsScript : S → Type 0) (callers : List (CallerOf S)) (subs : List (SubmissionOf S))
      → AllByRecursion (IsGood IsScript) (fold add_submission callers subs)
      → AllByRecursion (IsGood IsScript) callers × AllByRecursion (IsGoodScript IsScript) subs
  good-scripts IsScript callers [] all = (all, tt)
  good-scripts IsScript callers (s ∷ subs) all =
      let rest = good-scripts IsScript (add_submission callers s) subs all in
      let here = good-add IsScript callers s rest.0 in
      (here.0, (here.1, rest.1))

  -- callers with names and such scripts are good
  good_callers : (IsScript : S → Type 0) (callers : List (CallerOf S)) → AllByRecursion (λ c. IsName c.name) callers
      → AllByRecursion (λ c. All IsScript c.scripts) callers → AllByRecursion (IsGood IsScript) callers
  good_callers IsScript [] names scripts = tt
  good_callers IsScript (c ∷ callers) names scripts = (
    record { name = names.0; scripts = recursion_from_All _ _ scripts.0 },
    good_callers IsScript callers names.1 scripts.1,
  )

  -- so each script of theirs is good
  pub scripts_are_good : (IsScript : S → Type 0) (subs : List (SubmissionOf S)) → AreCallers IsScript (callers_of subs)
      → AllByRecursion (IsGoodScript IsScript) subs
  scripts_are_good IsScript subs valid =
      (good-scripts IsScript [] subs (subst (AllByRecursion (IsGood IsScript)) (callers_of-gathered subs)
      (good_callers IsScript (callers_of subs) (recursion_from_All _ _ valid.names) (recursion_from_All _ _ valid.scripts)))).1

  -- how many scripts there are
  pub count-fold : (callers : List (CallerOf S)) (subs : List (SubmissionOf S))
      → count_scripts (fold add_submission callers subs) ≡ count_scripts callers + length subs
  count-fold callers [] = omega arith
  count-fold callers (s ∷ subs) = omega (arith, count-fold (add_submission callers s) subs, count-add callers s)

  -- a script takes no caller away
  length-add-ge : (callers : List (CallerOf S)) (s : SubmissionOf S) → length callers ≤ length (add_submission callers s)
  length-add-ge [] s = omega arith
  length-add-ge (c ∷ callers) s = grind (arith, length-add-ge callers s)

  -- nor do more scripts
  pub length-fold-ge : (callers : List (CallerOf S)) (subs : List (SubmissionOf S)) → length callers ≤ length (fold add_submission callers subs)
  length-fold-ge callers [] = omega arith
  length-fold-ge callers (s ∷ subs) = omega (arith, length-add-ge callers s, length-fold-ge (add_submission callers s) subs)

  -- and one of a new caller adds it
  pub length-add-new : (callers : List (CallerOf S)) (s : SubmissionOf S) → is_caller s.caller callers ≡ false
      → length callers < length (add_submission callers s)
  length-add-new [] s new = omega arith
  length-add-new (c ∷ callers) s new = grind (arith, length-add-new callers s)
