-- What is wrong with a line between scripts, by the callers of the scripts before it.
use Rattle.script_reader.proofs.Common.{◌≡◌, ℕ, ◌<◌, ◌≤◌, Bool, true, false, not, ◌&&◌, ◌||◌, nat_le, cond, List, [], ◌∷◌, codes, map, filter, fold, length}
use Rattle.script_reader.proofs.Common.{Option, Some, None, refl, sym, ap, subst, ◌∙◌, arith, list_any, count_by, bytes_eq, length-map, sum_by-cons, nat_tests}
use Rattle.script_reader.proofs.Common.{MOST_CALLERS, MOST_SCRIPTS, Fault, word_at, Words, begins, is_only, is_script_line, first_reason, is_beyond}
use Rattle.script_reader.proofs.Common.{outside_fault, CallerOf, SubmissionOf, AreCallers, first_seen, count_scripts, scripts_by, is_caller, add_submission}
use Rattle.script_reader.proofs.Common.{is_beyond_in}
use Rattle.script_reader.specs.Faults.{callers_before}
use Rattle.script_reader.specs.Gathered.{IsName, is_name, callers_of}
use Rattle.script_reader.proofs.Conditions.{any_last, both, passed}
use Rattle.script_reader.proofs.LineFaults.LineKinds.{none_applies, one_behind}
use Rattle.script_reader.proofs.language.Grouped.Gathering.{any-map, count-add}
use Rattle.script_reader.proofs.language.Grouped.Grouping.{callers_of-gathered, no-names}
use Rattle.script_reader.proofs.language.Grouped.Submitting.{count-fold, length-add-new, length-fold-ge}
use Rattle.script_reader.specs.declared.fault.Fault.TheVariants as fault

-- how many lines pass a test
count_filter : (t : Words → Bool) (ls : List Words) → count_by t ls ≡ length (filter t ls)
count_filter t [] = refl
count_filter t (l ∷ ls) = grind (arith, count_filter t ls, sum_by-cons (λ w. cond (t w) 1 0) l ls)

module _ {S : Type 0} where
  -- the names of the callers of scripts
  names_are : (subs : List (SubmissionOf S)) → map (λ c. c.name) (callers_of subs) ≡ first_seen (map (λ s. s.caller) subs)
  names_are subs = each (first_seen (map (λ s. s.caller) subs))
    where
      each : (names : List (List ℕ)) → map (λ (c : CallerOf S). c.name) (map (λ name. record { name = name; scripts = scripts_by name subs }) names) ≡ names
      each [] = refl
      each (n ∷ names) = ap (λ l. n ∷ l) (each names)

  -- how many scripts they have
  pub scripts_counted : (subs : List (SubmissionOf S)) → count_scripts (callers_of subs) ≡ length subs
  scripts_counted subs = ap count_scripts (callers_of-gathered subs) ∙ count-fold [] subs ∙ omega arith

  -- and as many callers as names
  pub callers_counted : (subs : List (SubmissionOf S)) → length (callers_of subs) ≡ length (first_seen (map (λ s. s.caller) subs))
  callers_counted subs = simp length-map

  pub caller_named : (name : List ℕ) (subs : List (SubmissionOf S))
      → is_caller name (callers_of subs) ≡ list_any (bytes_eq name) (first_seen (map (λ s. s.caller) subs))
  caller_named name subs = any_last (λ (c : CallerOf S). bytes_eq name c.name) (λ n. record { name = n; scripts = scripts_by n subs })
      (first_seen (map (λ s. s.caller) subs))

  -- what is wrong with a line behind scripts of these callers
  abbrev pub outside_in : List (CallerOf S) → Words → Option Fault
  outside_in callers words = first_reason (
      (not (is_only (codes "finish") words || is_script_line words), fault.Word)
      ∷ (is_script_line words && is_beyond_in callers (word_at words 1), fault.Limit)
      ∷ []
      )

  -- a line that is neither the last one nor begins a script
  pub outside_other : (callers : List (CallerOf S)) (words : Words) → is_only (codes "finish") words ≡ false
      → is_script_line words ≡ false → outside_in callers words ≡ Some fault.Word
  outside_other callers words more no_script = λ i. first_reason (
      (not (more i || no_script i), fault.Word)
      ∷ (is_script_line words && is_beyond_in callers (word_at words 1), fault.Limit)
      ∷ []
      )

  -- one that begins a script for which there is room
  pub outside_none : (callers : List (CallerOf S)) (name : List ℕ) → IsName name → is_beyond_in callers name ≡ false
      → outside_in callers (codes "script" ∷ name ∷ []) ≡ None
  outside_none callers name named room = λ i. first_reason ((not (false || named i), fault.Word) ∷ (named i && room i, fault.Limit) ∷ [])

  -- one script too many, or one caller
  pub outside_beyond : (callers : List (CallerOf S)) {name : List ℕ} {words : Words} → words ≡ codes "script" ∷ name ∷ []
      → IsName name → is_beyond_in callers name ≡ true → outside_in callers words ≡ Some fault.Limit
  outside_beyond callers is named beyond =
      ap (outside_in callers) is ∙ (λ i. first_reason ((not (false || named i), fault.Word) ∷ (named i && beyond i, fault.Limit) ∷ []))

  -- one more script, and its caller, have room
  pub has_room : (callers : List (CallerOf S)) (name : List ℕ) → is_beyond_in callers name ≡ false
      → (count_scripts callers < MOST_SCRIPTS) × (is_caller name callers ≡ false → length callers < MOST_CALLERS)
  has_room callers name room = (grind (arith, nat_tests), λ new. grind (arith, nat_tests))

  -- a line without fault that is not the last one begins a script, for which and for whose caller there is room
  pub record BeginsScript (callers : List (CallerOf S)) (words : Words) : Type 0 where
    pub name : List ℕ
    pub words_are : words ≡ codes "script" ∷ name ∷ []
    pub named : IsName name
    pub room : count_scripts callers < MOST_SCRIPTS
    pub space : is_caller name callers ≡ false → length callers < MOST_CALLERS

  pub begins_script : (callers : List (CallerOf S)) (words : Words) → outside_in callers words ≡ None → is_only (codes "finish") words ≡ false
      → BeginsScript callers words
  begins_script callers words none more =
      let n1 = none_applies _ fault.Word _ none in
      let n2 = none_applies _ fault.Limit _ n1.1 in
      let script : is_script_line words ≡ true = sym (ap (λ c. c || is_script_line words) more) ∙ passed n1.0 in
      let form = both script in
      let name = one_behind (codes "script") words form.0 in
      let beyond : is_beyond_in callers name.0 ≡ false =
      subst (λ w. is_beyond_in callers (word_at w 1) ≡ false) name.1 (sym (ap (λ c. c && is_beyond_in callers (word_at words 1)) script) ∙ n2.0) in
      let room = has_room callers name.0 beyond in
      record {
        name = name.0;
        words_are = name.1;
        named = subst (λ w. is_name (word_at w 1) ≡ true) name.1 form.1;
        room = room.0;
        space = room.1;
      }

  module _ (lines : List Words) (subs : List (SubmissionOf S))
      (begun : filter (begins (codes "script")) lines ≡ map (λ s. codes "script" ∷ s.caller ∷ []) subs) where
    -- the callers of lines that begin these scripts
    seen : callers_before lines ≡ map (λ c. c.name) (callers_of subs)
    seen = ap (λ ls. first_seen (map (λ w. word_at w 1) ls)) begun ∙ ap first_seen (names subs) ∙ sym (names_are subs)
      where
        names : (subs : List (SubmissionOf S)) → map (λ w. word_at w 1) (map (λ s. codes "script" ∷ s.caller ∷ []) subs) ≡ map (λ s. s.caller) subs
        names [] = refl
        names (s ∷ subs) = ap (λ l. s.caller ∷ l) (names subs)

    -- whether a script would be too many
    beyond_is : (name : List ℕ) → is_beyond lines name ≡ is_beyond_in (callers_of subs) name
    beyond_is name i = nat_le MOST_SCRIPTS (counted i) || (not (known i) && nat_le MOST_CALLERS (many i))
      where
        counted : count_by (begins (codes "script")) lines ≡ count_scripts (callers_of subs)
        counted = count_filter (begins (codes "script")) lines ∙ ap length begun
            ∙ length-map subs (λ s. codes "script" ∷ s.caller ∷ []) ∙ sym (scripts_counted subs)

        known : list_any (bytes_eq name) (callers_before lines) ≡ is_caller name (callers_of subs)
        known = ap (list_any (bytes_eq name)) seen ∙ sym (any-map (λ (c : CallerOf S). c.name) name (callers_of subs))

        many : length (callers_before lines) ≡ length (callers_of subs)
        many = ap length seen ∙ length-map (callers_of subs) (λ (c : CallerOf S). c.name)

    -- what is wrong with a line behind them
    pub outside_of : (words : Words) → outside_fault lines words ≡ outside_in (callers_of subs) words
    outside_of words i = first_reason (
        (not (is_only (codes "finish") words || is_script_line words), fault.Word)
        ∷ (is_script_line words && beyond_is (word_at words 1) i, fault.Limit)
        ∷ []
        )

-- there is room for one more script, if more scripts keep to the limits
pub room_for : {S : Type 0} (callers : List (CallerOf S)) (s : SubmissionOf S) (rest : List (SubmissionOf S))
    → count_scripts (fold add_submission (add_submission callers s) rest) ≤ MOST_SCRIPTS
    → length (fold add_submission (add_submission callers s) rest) ≤ MOST_CALLERS → is_beyond_in callers s.caller ≡ false
room_for callers s rest few space = grind (
  arith,
  nat_tests,
  count-fold (add_submission callers s) rest,
  count-add callers s,
  length-fold-ge (add_submission callers s) rest,
  length-add-new callers s,
)

-- no callers are valid
pub no_callers : {S : Type 0} (IsScript : S → Type 0) → AreCallers IsScript []
no_callers IsScript = record {
  few = omega arith;
  few_scripts = omega arith;
  names = λ k d less. absurd (omega arith);
  names_differ = no-names;
  scripts = λ k d less. absurd (omega arith);
  some_scripts = λ k d less. absurd (omega arith);
}
