-- The scripts are for the opening books, and their callers are few.
use Rattle.input_maker.proofs.Common.{◌≡◌, ℕ, zero, suc, ◌+◌, ◌*◌, ◌%◌, ◌<◌, ◌≤◌, Bool, true, false, ◌&&◌, ◌||◌, List, [], ◌∷◌, ◌++◌, map, length}
use Rattle.input_maker.proofs.Common.{if◌then◌else◌, inl, inr, refl, sym, ap, subst, ◌∙◌, add-one, length-append, true≢false, arith, bytes_eq, mod-lt}
use Rattle.input_maker.proofs.Common.{length-map-range_with_len, MOST_SCRIPTS, IsScriptOf, One, Caller, Submission, first_seen, callers_of, made_books}
use Rattle.input_maker.proofs.Common.{made_submission, state_of_script}
use Rattle.script_reader.proofs.Common.{AreCallersOf, is_caller}
use Rattle.books_report.proofs.Common.{IsName}
use Rattle.std.proofs.Common.{◌/◌, nat_le}
use Rattle.std.specs.List.{list_any}
use Rattle.std.specs.Cmp.{IsEquivalence}
use Rattle.std.specs.Cmp.Lexicographic.{nat_list_eq_equiv}
use Rattle.std.proofs.Math.Nat.{mod-eq_of_lt}
use Rattle.std.proofs.lemmas.Bool.{cases_lt, or_right}
use Rattle.std.proofs.lemmas.Bool.Decides.{nat_tests}
use Rattle.std.proofs.lemmas.List.{map_push}
use Rattle.std.proofs.lemmas.List.Folds.{list_any-append}
use Rattle.std.proofs.lemmas.List.Sums.{fold_push}
use Rattle.script_reader.specs.declared.limits.TheConstants.{MOST_CALLERS}
use Rattle.script_reader.proofs.books.Versions.{callers_for, callers_within}
use Rattle.script_reader.specs.Input.{add_name}
use Rattle.script_reader.proofs.language.Grouped.Grouping.{callers_of-push, no-names}
use Rattle.script_reader.proofs.language.Grouped.Outside.{scripts_counted, callers_counted, caller_named}
use Rattle.script_reader.proofs.language.Grouped.Submitting.{callers_more}
use Rattle.input_maker.specs.Made.{caller_name, made_submissions, submissions_to}
use Rattle.input_maker.specs.Statements.{MadeInputsAreInputs}
use Rattle.input_maker.proofs.Listing.{submissions-none, submissions-more}
use Rattle.input_maker.proofs.Opening.{made_books_in_range, made_books_within}
use Rattle.input_maker.proofs.Making.{script_fits, script_made}

is_letter : (d : ℕ) → d < 26 → (nat_le 97 (97 + d) && nat_le (97 + d) 122) ≡ true
is_letter d less = grind (arith, nat_tests)

-- a caller has a name
pub caller_name_is_name : (c : ℕ) → c < 17576 → IsName (caller_name c)
unfolding caller_name
caller_name_is_name c less =
    let first = is_letter (c / 676) (omega arith) in
    let second = is_letter (c / 26 % 26) (omega arith) in
    let third = is_letter (c % 26) (omega arith) in
    λ t. first t && (second t && (third t && true))

-- the names that were seen in the first n scripts
record Seen (callers n : ℕ) (seen : List (List ℕ)) : Type 0 where
  few : length seen ≤ n
  most : length seen ≤ callers
  all : (j : ℕ) → j < n → j < callers → list_any (bytes_eq (caller_name j)) seen ≡ true

laws : IsEquivalence bytes_eq
laws = nat_list_eq_equiv

one_seen : {callers n : ℕ} {seen : List (List ℕ)} → 1 ≤ callers → Seen callers n seen → Seen callers (n + 1) (add_name seen (caller_name (n % callers)))
one_seen {callers} {n} {seen} some h = by (list_any (bytes_eq (caller_name (n % callers))) seen) refl
  where
    own : n < callers → caller_name (n % callers) ≡ caller_name n
    own less = ap caller_name (mod-eq_of_lt less)

    by : (there : Bool) → list_any (bytes_eq (caller_name (n % callers))) seen ≡ there
        → Seen callers (n + 1) (if there then seen else seen ++ caller_name (n % callers) ∷ [])
    by true e = record {
      few = omega (arith, h.few);
      most = h.most;
      all = λ j less within. elim (cases_lt j n) [
        | inl before ↦ h.all j before within
        | inr past ↦ let same : j ≡ n = omega (arith, past, less) in let here : n < callers = omega (arith, same, within) in
            ap (λ (k : ℕ). list_any (bytes_eq (caller_name k)) seen) same ∙ ap (λ (c : List ℕ). list_any (bytes_eq c) seen) (sym (own here)) ∙ e
      ];
    }
    by false e = record {
      few = omega (arith, h.few, length-append seen (caller_name (n % callers) ∷ []));
      most = omega (arith, h.few, new, length-append seen (caller_name (n % callers) ∷ []));
      all = λ j less within. list_any-append (bytes_eq (caller_name j)) seen (caller_name (n % callers) ∷ []) ∙ elim (cases_lt j n) [
        | inl before ↦ ap (λ (b : Bool). b || (bytes_eq (caller_name j) (caller_name (n % callers)) || false)) (h.all j before within)
        | inr past ↦ let same : j ≡ n = omega (arith, past, less) in let here : n < callers = omega (arith, same, within) in
            or_right (list_any (bytes_eq (caller_name j)) seen) (bytes_eq (caller_name j) (caller_name (n % callers)) || false)
            (ap (λ (c : List ℕ). bytes_eq (caller_name j) c || false) (own here ∙ ap caller_name (sym same))
            ∙ ap (λ (b : Bool). b || false) (laws.refl (caller_name j)))
      ];
    }
      where
        new : n < callers
        new = elim (cases_lt n callers) [
          | inl less ↦ less
          | inr past ↦ let within : n % callers < callers = mod-lt n some in absurd (true≢false (sym (h.all (n % callers) (omega arith) within) ∙ e))
        ]

-- the callers in order
abbrev names : List Submission → List (List ℕ)
names subs = first_seen (map (λ s. s.caller) subs)

seen_in : (seed : ℕ) {callers : ℕ} (n : ℕ) → 1 ≤ callers → Seen callers n (names (submissions_to seed callers n))
seen_in seed {callers} zero some =
    subst (λ subs. Seen callers 0 (names subs)) (sym (submissions-none seed callers))
    (record { few = omega arith; most = omega arith; all = λ j less within. absurd (omega (arith, less)) })
seen_in seed {callers} (suc n) some =
    let subs = submissions_to seed callers n in
    let s = made_submission seed callers n in
    let e : names (submissions_to seed callers (n + 1)) ≡ add_name (names subs) s.caller =
    ap names (submissions-more seed callers n)
    ∙ ap first_seen (map_push (λ s. s.caller) subs s)
    ∙ fold_push add_name [] (map (λ s. s.caller) subs) s.caller in
    subst (λ m. Seen callers m (names (submissions_to seed callers m))) (add-one n)
    (subst (Seen callers (n + 1)) (sym e) (one_seen some (seen_in seed n some)))

submissions_length : (seed callers n : ℕ) → length (submissions_to seed callers n) ≡ n
unfolding submissions_to
submissions_length seed callers n = length-map-range_with_len (made_submission seed callers) 0 n

-- the callers of the first n scripts are for the opening books
callers_fit : (seed : ℕ) {callers : ℕ} (n : ℕ) → 1 ≤ callers → callers ≤ MOST_CALLERS → n ≤ MOST_SCRIPTS
    → AreCallersOf One made_books (callers_of (submissions_to seed callers n))
callers_fit seed {callers} zero some few room =
    subst (λ subs. AreCallersOf One made_books (callers_of subs)) (sym (submissions-none seed callers)) (record {
      few = omega arith;
      few_scripts = omega arith;
      names = λ k d less. absurd (omega (arith, less));
      names_differ = no-names;
      scripts = λ k d less. absurd (omega (arith, less));
      some_scripts = λ k d less. absurd (omega (arith, less));
    })
callers_fit seed {callers} (suc n) some few room =
    let subs = submissions_to seed callers n in
    let s = made_submission seed callers n in
    let seen = seen_in seed n some in
    let made = script_made (state_of_script seed n) in
    let within : n % callers < callers = mod-lt n some in
    let space : is_caller s.caller (callers_of subs) ≡ false → length (callers_of subs) < MOST_CALLERS =
    λ new. elim (cases_lt n callers) [
      | inl less ↦ omega (arith, less, few, seen.few, callers_counted subs)
      | inr past ↦ absurd (true≢false (sym (seen.all (n % callers) (omega (arith, within, past)) within) ∙ sym (caller_named s.caller subs) ∙ new))
    ] in
    subst (λ m. AreCallersOf One made_books (callers_of (submissions_to seed callers m))) (add-one n)
    (subst (λ subs. AreCallersOf One made_books (callers_of subs)) (sym (submissions-more seed callers n))
    (subst (AreCallersOf One made_books) (sym (callers_of-push subs s))
    (callers_more (IsScriptOf One made_books) (callers_of subs) s (callers_fit seed n some few (omega (arith, room)))
    (caller_name_is_name (n % callers) (omega (arith, within, few))) (script_fits made.1)
    (omega (arith, room, scripts_counted subs, submissions_length seed callers n)) space)))

-- each generated text is of an input
pub made_inputs : MadeInputsAreInputs
made_inputs seed callers scripts h = record {
  version = One;
  submissions = made_submissions seed callers scripts;
  text = refl;
  callers = refl;
  valid = record { books = made_books_in_range; callers = callers_for One made_books made fits };
  within = record { books = made_books_within; scripts = callers_within One made_books made fits };
}
  where
    made : List Caller
    made = callers_of (made_submissions seed callers scripts)

    fits : AreCallersOf One made_books made
    fits = callers_fit seed (callers * scripts) h.callers_range.0 h.callers_range.1 h.few
