-- A fault of a text has one of five reasons.
use Rattle.books_report.proofs.Common.{◌≡◌, ◌&&◌, not, ℕ, Bool, true, false, if◌then◌else◌, List, [], ◌∷◌, Some, None, codes, map, sym, subst, inl, inr}
use Rattle.books_report.proofs.Common.{AllByRecursion, word_at}
use Rattle.script_reader.proofs.Common.{Form, Words, are_in_range, are_numbers, form_of, is_only, is_script_line, ranges_of, first_reason, is_beyond}
use Rattle.script_reader.proofs.Common.{ListLanguage, IsFirstFaultIn, BetweenScripts, WithinScript, is_head_with, judge, operation_fault, place_behind}
use Rattle.script_reader.proofs.Common.{script_line_fault, size_words, sizes_at}
use Rattle.std.proofs.Common.{◌||◌, nat_le, drop}
use Rattle.std.specs.Option.{is_none}
use Rattle.books_model.specs.declared.limits.TheConstants.{MOST_OPERATIONS}
use Rattle.script_reader.specs.declared.fault.Fault.{Fault}
use Rattle.script_reader.specs.ListLanguage.{LinePlace}
use Rattle.books_report.specs.Stores.Faults.{IsListReason}
use Rattle.script_reader.specs.declared.fault.Fault.TheVariants as fault

-- the first of some reasons is one of them
first_is : (reasons : List (Bool × Fault)) {why : Fault} → AllByRecursion (λ reason. IsListReason reason.1) reasons
    → first_reason reasons ≡ Some why → IsListReason why
first_is [] all found = absurd cc
first_is (reason ∷ reasons) {why} all found = elim reason.0 as
    (λ applies. (if applies then Some reason.1 else first_reason reasons) ≡ Some why → IsListReason why) [
      | true ↦ λ at. let same : reason.1 ≡ why = cc in subst IsListReason same all.0
      | false ↦ λ at. first_is reasons all.1 at
    ] found

-- what is wrong with an operation's line
operation_is : (forms : List Form) (count : ℕ) (words : Words) {why : Fault} → operation_fault forms count words ≡ Some why → IsListReason why
operation_is forms count words found =
    let form = form_of forms words in
    first_is (
    (is_none form, fault.Word)
    ∷ (not (are_numbers (drop 1 words)), fault.Number)
    ∷ (not (are_in_range (drop 1 words) (ranges_of form)), fault.Limit)
    ∷ (nat_le MOST_OPERATIONS count, fault.Limit)
    ∷ []
    ) (tt, (tt, (tt, (tt, tt)))) found

-- what is wrong with a line behind the line `scripts`
line_is : (forms : List Form) (lines : List Words) (place : LinePlace) (words : Words) {why : Fault}
    → script_line_fault forms lines place words ≡ Some why → IsListReason why
line_is forms lines BetweenScripts words found = first_is (
    (not (is_only (codes "finish") words || is_script_line words), fault.Word)
    ∷ (is_script_line words && is_beyond lines (word_at words 1), fault.Limit)
    ∷ []
    ) (tt, (tt, tt)) found
line_is forms lines (WithinScript count) words {why} found = by (is_only (codes "end") words) found
  where
    by : (ends : Bool) → (if ends then None else operation_fault forms count words) ≡ Some why → IsListReason why
    by true found = absurd cc
    by false found = operation_is forms count words found

module _ {O S : Type 0} (g : ListLanguage O S) where
  -- what is wrong with a line beside those before it
  judged : (before : List Words) (words : Words) {why : Fault} → judge g before words ≡ Some why → IsListReason why
  judged [] words found = first_is (
      (not (is_head_with g.title g.sizes words), fault.Header)
      ∷ (not (are_numbers (size_words words)), fault.Number)
      ∷ (not (are_in_range (size_words words) (map (λ s. s.range) g.sizes)), fault.Limit)
      ∷ []
      ) (tt, (tt, (tt, tt))) found
  judged (header ∷ []) words found = first_is ((not (is_only (codes "scripts") words), fault.Word) ∷ []) (tt, tt) found
  judged (header ∷ scripts ∷ lines) words found = line_is (g.forms (sizes_at header)) lines (place_behind lines) words found

  pub reason_is : (text : List ℕ) (number : ℕ) (why : Fault) → IsFirstFaultIn g text number why → IsListReason why
  reason_is text number why h = elim h as (λ _. IsListReason why) [
    | inl front ↦ elim front.faulty.here as (λ _. IsListReason why) [
      | inl line ↦ judged front.faulty.more line.0 line.3
      | inr none ↦ subst IsListReason (sym none.2) tt
    ]
    | inr behind ↦ subst IsListReason (sym behind.why_is) tt
  ]
