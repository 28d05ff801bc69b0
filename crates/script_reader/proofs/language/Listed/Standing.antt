-- What the lines of a text say of a line behind them.
use Rattle.script_reader.proofs.Common.{◌≡◌, ℕ, ◌+◌, Bool, true, false, not, ◌&&◌, ◌==◌, nat_le, cond, if◌then◌else◌, List, [], ◌∷◌, ◌++◌, codes, map, filter}
use Rattle.script_reader.proofs.Common.{fold, length, Option, Some, None, refl, ap, ◌∙◌, arith, flat_map, is_none, filter-append, fold-append, MOST_OPERATIONS}
use Rattle.script_reader.proofs.Common.{Fault, number, Words, begins, is_only, ranges_of, are_numbers, are_in_range, first_reason, SubmissionOf, ListLanguage}
use Rattle.script_reader.proofs.Common.{BetweenScripts, WithinScript, AreSizes, IsListLanguage, IsOperationIn, place_after, place_behind, script_line_fault}
use Rattle.script_reader.proofs.Common.{operation_fault, operation_words, submission_words, lines_of, head_words, sizes_at, judge, lines_within}
use Rattle.script_reader.specs.Gathered.{callers_of}
use Rattle.script_reader.proofs.Joined.{joined}
use Rattle.script_reader.proofs.language.Listed.Numbers.{sizes_are, texts_are_numbers, texts_are_in_range}
use Rattle.script_reader.proofs.language.Grouped.Outside.{outside_in, outside_of}
use Rattle.script_reader.specs.declared.fault.Fault.TheVariants as fault

module _ {O S : Type 0} (g : ListLanguage O S) (lawful : IsListLanguage g) where
  -- an operation is no other line
  pub operation_stays : (o : O) → is_only (codes "end") (operation_words g o) ≡ false
  operation_stays o = λ i. lawful.no_end o i && (length (operation_words g o) == 1)

  pub operation_goes_on : (o : O) → is_only (codes "finish") (operation_words g o) ≡ false
  operation_goes_on o = λ i. lawful.no_finish o i && (length (operation_words g o) == 1)

  -- where operations lead, and scripts
  place_operations : (count : ℕ) (ops : List O) → fold place_after (WithinScript count) (map (operation_words g) ops) ≡ WithinScript (count + length ops)
  place_operations count [] = ap WithinScript (omega arith)
  place_operations count (o ∷ ops) =
      ap (λ b. fold place_after (if b then BetweenScripts else WithinScript (count + 1)) (map (operation_words g) ops)) (operation_stays o)
      ∙ place_operations (count + 1) ops ∙ ap WithinScript (omega arith)

  place_submission : (s : SubmissionOf S) → fold place_after BetweenScripts (submission_words g s) ≡ BetweenScripts
  place_submission s =
      fold-append place_after (WithinScript 0) (map (operation_words g) (g.operations s.script)) ((codes "end" ∷ []) ∷ [])
      ∙ ap (λ p. fold place_after p ((codes "end" ∷ []) ∷ [])) (place_operations 0 (g.operations s.script))

  place_submissions : (subs : List (SubmissionOf S)) → place_behind (flat_map (submission_words g) subs) ≡ BetweenScripts
  place_submissions [] = refl
  place_submissions (s ∷ subs) =
      fold-append place_after BetweenScripts (submission_words g s) (flat_map (submission_words g) subs)
      ∙ ap (λ p. fold place_after p (flat_map (submission_words g) subs)) (place_submission s) ∙ place_submissions subs

  place_within : (subs : List (SubmissionOf S)) (name : List ℕ) (ops : List O)
      → place_behind (flat_map (submission_words g) subs ++ ((codes "script" ∷ name ∷ []) ∷ map (operation_words g) ops)) ≡ WithinScript (length ops)
  place_within subs name ops =
      fold-append place_after BetweenScripts (flat_map (submission_words g) subs) ((codes "script" ∷ name ∷ []) ∷ map (operation_words g) ops)
      ∙ ap (λ p. fold place_after p ((codes "script" ∷ name ∷ []) ∷ map (operation_words g) ops)) (place_submissions subs)
      ∙ place_operations 0 ops ∙ ap WithinScript (omega arith)

  -- the lines that begin a script
  filter_operations : (ops : List O) → filter (begins (codes "script")) (map (operation_words g) ops) ≡ []
  filter_operations [] = refl
  filter_operations (o ∷ ops) = ap
      (λ b. cond b (operation_words g o ∷ filter (begins (codes "script")) (map (operation_words g) ops)) (filter (begins (codes "script")) (map
      (operation_words g) ops)))
      (lawful.no_script o) ∙ filter_operations ops

  begun : (subs : List (SubmissionOf S)) → filter (begins (codes "script")) (flat_map (submission_words g) subs) ≡ map
      (λ s. codes "script" ∷ s.caller ∷ []) subs
  begun [] = refl
  begun (s ∷ subs) =
      filter-append (begins (codes "script")) (submission_words g s) (flat_map (submission_words g) subs)
      ∙ (λ i. here i ++ begun subs i)
    where
      here : filter (begins (codes "script")) (submission_words g s) ≡ (codes "script" ∷ s.caller ∷ []) ∷ []
      here = ap (λ l. (codes "script" ∷ s.caller ∷ []) ∷ l)
          (filter-append (begins (codes "script")) (map (operation_words g) (g.operations s.script)) ((codes "end" ∷ []) ∷ [])
          ∙ ap (λ l. l ++ []) (filter_operations (g.operations s.script)))

  -- what is wrong with a line between scripts
  pub outside_is : (ns : List ℕ) (subs : List (SubmissionOf S)) (words : Words) → judge g (lines_of g ns subs) words ≡ outside_in (callers_of subs) words
  outside_is ns subs words =
      (λ i. script_line_fault (g.forms (sizes_at (head_words g ns))) (flat_map (submission_words g) subs) (place_submissions subs i) words)
      ∙ outside_of (flat_map (submission_words g) subs) subs (begun subs) words

  -- what is wrong with a line of a script behind so many operations
  abbrev pub within_in : List ℕ → ℕ → Words → Option Fault
  within_in ns count words = if is_only (codes "end") words then None else operation_fault (g.forms ns) count words

  pub within_is : (ns : List ℕ) → AreSizes g ns → (subs : List (SubmissionOf S)) (name : List ℕ) (ops : List O) (words : Words)
      → judge g (lines_within g ns subs name ops) words ≡ within_in ns (length ops) words
  within_is ns h subs name ops words =
      λ i. script_line_fault (g.forms (sizes_are g h i)) (flat_map (submission_words g) subs ++ ((codes "script" ∷ name ∷ []) ∷ map (operation_words g) ops))
      (place_within subs name ops i) words

  -- an operation has no fault, unless there are too many
  pub operation_is : {ns : List ℕ} {o : O} (count : ℕ) {full : Bool} → IsOperationIn g ns o → nat_le MOST_OPERATIONS count ≡ full
      → within_in ns count (operation_words g o) ≡ (if full then Some fault.Limit else None)
  operation_is {ns} {o} count {full} h is_full =
      (λ i. if operation_stays o i then None else operation_fault (g.forms ns) count (operation_words g o))
      ∙ (λ i. first_reason (
      (is_none (h.kind_is i), fault.Word)
      ∷ (not (are_numbers (map number (g.numbers o))), fault.Number)
      ∷ (not (are_in_range (map number (g.numbers o)) (ranges_of (h.kind_is i))), fault.Limit)
      ∷ (nat_le MOST_OPERATIONS count, fault.Limit)
      ∷ []
      ))
      ∙ (λ i. first_reason (
      (false, fault.Word)
      ∷ (not (texts_are_numbers h.kind.ranges (g.numbers o) h.within i), fault.Number)
      ∷ (not (texts_are_in_range h.kind.ranges (g.numbers o) h.within i), fault.Limit)
      ∷ (is_full i, fault.Limit)
      ∷ []
      )) ∙ limit_of full
    where
      limit_of : (b : Bool) → first_reason ((false, fault.Word) ∷ (false, fault.Number) ∷ (false, fault.Limit) ∷ (b, fault.Limit) ∷ []) ≡
          (if b then Some fault.Limit else None)
      limit_of true = refl
      limit_of false = refl

  -- the lines of a script with one more operation
  pub within_more : (ns : List ℕ) (subs : List (SubmissionOf S)) (name : List ℕ) (done more : List O)
      → lines_within g ns subs name done ++ map (operation_words g) more ≡ lines_within g ns subs name (done ++ more)
  within_more ns subs name done more = simp joined
