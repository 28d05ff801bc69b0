-- A text is of one header and of one list of scripts at most, and has no fault.
use Rattle.script_reader.proofs.Common.{◌≡◌, ℕ, List, [], ◌∷◌, ◌++◌, codes, map, drop, refl, sym, ap, subst, ◌∙◌, append_assoc, true≢false, flat_map}
use Rattle.script_reader.proofs.Common.{AllByRecursion, append-nil, recursion_from_All, Fault, word_at, number, Words, is_only, value_of, CallerOf}
use Rattle.script_reader.proofs.Common.{SubmissionOf, AreCallers, ListLanguage, IsListLanguage, IsOperationIn, IsScriptIn, IsText, IsTextOf, IsFirstFaultIn}
use Rattle.script_reader.proofs.Common.{operation_words, submission_words, lines_of, head_words, sizes_at, judge}
use Rattle.script_reader.specs.Gathered.{callers_of}
use Rattle.script_reader.proofs.language.Listed.Numbers.{sizes_are, values_are}
use Rattle.script_reader.proofs.language.Grouped.Submitting.{IsGoodScript, scripts_are_good}
use Rattle.script_reader.proofs.Judged.{IsWhole}
use Rattle.script_reader.proofs.language.Listed.Standing.{outside_is, operation_stays}
use Rattle.script_reader.proofs.language.Listed.Lawful.{text_faultless}
use Rattle.script_reader.proofs.Judged as judged

module _ {O S : Type 0} (g : ListLanguage O S) (lawful : IsListLanguage g) where
  -- operations of two texts with one line are one
  operation_once : {ns ms : List ℕ} {o q : O} → IsOperationIn g ns o → IsOperationIn g ms q → operation_words g o ≡ operation_words g q → o ≡ q
  operation_once {o} {q} h k e =
      let keywords : g.keyword o ≡ g.keyword q = ap (λ w. word_at w 0) e in
      let numbers : g.numbers o ≡ g.numbers q =
      sym (values_are h.kind.ranges (g.numbers o) h.within) ∙ ap (λ w. map value_of (drop 1 w)) e ∙ values_are k.kind.ranges (g.numbers q) k.within in
      sym (lawful.one_operation o) ∙ (λ i. g.operation (keywords i) (numbers i)) ∙ lawful.one_operation q

  -- operations in front of the line that ends a script are the same
  operations_once : (ns ms : List ℕ) (ops others : List O) (rest more : List Words)
      → AllByRecursion (IsOperationIn g ns) ops → AllByRecursion (IsOperationIn g ms) others
      → map (operation_words g) ops ++ ((codes "end" ∷ []) ∷ rest) ≡ map (operation_words g) others ++ ((codes "end" ∷ []) ∷ more)
      → (ops ≡ others) × (rest ≡ more)
  operations_once ns ms [] [] rest more p q e = (refl, ap (drop 1) e)
  operations_once ns ms [] (o ∷ others) rest more p q e =
      let heads : codes "end" ∷ [] ≡ operation_words g o = cc in
      absurd (true≢false (ap (is_only (codes "end")) heads ∙ operation_stays g lawful o))
  operations_once ns ms (o ∷ ops) [] rest more p q e =
      let heads : operation_words g o ≡ codes "end" ∷ [] = cc in
      absurd (true≢false (sym (ap (is_only (codes "end")) heads) ∙ operation_stays g lawful o))
  operations_once ns ms (o ∷ ops) (u ∷ others) rest more p q e =
      let heads : operation_words g o ≡ operation_words g u = cc in
      let behind = operations_once ns ms ops others rest more p.1 q.1 (ap (drop 1) e) in
      ((λ i. operation_once p.0 q.0 heads i ∷ behind.0 i), behind.1)

  -- scripts with the same lines are the same
  scripts_once : (ns ms : List ℕ) (subs vs : List (SubmissionOf S)) → AllByRecursion (IsGoodScript (IsScriptIn g ns)) subs
      → AllByRecursion (IsGoodScript (IsScriptIn g ms)) vs → flat_map (submission_words g) subs ≡ flat_map (submission_words g) vs → subs ≡ vs
  scripts_once ns ms [] [] p q e = refl
  scripts_once ns ms [] (v ∷ vs) p q e = cc
  scripts_once ns ms (s ∷ subs) [] p q e = cc
  scripts_once ns ms (s ∷ subs) (v ∷ vs) p q e =
      let end : Words = codes "end" ∷ [] in
      let heads : codes "script" ∷ s.caller ∷ [] ≡ codes "script" ∷ v.caller ∷ [] = cc in
      let tails : (map (operation_words g) (g.operations s.script) ++ end ∷ []) ++ flat_map (submission_words g) subs
      ≡ (map (operation_words g) (g.operations v.script) ++ end ∷ []) ++ flat_map (submission_words g) vs = ap (drop 1) e in
      let same = operations_once ns ms (g.operations s.script) (g.operations v.script) (flat_map (submission_words g) subs) (flat_map (submission_words g) vs)
      (recursion_from_All _ _ p.0.script.each) (recursion_from_All _ _ q.0.script.each)
      (simp append_assoc at tails) in
      let rest = scripts_once ns ms subs vs p.1 q.1 same.1 in
      let names : s.caller ≡ v.caller = ap (λ w. word_at w 1) heads in
      let script = lawful.one_script s.script v.script same.0 in
      (λ i. record { caller = names i; script = script i } ∷ rest i)

  -- the lines of a text, and that its last line is none of them
  pub valid_callers : {text : List ℕ} {ns : List ℕ} {callers : List (CallerOf S)} → (h : IsTextOf g text ns callers)
      → AreCallers (IsScriptIn g ns) (callers_of h.submissions)
  valid_callers {ns} h = subst (AreCallers (IsScriptIn g ns)) h.callers_are h.valid

  abbrev pub whole : (text : List ℕ) → IsText g text → IsWhole (judge g) text
  whole text (ns, callers, h) = record {
    lines = lines_of g ns h.submissions;
    faultless = text_faultless lawful ns h.sized h.submissions (valid_callers h);
    ends = outside_is g lawful ns h.submissions (codes "finish" ∷ []);
    text_is = h.text;
  }

  -- a text has one list of sizes, and one of callers
  pub one_text : (text : List ℕ) (ns ms : List ℕ) (callers others : List (CallerOf S)) → IsTextOf g text ns callers → IsTextOf g text ms others
      → (ns ≡ ms) × (callers ≡ others)
  one_text text ns ms callers others h k =
      let same = judged.same_lines (judge g) (IsText g) whole text [] text [] (sym (append-nil text)) (sym (append-nil text))
      (ns, callers, h) (ms, others, k) in
      let heads : head_words g ns ≡ head_words g ms = cc in
      let scripts = scripts_once ns ms h.submissions k.submissions (scripts_are_good (IsScriptIn g ns) h.submissions (valid_callers h))
      (scripts_are_good (IsScriptIn g ms) k.submissions (valid_callers k)) (ap (drop 2) same.0) in
      (sym (sizes_are g h.sized) ∙ ap sizes_at heads ∙ sizes_are g k.sized, h.callers_are ∙ ap callers_of scripts ∙ sym k.callers_are)

  -- it has no fault
  pub not_both : (text : List ℕ) (ns : List ℕ) (callers : List (CallerOf S)) (number : ℕ) (why : Fault) → IsTextOf g text ns callers
      → IsFirstFaultIn g text number why → ⊥
  not_both text ns callers number why h fault = judged.not_both (judge g) (IsText g) whole text (ns, callers, h) (number, why, fault)

  -- and a text one first fault at most
  pub one_fault : (text : List ℕ) (number other : ℕ) (why reason : Fault) → IsFirstFaultIn g text number why → IsFirstFaultIn g text other reason
      → (number ≡ other) × (why ≡ reason)
  one_fault = judged.one_fault (judge g) (IsText g) whole
