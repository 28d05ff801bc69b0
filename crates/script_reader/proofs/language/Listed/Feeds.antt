-- How many lines are read, and which of them is faulty.
use Rattle.script_reader.proofs.Common.{◌≡◌, ◌≢◌, ℕ, ◌+◌, ◌*◌, ◌<◌, ◌≤◌, ◌^◌, Bool, true, false, not, ◌&&◌, ◌||◌, nat_le, cond, if◌then◌else◌, List, [], ◌∷◌}
use Rattle.script_reader.proofs.Common.{◌++◌, codes, drop, length, Some, None, refl, sym, ap, subst, ◌∙◌, append_assoc, length-append, true≢false, arith}
use Rattle.script_reader.proofs.Common.{count_by, is_none, leb-false, append-nil, fold_push, sum_by-append, sum_by-cons, MOST_OPERATIONS, MOST_SCRIPTS, word_at}
use Rattle.script_reader.proofs.Common.{Words, Form, begins, is_only, form_of, ranges_of, is_script_line, are_numbers, are_in_range, is_beyond, HaveNoFault}
use Rattle.script_reader.proofs.Common.{ListLanguage, BetweenScripts, WithinScript, place_after, place_behind, script_line_fault, operation_fault, sizes_at}
use Rattle.script_reader.proofs.Common.{judge, is_head_with, size_words, size_ranges}
use Rattle.script_reader.specs.ListLanguage.{LinePlace}
use Rattle.script_reader.proofs.Conditions.{both, neither, passed}
use Rattle.script_reader.proofs.LineFaults.LineKinds.{none_applies}
use Rattle.script_reader.proofs.Judged.{other, no_more}
use Rattle.script_reader.specs.declared.fault.Fault.TheVariants as fault

-- the most lines of a script, with the line that begins it and the one that ends it
abbrev most_script_lines : ℕ
most_script_lines = MOST_OPERATIONS + 2

-- so many lines, of so many scripts, up to a place
abbrev AreFew : ℕ → ℕ → LinePlace → Type 0
AreFew scripts lines BetweenScripts = lines ≤ most_script_lines * scripts
AreFew scripts lines (WithinScript count) = (lines + MOST_OPERATIONS + 1 ≤ most_script_lines * scripts + count) × (count ≤ MOST_OPERATIONS)

record IsFewAt (lines : List Words) : Type 0 where
  pub scripts : ℕ
  pub most : scripts ≤ MOST_SCRIPTS
  pub counted : scripts ≤ count_by (begins (codes "script")) lines
  pub few : AreFew scripts (length lines) (place_behind lines)

-- lines that pass a test do not become fewer
count_more : (lines : List Words) (words : Words) → count_by (begins (codes "script")) (lines ++ words ∷ [])
    ≡ count_by (begins (codes "script")) lines + cond (begins (codes "script") words) 1 0
count_more lines words = omega (
  arith,
  sum_by-append (λ w. cond (begins (codes "script") w) 1 0) lines (words ∷ []),
  sum_by-cons (λ w. cond (begins (codes "script") w) 1 0) words [],
)

-- a line behind the line `scripts` without fault
one_more : (forms : List Form) {lines : List Words} (words : Words) → IsFewAt lines
    → script_line_fault forms lines (place_behind lines) words ≡ None → is_only (codes "finish") words ≡ false → IsFewAt (lines ++ words ∷ [])
one_more forms {lines} words at none more = by (place_behind lines) at.few none (fold_push place_after BetweenScripts lines words)
  where
    long : length (lines ++ words ∷ []) ≡ length lines + 1
    long = length-append lines (words ∷ [])

    not_finish : {a c : Bool} → (a || c) ≡ true → a ≡ false → c ≡ true
    not_finish {a = true} h e = absurd (true≢false e)
    not_finish {a = false} h e = h

    inside : (count : ℕ) → (ends : Bool) → is_only (codes "end") words ≡ ends → AreFew at.scripts (length lines) (WithinScript count)
        → (if ends then None else operation_fault forms count words) ≡ None
        → place_behind (lines ++ words ∷ []) ≡ (if ends then BetweenScripts else WithinScript (count + 1)) → IsFewAt (lines ++ words ∷ [])
    inside count true e few none is = record {
      scripts = at.scripts;
      most = at.most;
      counted = omega (arith, count_more lines words, at.counted);
      few = subst (AreFew at.scripts (length (lines ++ words ∷ []))) (sym is) (omega (arith, long, few.0, few.1));
    }
    inside count false e few none is =
        let n1 = none_applies _ fault.Word _ none in
        let n2 = none_applies _ fault.Number _ n1.1 in
        let n3 = none_applies _ fault.Limit _ n2.1 in
        let n4 = none_applies _ fault.Limit _ n3.1 in
        record {
          scripts = at.scripts;
          most = at.most;
          counted = omega (arith, count_more lines words, at.counted);
          few = subst (AreFew at.scripts (length (lines ++ words ∷ []))) (sym is)
              (omega (arith, long, few.0), omega (arith, leb-false MOST_OPERATIONS count n4.0));
        }

    by : (place : LinePlace) → AreFew at.scripts (length lines) place → script_line_fault forms lines place words ≡ None
        → place_behind (lines ++ words ∷ []) ≡ place_after place words → IsFewAt (lines ++ words ∷ [])
    by BetweenScripts few none is =
        let n1 = none_applies _ fault.Word _ none in
        let n2 = none_applies _ fault.Limit _ n1.1 in
        let script : is_script_line words ≡ true = not_finish (passed n1.0) more in
        let begun : begins (codes "script") words ≡ true = (both (both script).0).0 in
        let one : ◌≡◌ {A = ℕ} (cond (begins (codes "script") words) 1 0) 1 = ap (λ b. cond b 1 0) begun in
        let beyond : is_beyond lines (word_at words 1) ≡ false = sym (ap (λ b. b && is_beyond lines (word_at words 1)) script) ∙ n2.0 in
        let room = leb-false MOST_SCRIPTS (count_by (begins (codes "script")) lines) (neither beyond).0 in
        record {
          scripts = at.scripts + 1;
          most = omega (arith, at.counted, room);
          counted = omega (arith, count_more lines words, one, at.counted);
          few = subst (AreFew (at.scripts + 1) (length (lines ++ words ∷ [])))
              (sym (is ∙ ap (λ b. if b then WithinScript 0 else BetweenScripts) begun)) (omega (arith, long, few), omega arith);
        }
    by (WithinScript count) few none is = inside count (is_only (codes "end") words) refl few none is

-- how many lines there may be
abbrev most_lines : ℕ
most_lines = most_script_lines * MOST_SCRIPTS + MOST_OPERATIONS + 2

few_at : {scripts : ℕ} (lines : ℕ) (place : LinePlace) → AreFew scripts lines place → scripts ≤ MOST_SCRIPTS → lines + 2 ≤ most_lines
few_at lines BetweenScripts few most = omega (arith, few, most)
few_at lines (WithinScript count) few most = omega (arith, few.0, few.1, most)

module _ {O S : Type 0} (g : ListLanguage O S) where
  more_lines : (header scripts : Words) (lines more : List Words) → IsFewAt lines → HaveNoFault (judge g) (header ∷ scripts ∷ lines) more
      → IsFewAt (lines ++ more)
  more_lines header scripts lines [] at f = subst IsFewAt (sym (append-nil lines)) at
  more_lines header scripts lines (w ∷ more) at f =
      subst IsFewAt (append_assoc lines (w ∷ []) more)
      (more_lines header scripts (lines ++ w ∷ []) more (one_more (g.forms (sizes_at header)) w at f.1 f.2) f.3)

  -- lines without fault are few
  pub few_lines : (lines : List Words) → HaveNoFault (judge g) [] lines → length lines + 2 < 2 ^ 32
  few_lines [] f = omega arith
  few_lines (header ∷ []) f = omega arith
  few_lines (header ∷ scripts ∷ more) f =
      let at = more_lines header scripts [] more (record { scripts = 0; most = omega arith; counted = omega arith; few = omega arith }) f.3.3 in
      omega (arith, few_at (length more) (place_behind more) at.few at.most)

  -- a line that is there is not missing
  pub not_missing : (before : List Words) (words : Words) → judge g before words ≢ Some fault.End
  not_missing [] words =
      other (not (is_head_with g.title g.sizes words)) fault.Header _ (λ e. cc) (other (not (are_numbers (size_words words))) fault.Number _ (λ e. cc)
      (other (not (are_in_range (size_words words) (size_ranges g))) fault.Limit _ (λ e. cc) no_more))
  not_missing (header ∷ []) words = other (not (is_only (codes "scripts") words)) fault.Word _ (λ e. cc) no_more
  not_missing (header ∷ scripts ∷ lines) words = by (place_behind lines)
    where
      forms : List Form
      forms = g.forms (sizes_at header)

      inside : (ends : Bool) (count : ℕ) → (if ends then None else operation_fault forms count words) ≢ Some fault.End
      inside true count = no_more
      inside false count =
          other (is_none (form_of forms words)) fault.Word _ (λ e. cc) (other (not (are_numbers (drop 1 words))) fault.Number _ (λ e. cc)
          (other (not (are_in_range (drop 1 words) (ranges_of (form_of forms words)))) fault.Limit _ (λ e. cc)
          (other (nat_le MOST_OPERATIONS count) fault.Limit _ (λ e. cc) no_more)))

      by : (place : LinePlace) → script_line_fault forms lines place words ≢ Some fault.End
      by BetweenScripts = other (not (is_only (codes "finish") words || is_script_line words)) fault.Word _ (λ e. cc)
          (other (is_script_line words && is_beyond lines (word_at words 1)) fault.Limit _ (λ e. cc) no_more)
      by (WithinScript count) = inside (is_only (codes "end") words) count
