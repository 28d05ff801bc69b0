-- The lines that two texts have in common.
use Rattle.books_report.proofs.Common.{◌≡◌, ◌≢◌, ◌⊎◌, inl, inr, ℕ, ◌+◌, ◌≤◌, ◌==◌, cond, if◌then◌else◌, List, [], ◌∷◌, ◌++◌, length, map, count_by, refl, sym}
use Rattle.books_report.proofs.Common.{ap, ◌∙◌, subst, length-append, arith, AllByRecursion, concat, join_with_byte, eq-eqb, eqb_tells, length-map}
use Rattle.books_report.proofs.Common.{sum_by-append, sum_by-cons, ClearingBooks, AreInRange, SPACE, LINE_FEED, IsFreeOf, account_line, price_line}
use Rattle.books_report.proofs.Common.{position_line, call_line, finish_line, closing_lines, StopsAfter, in_common}
use Rattle.script_reader.proofs.text.Tokens.Cutting.{join-free}
use Rattle.script_reader.proofs.Judging.{count_line}
use Rattle.script_reader.proofs.books.Texts.Counting.{few_entries}
use Rattle.books_report.specs.declared.limits.TheConstants.{MOST_CLOSING_LINES}
use Rattle.books_report.proofs.Outputs.Rows.{IsRow}
use Rattle.books_report.proofs.Checks.Deciding.{begins_or_not, stops_here, stops_later}

-- how many lines end in bytes
abbrev pub feeds : List ℕ → ℕ
feeds bytes = count_by (λ b. b == LINE_FEED) bytes

-- one byte more in common
pub common_more : {b : ℕ} (c : ℕ) (wanted text : List ℕ) → b ≡ c → in_common (b ∷ wanted) (c ∷ text) ≡ b ∷ in_common wanted text
common_more {b} c wanted text same = ap (λ t. if t then b ∷ in_common wanted text else []) (eq-eqb b c same)

-- and none
pub common_none : (b c : ℕ) (wanted text : List ℕ) → b ≢ c → in_common (b ∷ wanted) (c ∷ text) ≡ []
common_none b c wanted text apart = elim (eqb_tells b c) [
  | inl same ↦ absurd (apart same.1)
  | inr differ ↦
      ap (λ t. if t then b ∷ in_common wanted text else []) differ.0
]

-- a front in common
common_front : (front wanted text : List ℕ) → in_common (front ++ wanted) (front ++ text) ≡ front ++ in_common wanted text
common_front [] wanted text = refl
common_front (b ∷ front) wanted text = common_more b (front ++ wanted) (front ++ text) refl ∙ ap (λ l. b ∷ l) (common_front front wanted text)

-- a text that does not begin with a line has no line in common with what begins with it
no_line_in_common : (body wanted text : List ℕ) → IsFreeOf LINE_FEED body
    → ((left : List ℕ) → text ≢ (body ++ LINE_FEED ∷ []) ++ left) → feeds (in_common ((body ++ LINE_FEED ∷ []) ++ wanted) text) ≡ 0
no_line_in_common [] wanted [] free none = refl
no_line_in_common [] wanted (c ∷ text) free none = ap feeds (common_none LINE_FEED c wanted text (λ same. none text (λ i. sym same i ∷ text)))
no_line_in_common (b ∷ body) wanted [] free none = refl
no_line_in_common (b ∷ body) wanted (c ∷ text) free none = elim (eqb_tells b c) [
  | inl same ↦ ap feeds (common_more c ((body ++ LINE_FEED ∷ []) ++ wanted) text same.1)
      ∙ sum_by-cons (λ x. cond (x == LINE_FEED) 1 0) b (in_common ((body ++ LINE_FEED ∷ []) ++ wanted) text)
      ∙ omega (arith, ap {B = ℕ} (λ t. cond t 1 0) free.0, no_line_in_common body wanted text free.1 (λ left e. none left (λ i. sym same.1 i ∷ e i)))
  | inr differ ↦ ap feeds (common_none b c ((body ++ LINE_FEED ∷ []) ++ wanted) text differ.1)
]

no_row_in_common : {row : List ℕ} (wanted text : List ℕ) → IsRow row → ((left : List ℕ) → text ≢ row ++ left) → feeds (in_common (row ++ wanted) text) ≡ 0
no_row_in_common wanted text (words, are, is) none =
    ap (λ r. feeds (in_common (r ++ wanted) text)) is
    ∙ no_line_in_common (join_with_byte SPACE words) wanted text (join-free words are.each) (λ left e. none left (e ∙ ap (λ r. r ++ left) (sym is)))

-- a row more in common
row_in_common : {row : List ℕ} (wanted left : List ℕ) → IsRow row → feeds (in_common (row ++ wanted) (row ++ left)) ≡ feeds (in_common wanted left) + 1
row_in_common {row} wanted left (words, are, is) =
    ap feeds (common_front row wanted left) ∙ sum_by-append (λ x. cond (x == LINE_FEED) 1 0) row (in_common wanted left)
    ∙ omega (arith, ap feeds is, count_line words are)

-- a text that is not some lines stops after the lines in common
pub stops_in_common : (lines : List (List ℕ)) (text : List ℕ) → AllByRecursion IsRow lines → text ≢ concat lines
    → StopsAfter lines text (feeds (in_common (concat lines) text))
stops_in_common [] text rows differs = stops_here differs
stops_in_common (row ∷ lines) text rows differs = by (begins_or_not row text) (stops_in_common lines)
  where
    by : ((left : List ℕ) × (text ≡ row ++ left)) ⊎ ((left : List ℕ) → text ≢ row ++ left)
        → ((left : List ℕ) → AllByRecursion IsRow lines → left ≢ concat lines → StopsAfter lines left (feeds (in_common (concat lines) left)))
        → StopsAfter (row ∷ lines) text (feeds (in_common (row ++ concat lines) text))
    by (inl (left, is)) more =
        subst (StopsAfter (row ∷ lines) text) (sym (ap (λ t. feeds (in_common (row ++ concat lines) t)) is ∙ row_in_common (concat lines) left rows.0))
        (stops_later is (more left rows.1 (λ same. differs (is ∙ ap (λ l. row ++ l) same))))
    by (inr none) more = subst (StopsAfter (row ∷ lines) text) (sym (no_row_in_common (concat lines) text rows.0 none)) (stops_here none)

-- it stops before their end
pub stops_within : {lines : List (List ℕ)} {text : List ℕ} {count : ℕ} → StopsAfter lines text count → count ≤ length lines
stops_within s = omega (arith, s.count_is, ap length s.lines_are, length-append s.done s.rest)

-- closing books have few lines
pub few_closing : {b : ClearingBooks} → AreInRange b → length (closing_lines b) ≤ MOST_CLOSING_LINES
few_closing {b} range = omega (
  arith,
  few_entries b range account_line price_line position_line (map call_line b.calls ++ finish_line ∷ []),
  length-append (map call_line b.calls) (finish_line ∷ []),
  length-map b.calls call_line,
  range.queue,
  range.ring.1,
)
