use Rattle.books_report.proofs.Common.{◌≡◌, ◌≢◌, ◌++◌, List, [], ℕ, sym, ap, ◌∙◌, subst, arith, concat, Decides-eqb, IfOk-from_err, ClearingBooks, Two}
use Rattle.books_report.proofs.Common.{books_lines, finish_line, closing_lines, StopsAfter, in_common}
use Rattle.std.proofs.lemmas.Bool.Decides.{not_from_Decides}
use Rattle.std.proofs.lemmas.Slice.Eq.{slice_eq-Decides}
use Rattle.books_report.proofs.Outputs.Rows.{closing_rows, closing_text}
use Rattle.books_report.proofs.Checks.InCommon.{feeds, stops_in_common, stops_within, few_closing}
use Rattle.books_report.proofs.check.check_closing.Goals as goal

-- what was written are the closing lines
written : (b : ClearingBooks) {none books all expected : List ℕ} → expected ≡ all → all ≡ books ++ finish_line
    → books ≡ none ++ books_lines Two b → none ≡ [] → expected ≡ concat (closing_lines b)
written b e f g h = e ∙ f ∙ ap (λ l. l ++ finish_line) (g ∙ ap (λ l. l ++ books_lines Two b) h) ∙ sym (closing_text b)

-- a text that is another stops among them
stops : (b : ClearingBooks) {expected : List ℕ} (text : List ℕ) {count : ℕ} → expected ≡ concat (closing_lines b) → text ≢ expected
    → count ≡ feeds (in_common expected text) → StopsAfter (closing_lines b) text count
stops b text is differs counted =
    subst (StopsAfter (closing_lines b) text) (sym (counted ∙ ap (λ l. feeds (in_common l text)) is))
    (stops_in_common (closing_lines b) text (closing_rows b) (λ same. differs (same ∙ sym is)))

pub returns-in_err-write_books : goal.returns-in_err-write_books
returns-in_err-write_books c = let failed = c.from_residual.ensures.0 in search IfOk-from_err

pub returns-in_err-push_str : goal.returns-in_err-push_str
returns-in_err-push_str c = let failed = c.from_residual-in_err-push_str.ensures.0 in search IfOk-from_err

pub returns-then-eq : goal.returns-then-eq
returns-then-eq c = record {
  same = (slice_eq-Decides Decides-eqb c.args.text.now c.as_bytes-expected.result.now c.eq.result c.eq.ensures).0 c.if-eq.true
      ∙ written c.args.books.now c.as_bytes-expected.ensures.value c.in_ok-push_str.ensures.bytes
      c.in_ok-write_books.ensures c.new-expected.ensures.bytes;
  stops = tt;
  few = tt;
}

pub overflow_cast-result : goal.overflow_cast-result
overflow_cast-result c =
    let s = stops c.args.books.now c.args.text.now
    (written c.args.books.now c.as_bytes-expected.ensures.value c.in_ok-push_str.ensures.bytes c.in_ok-write_books.ensures c.new-expected.ensures.bytes)
    (not_from_Decides c.eq.result (slice_eq-Decides Decides-eqb c.args.text.now c.as_bytes-expected.result.now
    c.eq.result c.eq.ensures) c.if-eq.false) c.lines_in_common.ensures in
    omega (arith, stops_within s, few_closing c.ranges-2.ensures)

pub returns : goal.returns
returns c =
    let s = stops c.args.books.now c.args.text.now
    (written c.args.books.now c.as_bytes-expected.ensures.value c.in_ok-push_str.ensures.bytes c.in_ok-write_books.ensures c.new-expected.ensures.bytes)
    (not_from_Decides c.eq.result (slice_eq-Decides Decides-eqb c.args.text.now c.as_bytes-expected.result.now
    c.eq.result c.eq.ensures) c.if-eq.false) c.lines_in_common.ensures in
    record {
      same = tt;
      stops = s;
      few = omega (
        arith,
        stops_within s,
        few_closing c.ranges-2.ensures,
      );
    }
