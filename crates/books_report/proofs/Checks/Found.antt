-- What is found while a text is checked.
use Rattle.books_report.proofs.Common.{◌≡◌, ℕ, ◌+◌, ◌<◌, List, [], ◌∷◌, ◌++◌, codes, length, replicate, slice_index, refl, sym, ap, ◌∙◌, subst, append-nil}
use Rattle.books_report.proofs.Common.{length-append, arith, concat, ClearingBooks, line, ClearingInput, IsInput, count_scripts, RESTARTS_BELOW, Checked}
use Rattle.books_report.proofs.Common.{Agrees, Differs, Ran, IsOutput, closing_lines, IsFirstWrongLine, HasRun, BeginsWithLine, BeginsWithNone, StopsAfter}
use Rattle.books_report.proofs.Common.{IsFound}
use Rattle.std.proofs.lemmas.List.{get_or-replicate, length-replicate}
use Rattle.books_report.specs.Inner.Audit.{IsFor}
use Rattle.books_report.proofs.Order.Histories.{journal_so_far}
use Rattle.books_report.proofs.Checks.Wrong.{one_wrong, none_of_output, wrong_script, wrong_closing, is_output}
use Rattle.books_report.proofs.Checks.Deciding.{text_more}

-- the lines of so many scripts were read, and the text goes on with what is left
pub record IsRead (input : ClearingInput) (text left : List ℕ) (books : ClearingBooks) (done : List ℕ) (count : ℕ) : Type 0 where
  pub fits : IsFor input books done
  pub scripts : List Ran
  pub has_run : HasRun input scripts books done
  pub count_is : length scripts ≡ count
  pub text_is : text ≡ concat (journal_so_far input scripts) ++ left

-- the first line of an output was read
pub read_none : {input : ClearingInput} {text left : List ℕ} {books : ClearingBooks} {done : List ℕ}
    → text ≡ codes "journal\n" ++ left → books ≡ input.books → done ≡ replicate (length input.callers) 0 → IsRead input text left books done 0
read_none {input} {left} is same zeros = record {
  fits = record { even = ap length zeros ∙ length-replicate (length input.callers) 0; instruments = ap (λ (b : ClearingBooks). b.instruments) same };
  scripts = [];
  has_run = record {
    in_turn = tt;
    books_are = same;
    done_are = λ c within. ap (λ l. slice_index l c) zeros
        ∙ get_or-replicate (length input.callers) c 0 0 within;
  };
  count_is = refl;
  text_is = is ∙ ap (λ l. l ++ left) (sym (append-nil (line (codes "journal" ∷ []))));
}

module _ {input : ClearingInput} {text left : List ℕ} {books : ClearingBooks} {done : List ℕ} {count : ℕ} (r : IsRead input text left books done count) where
  -- one line more was read
  pub read_more : {after : List ℕ} {books' : ClearingBooks} {done' : List ℕ} → IsFor input books' done'
      → BeginsWithLine input r.scripts left after books' done' → IsRead input text after books' done' (count + 1)
  read_more {after} fits b = record {
    fits = fits;
    scripts = r.scripts ++ b.ran ∷ [];
    has_run = b.has_run;
    count_is = omega (arith, length-append r.scripts (b.ran ∷ []), r.count_is);
    text_is = text_more input r.scripts b.ran after r.text_is b.text_is;
  }

  -- no line of a script comes next
  pub no_script : IsInput input → count < count_scripts input.callers → BeginsWithNone input r.scripts left
      → IsFirstWrongLine input RESTARTS_BELOW text (count + 2)
  no_script valid less none =
      subst (λ n. IsFirstWrongLine input RESTARTS_BELOW text (n + 2)) r.count_is
      (wrong_script input RESTARTS_BELOW valid r.scripts left r.has_run.in_turn r.text_is
      (omega (arith, less, r.count_is)) (λ ran after may. none ran after may))

  -- the closing books come next, and the last line
  pub all_right : IsInput input → count ≡ count_scripts input.callers → left ≡ concat (closing_lines books) → IsOutput input RESTARTS_BELOW text
  all_right valid all is = is_output input RESTARTS_BELOW valid r.scripts left r.has_run.in_turn r.text_is
      (r.count_is ∙ all) (is ∙ ap (λ b. concat (closing_lines b)) r.has_run.books_are)

  -- some of these lines come next
  pub stops_there : IsInput input → count ≡ count_scripts input.callers → {lines : ℕ}
      → StopsAfter (closing_lines books) left lines → IsFirstWrongLine input RESTARTS_BELOW text (count + lines + 2)
  stops_there valid all {lines} s =
      subst (λ n. IsFirstWrongLine input RESTARTS_BELOW text (n + lines + 2)) r.count_is
      (wrong_closing RESTARTS_BELOW valid r.scripts left r.has_run.in_turn r.text_is (r.count_is
      ∙ all) (subst (λ b. StopsAfter (closing_lines b) left lines) r.has_run.books_are s))

-- what is found is all that can be
pub agrees_found : {input : ClearingInput} {text : List ℕ} (checked : Checked) → IsInput input
    → IsFound input text checked → IsOutput input RESTARTS_BELOW text → checked ≡ Agrees
agrees_found Agrees valid found output = refl
agrees_found {input} {text} (Differs number) valid found output = absurd (none_of_output input RESTARTS_BELOW valid text number output found)

pub differs_found : {input : ClearingInput} {text : List ℕ} (checked : Checked) {number : ℕ} → IsInput input
    → IsFound input text checked → IsFirstWrongLine input RESTARTS_BELOW text number → checked ≡ Differs number
differs_found {input} {text} Agrees {number} valid found wrong = absurd (none_of_output input RESTARTS_BELOW valid text number found wrong)
differs_found {input} {text} (Differs other) {number} valid found wrong = ap Differs (one_wrong input RESTARTS_BELOW valid text other number found wrong)
