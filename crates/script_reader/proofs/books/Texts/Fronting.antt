-- The front of a text: its input, or its fault and the number of the faulty line.
use Rattle.script_reader.proofs.Common.{◌≡◌, ℕ, ◌-◌, List, [], ◌∷◌, ◌++◌, take, length, refl, sym, ap, ◌∙◌, append_assoc, length-append, arith, flat_map}
use Rattle.script_reader.proofs.Common.{ClearingBooks, AreInRange, IsScriptOf, Fault, line, books_lines, scripts_line, finish_line, books_words, lines_so_far}
use Rattle.script_reader.proofs.Common.{Caller, submission_lines, input_text, HasFront, AreBooksWithin, IsFaultyBehind, Version}
use Rattle.script_reader.specs.Inner.Scripts.{IsReadOf}
use Rattle.script_reader.proofs.Joined.{joined}
use Rattle.script_reader.proofs.books.Versions.{callers_for, callers_within}
use Rattle.script_reader.proofs.books.Texts.OneReading.{text_of_books}
use Rattle.script_reader.proofs.books.WithoutFault.ScriptsFaultless.{input_faultless}
use Rattle.script_reader.proofs.language.Grouped.Outside.{no_callers}
use Rattle.script_reader.proofs.Judging.{behind_more}

-- a fault behind books that were read
pub behind_books : {version : Version} {b : ClearingBooks} (range : AreInRange b) → AreBooksWithin version b → {start left after : List ℕ} {why : Fault}
    → start ≡ flat_map line (books_words version b) ++ (scripts_line ++ left) → IsFaultyBehind (lines_so_far version b []) left after why
    → IsFaultyBehind [] start after why
behind_books {version} {b} range within {left} text h =
    behind_more {left = left} (lines_so_far version b []) (input_faultless version range within [] (no_callers (IsScriptOf version b)))
    (text ∙ simp joined) h

-- the front of books and scripts that were read
pub front_of : {version : Version} {b : ClearingBooks} {callers : List Caller} {start middle after : List ℕ} → AreInRange b → AreBooksWithin version b
    → start ≡ flat_map line (books_words version b) ++ (scripts_line ++ middle) → IsReadOf version b callers middle after
    → HasFront (record { books = b; callers = callers }) start after
front_of {version} {b} {callers} {after} range within text rest =
    let S : List ℕ = flat_map submission_lines rest.submissions in
    record {
      front = input_text version b rest.submissions;
      text = text ∙ (λ i. text_of_books version b i ++ (scripts_line ++ rest.text i))
          ∙ sym (append_assoc (books_lines version b) scripts_line (S ++ (finish_line ++ after)))
          ∙ sym (append_assoc (books_lines version b ++ scripts_line) S (finish_line ++ after))
          ∙ sym (append_assoc (books_lines version b ++ scripts_line ++ S) finish_line after);
      spelled = record {
        version = version;
        submissions = rest.submissions;
        text = refl;
        callers = rest.made;
        valid = record { books = range; callers = callers_for version b callers rest.valid };
        within = record { books = within; scripts = callers_within version b callers rest.valid };
      };
    }

-- what stands in front of a rest
pub take_front : {start front : List ℕ} (after : List ℕ) (end : ℕ) → start ≡ front ++ after → end ≡ length start - length after → take end start ≡ front
take_front {front} after end e is =
    let long : end ≡ length front = omega (arith, is, ap length e, length-append front after) in
    (λ i. take (long i) (e i)) ∙ take_all front after
  where
    take_all : (front after : List ℕ) → take (length front) (front ++ after) ≡ front
    take_all [] after = refl
    take_all (x ∷ front) after = ap (λ l. x ∷ l) (take_all front after)
