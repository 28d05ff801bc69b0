-- How inputs are stored.
use Rattle.std.specs.Prelude.{ℕ, List, refl}
use Rattle.std.specs.Coded.{Coded, code_by, coded×, coded_ℕ, coded_list}
use Rattle.books_model.specs.declared.script.Part.{Part}
use Rattle.books_model.specs.contracts.script.Part as part
use Rattle.books_model.specs.Books.{ClearingBooks}
use Rattle.books_model.specs.Inner.Codes.{books_code}
use Rattle.script_reader.specs.Input.{Caller, ClearingInput, Submission}
use Rattle.script_reader.specs.Codes.{callers_code}

-- an input is stored as its books and its callers
abbrev pub input_code : Coded ClearingInput
input_code = code_by (ClearingBooks × List Caller) (coded× books_code (callers_code part.the_row.coded))
    (λ i. (i.books, i.callers)) (λ p. record { books = p.0; callers = p.1 }) (λ _. refl)

-- a script as it stands in a text is stored as the pair of its caller's name and its parts
abbrev pub submission_code : Coded Submission
submission_code = code_by (List ℕ × List Part) (coded× (coded_list coded_ℕ) (coded_list part.the_row.coded)) (λ s. (s.caller, s.script))
    (λ p. record { caller = p.0; script = p.1 }) (λ _. refl)
