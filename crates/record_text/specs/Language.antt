-- The texts of a record store: `records 1 blocks B`, and the operations `put`, `drop`, `get` and `from`.
use Rattle.std.specs.Prelude.{◌≡◌, ℕ, List, [], ◌∷◌, codes, true, false, if◌then◌else◌, slice_index_or, refl}
use Rattle.std.specs.Str.{bytes_eq}
use Rattle.std.proofs.Common.{lit<}
use Rattle.record_text.specs.declared.limits.TheConstants.{LEAST_BLOCKS, MOST_BLOCKS, GREATEST_ID, GREATEST_RANK, GREATEST_DATA, MOST_LISTED}
use Rattle.record_text.specs.declared.script.RecordOp.{RecordOp}
use Rattle.record_text.specs.declared.script.RecordOp.TheVariants as op
use Rattle.script_reader.specs.Forms.{Form, form}
use Rattle.script_reader.specs.ListLanguage.{ListLanguage, IsListLanguage, size, is_word}
use Rattle.script_reader.proofs.language.Listed.Numbers.{one_number, two_numbers, three_numbers}

-- the kinds of operation, with the ranges of their numbers
abbrev pub record_forms : List Form
record_forms =
    form (codes "put") ((1, GREATEST_ID) ∷ (1, GREATEST_RANK) ∷ (0, GREATEST_DATA) ∷ [])
    ∷ form (codes "drop") ((1, GREATEST_ID) ∷ [])
    ∷ form (codes "get") ((1, GREATEST_ID) ∷ [])
    ∷ form (codes "from") ((1, GREATEST_RANK) ∷ (1, MOST_LISTED) ∷ [])
    ∷ []

-- the first word of an operation's line
abbrev pub keyword_of : RecordOp → List ℕ
keyword_of (op.Put id rank content) = codes "put"
keyword_of (op.Remove id) = codes "drop"
keyword_of (op.Find id) = codes "get"
keyword_of (op.Ranked rank most) = codes "from"

-- the numbers behind it
abbrev pub numbers_of : RecordOp → List ℕ
numbers_of (op.Put id rank content) = id ∷ rank ∷ content ∷ []
numbers_of (op.Remove id) = id ∷ []
numbers_of (op.Find id) = id ∷ []
numbers_of (op.Ranked rank most) = rank ∷ most ∷ []

-- the number at a place
abbrev pub number_at : List ℕ → ℕ → ℕ
number_at numbers i = slice_index_or numbers i 0

-- the operation of a first word and of the numbers behind it
abbrev pub operation_of : List ℕ → List ℕ → RecordOp
operation_of keyword numbers =
    if bytes_eq keyword (codes "put") then op.Put (number_at numbers 0) (number_at numbers 1) (number_at numbers 2)
    else (if bytes_eq keyword (codes "drop") then op.Remove (number_at numbers 0)
    else (if bytes_eq keyword (codes "get") then op.Find (number_at numbers 0)
    else op.Ranked (number_at numbers 0) (number_at numbers 1)))

-- the language
abbrev pub record_language : ListLanguage RecordOp (List RecordOp)
record_language = record {
  title = codes "records";
  sizes = size (codes "blocks") (LEAST_BLOCKS, MOST_BLOCKS) ∷ [];
  forms = λ sizes. record_forms;
  keyword = keyword_of;
  numbers = numbers_of;
  operation = operation_of;
  operations = λ script. script;
}

-- its words are words, an operation is told by its line, and each line of a form is that of an operation
pub record_language_lawful : IsListLanguage record_language
record_language_lawful = record {
  title = refl;
  names = refl;
  keywords = words;
  no_script = scripts;
  no_end = ends;
  no_finish = finishes;
  one_operation = one;
  one_script = λ s t e. e;
  size_bits = (lit< tt, tt);
  every_form = λ sizes sized. (
    record { bits = (lit< tt, (lit< tt, (lit< tt, tt))); keyword = λ ns h. refl; numbers = three_numbers _ _ _ },
    (
      record { bits = (lit< tt, tt); keyword = λ ns h. refl; numbers = one_number _ },
      (
        record { bits = (lit< tt, tt); keyword = λ ns h. refl; numbers = one_number _ },
        (record { bits = (lit< tt, (lit< tt, tt)); keyword = λ ns h. refl; numbers = two_numbers _ _ }, tt),
      ),
    ),
  );
  every_script = λ ops. (ops, refl);
}
  where
    words : (o : RecordOp) → is_word (keyword_of o) ≡ true
    words (op.Put id rank content) = refl
    words (op.Remove id) = refl
    words (op.Find id) = refl
    words (op.Ranked rank most) = refl

    scripts : (o : RecordOp) → bytes_eq (keyword_of o) (codes "script") ≡ false
    scripts (op.Put id rank content) = refl
    scripts (op.Remove id) = refl
    scripts (op.Find id) = refl
    scripts (op.Ranked rank most) = refl

    ends : (o : RecordOp) → bytes_eq (keyword_of o) (codes "end") ≡ false
    ends (op.Put id rank content) = refl
    ends (op.Remove id) = refl
    ends (op.Find id) = refl
    ends (op.Ranked rank most) = refl

    finishes : (o : RecordOp) → bytes_eq (keyword_of o) (codes "finish") ≡ false
    finishes (op.Put id rank content) = refl
    finishes (op.Remove id) = refl
    finishes (op.Find id) = refl
    finishes (op.Ranked rank most) = refl

    one : (o : RecordOp) → operation_of (keyword_of o) (numbers_of o) ≡ o
    one (op.Put id rank content) = refl
    one (op.Remove id) = refl
    one (op.Find id) = refl
    one (op.Ranked rank most) = refl
