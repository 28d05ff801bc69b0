-- A language of two operations: `add A X` and `show A`, in texts that begin with `steps 1 most M`.
use Rattle.std.specs.Prelude.{◌≡◌, ℕ, ◌<◌, ◌^◌, List, [], ◌∷◌, codes, true, false, if◌then◌else◌, slice_index_or, refl}
use Rattle.std.specs.List.{AllByRecursion}
use Rattle.std.specs.Str.{bytes_eq}
use Rattle.std.proofs.Common.{lit<}
use Rattle.texts_tests.specs.declared.steps.TheConstants.{GREATEST_ACCOUNT, GREATEST_MOST}
use Rattle.texts_tests.specs.declared.steps.Step.{Step}
use Rattle.texts_tests.specs.declared.steps.Step.TheVariants as step
use Rattle.script_reader.specs.Forms.{Form, form}
use Rattle.script_reader.specs.ListLanguage.{ListLanguage, AreSizes, IsFormOfOperations, IsListLanguage, size, is_word}
use Rattle.script_reader.proofs.language.Listed.Numbers.{one_number, two_numbers}

-- the kinds of operation, in a text with this most
abbrev pub step_forms : List ℕ → List Form
step_forms sizes =
    form (codes "add") ((1, GREATEST_ACCOUNT) ∷ (1, slice_index_or sizes 0 0) ∷ [])
    ∷ form (codes "show") ((1, GREATEST_ACCOUNT) ∷ []) ∷ []

abbrev pub step_keyword : Step → List ℕ
step_keyword (step.Add a x) = codes "add"
step_keyword (step.Show a) = codes "show"

abbrev pub step_numbers : Step → List ℕ
step_numbers (step.Add a x) = a ∷ x ∷ []
step_numbers (step.Show a) = a ∷ []

-- the operation of a first word and of the numbers behind it
abbrev pub read_step : List ℕ → List ℕ → Step
read_step keyword numbers =
    if bytes_eq keyword (codes "add") then step.Add (slice_index_or numbers 0 0) (slice_index_or numbers 1 0)
    else step.Show (slice_index_or numbers 0 0)

abbrev pub steps : ListLanguage Step (List Step)
steps = record {
  title = codes "steps";
  sizes = size (codes "most") (1, GREATEST_MOST) ∷ [];
  forms = step_forms;
  keyword = step_keyword;
  numbers = step_numbers;
  operation = read_step;
  operations = λ s. s;
}

-- its words are words, an operation is told by its line, and each line of a form is that of an operation
pub steps_lawful : IsListLanguage steps
steps_lawful = record {
  title = refl;
  names = refl;
  keywords = words;
  no_script = scripts;
  no_end = ends;
  no_finish = finishes;
  one_operation = one;
  one_script = λ s t e. e;
  size_bits = (lit< tt, tt);
  every_form = forms;
  every_script = λ ops. (ops, refl);
}
  where
    words : (o : Step) → is_word (step_keyword o) ≡ true
    words (step.Add a x) = refl
    words (step.Show a) = refl

    scripts : (o : Step) → bytes_eq (step_keyword o) (codes "script") ≡ false
    scripts (step.Add a x) = refl
    scripts (step.Show a) = refl

    ends : (o : Step) → bytes_eq (step_keyword o) (codes "end") ≡ false
    ends (step.Add a x) = refl
    ends (step.Show a) = refl

    finishes : (o : Step) → bytes_eq (step_keyword o) (codes "finish") ≡ false
    finishes (step.Add a x) = refl
    finishes (step.Show a) = refl

    one : (o : Step) → read_step (step_keyword o) (step_numbers o) ≡ o
    one (step.Add a x) = refl
    one (step.Show a) = refl

    most : (sizes : List ℕ) → AreSizes steps sizes → slice_index_or sizes 0 0 < 2 ^ 64
    most [] h = absurd h
    most (m ∷ sizes) h = h.2

    forms : (sizes : List ℕ) → AreSizes steps sizes → AllByRecursion (IsFormOfOperations steps) (step_forms sizes)
    forms sizes h = (
      record { bits = (lit< tt, (most sizes h, tt)); keyword = λ ns k. refl; numbers = two_numbers _ _ },
      (record { bits = (lit< tt, tt); keyword = λ ns k. refl; numbers = one_number _ }, tt),
    )
