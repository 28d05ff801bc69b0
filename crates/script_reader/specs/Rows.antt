-- The numbers of a line, and what is wrong with a line of one of some forms.
use Rattle.std.specs.Prelude.{◌≡◌, ℕ, true, not, List, [], ◌∷◌, Option, drop}
use Rattle.std.specs.Option.{is_none}
use Rattle.script_reader.specs.declared.fault.Fault.{Fault}
use Rattle.script_reader.specs.declared.fault.Fault.TheVariants as fault
use Rattle.script_reader.specs.Forms.{Words, Form, form_of, ranges_of, are_numbers, are_in_range}
use Rattle.script_reader.specs.Faults.{first_reason}

-- each word behind the first is a number in its range
pub record HasNumbers (words : Words) (ranges : List (ℕ × ℕ)) : Type 0 where
  pub numbers : are_numbers (drop 1 words) ≡ true
  pub in_range : are_in_range (drop 1 words) ranges ≡ true

-- what is wrong with the words behind the first
abbrev pub numbers_fault : Words → List (ℕ × ℕ) → Option Fault
numbers_fault words ranges = first_reason (
    (not (are_numbers (drop 1 words)), fault.Number)
    ∷ (not (are_in_range (drop 1 words) ranges), fault.Limit)
    ∷ []
    )

-- what is wrong with a line of one of some forms
abbrev pub row_fault : List Form → Words → Option Fault
row_fault forms words =
    let form = form_of forms words in
    first_reason (
    (is_none form, fault.Word)
    ∷ (not (are_numbers (drop 1 words)), fault.Number)
    ∷ (not (are_in_range (drop 1 words) (ranges_of form)), fault.Limit)
    ∷ []
    )
