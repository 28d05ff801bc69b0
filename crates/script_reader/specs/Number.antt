-- Words that are numbers, however long they are.
use Rattle.std.specs.Prelude.{◌≡◌, ℕ, Bool, true, not, ◌&&◌, ◌||◌, ◌==◌, nat_le, List, length, slice_index}
use Rattle.std.specs.Str.{all_ascii_digits}

-- whether a word is decimal digits with no zero in front
abbrev pub is_number : List ℕ → Bool
is_number word = nat_le 1 (length word) && (not (slice_index word 0 == 48) || length word == 1) && all_ascii_digits word

abbrev pub IsNumber : List ℕ → Type 0
IsNumber word = is_number word ≡ true
