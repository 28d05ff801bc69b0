-- Lines and their words, as they are cut out of a text.
use Rattle.std.specs.Prelude.{◌≡◌, ℕ, ◌<◌, ◌==◌, false, List, length, slice_index_or, []}
use Rattle.std.specs.List.{AllByRecursion}
use Rattle.script_reader.specs.declared.text.words.TheConstants.{SPACE, LINE_FEED}

-- no byte is this one
abbrev pub IsFreeOf : ℕ → List ℕ → Type 0
IsFreeOf c bytes = AllByRecursion (λ b. (b == c) ≡ false) bytes

-- bytes that can stand as a word
abbrev pub IsWord : List ℕ → Type 0
IsWord word = IsFreeOf SPACE word × IsFreeOf LINE_FEED word

-- words that can stand as a line
pub record AreWords (words : List (List ℕ)) : Type 0 where
  pub some : 0 < length words
  pub each : AllByRecursion IsWord words

-- the word at a place, from 0
abbrev pub word_at : List (List ℕ) → ℕ → List ℕ
word_at words i = slice_index_or words i []
