-- Where the words of a line end.
use Rattle.std.specs.Prelude.{◌≡◌, ℕ, suc, zero, ◌<◌, ◌≤◌, ◌==◌, cond, List, [], ◌∷◌, count_by, slice_index}
use Rattle.script_reader.specs.declared.text.words.TheConstants.{SPACE, MOST_WORDS}

-- where the word at a place ends: at the space behind it, or with the line
abbrev pub word_end : List ℕ → ℕ → ℕ
word_end [] k = 0
word_end (b ∷ line) zero = cond (b == SPACE) 0 (suc (word_end line zero))
word_end (b ∷ line) (suc k) = suc (word_end line (cond (b == SPACE) k (suc k)))

-- how many spaces a line has, and where the first of its words end
pub record IsCut (line : List ℕ) (spaces : ℕ) (ends : List ℕ) : Type 0 where
  pub counted : spaces ≡ count_by (λ b. b == SPACE) line
  pub each : (k : ℕ) → k ≤ spaces → k < MOST_WORDS → slice_index ends k ≡ word_end line k
