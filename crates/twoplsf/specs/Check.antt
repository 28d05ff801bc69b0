-- What is printed of a text behind an input that is compared with it.
use Rattle.std.specs.Prelude.{ℕ, List, [], ◌∷◌, codes}
use Rattle.script_reader.specs.Text.{line, number}

-- what is printed for a text that is an output
abbrev pub agrees_line : List ℕ
agrees_line = line (codes "agrees" ∷ [])

-- what is printed for one that is none
abbrev pub differs_line : ℕ → List ℕ
differs_line n = line (codes "differs" ∷ codes "line" ∷ number n ∷ [])
