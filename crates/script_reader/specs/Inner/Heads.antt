-- Lines that have the words of a header around its sizes, by their places.
use Rattle.std.specs.Prelude.{ℕ, Bool, ◌&&◌, ◌==◌, List, codes, length}
use Rattle.std.specs.Str.{bytes_eq}
use Rattle.script_reader.specs.Lines.{word_at}
use Rattle.script_reader.specs.Forms.{Words}

abbrev pub has_one_size : List ℕ → List ℕ → Words → Bool
has_one_size title name words =
    length words == 4 && bytes_eq (word_at words 0) title && bytes_eq (word_at words 1) (codes "1")
    && bytes_eq (word_at words 2) name

abbrev pub has_two_sizes : List ℕ → List ℕ → List ℕ → Words → Bool
has_two_sizes title name other words =
    length words == 6 && bytes_eq (word_at words 0) title && bytes_eq (word_at words 1) (codes "1")
    && bytes_eq (word_at words 2) name && bytes_eq (word_at words 4) other
