-- The memory with all unfinished writes taken back.
use Rattle.std.specs.Prelude.{ℕ, List, [], ◌∷◌, drop}
use Rattle.history_model.specs.declared.view.View.{View}
use Rattle.history_model.specs.Table.{value_word}
use Rattle.history_model.specs.Undoing.{written_back}

-- the memory's words, as they stand in the table
abbrev pub memory_of : ℕ → List ℕ → List ℕ
memory_of n words = drop (value_word n 0) words

-- the words after every view's undo log is written back, newest first
unfoldable pub undone_by : List View → List ℕ → List ℕ
undone_by [] words = words
undone_by (v ∷ views) words = undone_by views (written_back v.undo words)
