-- Marks in a trace: how many writes it has, and what going back to one leaves.
use Rattle.std.specs.Prelude.{◌≡◌, ℕ, ◌+◌, ◌<◌, List, [], ◌∷◌, ◌++◌, length, drop}
use Rattle.history_model.specs.declared.event.Event.TheVariants.{Read, Write}
use Rattle.history_model.specs.Traces.{Trace, after, IsLegalTrace, Writes}
use Rattle.history_model.specs.Undoing.{written_back, notes_of}

-- how many of the events are writes
unfoldable pub count_writes : Trace → ℕ
count_writes [] = 0
count_writes (Read a v ∷ trace) = count_writes trace
count_writes (Write a v ∷ trace) = 1 + count_writes trace

-- the notes of a front and then those of the rest are the notes of the whole
abbrev pub NotesByParts : Type 0
NotesByParts =
    (front rest : Trace) (words : List ℕ)
    → notes_of (front ++ rest) words ≡ notes_of front words ++ notes_of rest (after front words)

-- there are as many notes as writes
abbrev pub NotesCounted : Type 0
NotesCounted = (trace : Trace) (words : List ℕ) → length (notes_of trace words) ≡ count_writes trace

-- all notes but those of a front, written back newest first, leave what the front leaves
abbrev pub RestUndone : Type 0
RestUndone =
    (front rest : Trace) (words : List ℕ)
    → written_back (drop (count_writes front) (notes_of (front ++ rest) words)) (after (front ++ rest) words)
    ≡ after front words

-- a read of a word and a write of it make one note more, of what was read
abbrev pub OneNoteMore : Type 0
OneNoteMore =
    (trace : Trace) (words : List ℕ) (a was v : ℕ)
    → IsLegalTrace (trace ++ Read a was ∷ Write a v ∷ []) words
    → notes_of (trace ++ Read a was ∷ Write a v ∷ []) words ≡ notes_of trace words ++ (a, was) ∷ []

-- a word that a trace wrote is read as the same on every list on which the trace is legal
abbrev pub WrittenReadsTheSame : Type 0
WrittenReadsTheSame =
    (trace : Trace) (a v : ℕ) (words others : List ℕ)
    → IsLegalTrace (trace ++ Read a v ∷ []) words → length words ≡ length others → Writes trace a → a < length others
    → IsLegalTrace trace others → IsLegalTrace (trace ++ Read a v ∷ []) others
