-- The grammar of texts of a record store, and their first fault. Both are those of its language, as
-- `script_reader/specs/ListLanguage` has them of any.
use Rattle.std.specs.Prelude.{ℕ, List, [], ◌∷◌}
use Rattle.script_reader.specs.declared.fault.Fault.{Fault}
use Rattle.script_reader.specs.ListLanguage.{IsTextOf, IsFirstFaultIn}
use Rattle.books_report.specs.Stores.Faults.{IsListReason}
use Rattle.record_text.specs.Language.{record_language}
use Rattle.record_text.specs.Input.{StoreInput}

-- the bytes are the text of the input, whose callers gave their scripts in some order
abbrev pub SpellsRecords : List ℕ → StoreInput → Type 0
SpellsRecords bytes input = IsTextOf record_language bytes (input.blocks ∷ []) input.callers

-- the first fault of a text, by its line, from 1, and its reason
abbrev pub IsRecordFault : List ℕ → ℕ → Fault → Type 0
IsRecordFault = IsFirstFaultIn record_language

-- the reasons that a fault of such a text can have
abbrev pub IsRecordReason : Fault → Type 0
IsRecordReason = IsListReason
