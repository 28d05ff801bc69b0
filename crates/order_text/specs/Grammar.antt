-- The grammar of texts of a limit order book, and their first fault. Both are those of its language, as
-- `script_reader/specs/ListLanguage` has them of any.
use Rattle.std.specs.Prelude.{ℕ, List, [], ◌∷◌}
use Rattle.script_reader.specs.declared.fault.Fault.{Fault}
use Rattle.script_reader.specs.ListLanguage.{IsTextOf, IsFirstFaultIn}
use Rattle.books_report.specs.Stores.Faults.{IsListReason}
use Rattle.order_text.specs.Language.{order_language}
use Rattle.order_text.specs.Input.{BookInput}

-- the bytes are the text of the input, whose callers gave their scripts in some order
abbrev pub SpellsOrders : List ℕ → BookInput → Type 0
SpellsOrders bytes input = IsTextOf order_language bytes (input.blocks ∷ input.instruments ∷ []) input.callers

-- the first fault of a text, by its line, from 1, and its reason
abbrev pub IsOrderFault : List ℕ → ℕ → Fault → Type 0
IsOrderFault = IsFirstFaultIn order_language

-- the reasons that a fault of such a text can have
abbrev pub IsOrderReason : Fault → Type 0
IsOrderReason = IsListReason
