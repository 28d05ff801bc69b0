-- An input of a limit order book: the sizes of the book, which begins empty, and callers with their scripts.
use Rattle.std.specs.Prelude.{ℕ, List}
use Rattle.order_text.specs.declared.script.OrderOp.{OrderOp}
use Rattle.order_text.specs.Ranges.{IsBlockCount, IsInstrumentCount, IsOrderScript}
use Rattle.script_reader.specs.Gathered.{CallerOf, AreCallers}

-- the blocks, the instruments, and the callers in the order in which they were first seen
pub record BookInput : Type 0 where
  pub blocks : ℕ
  pub instruments : ℕ
  pub callers : List (CallerOf (List OrderOp))

-- an input that the grammar can give
pub record IsBookInput (input : BookInput) : Type 0 where
  pub blocks : IsBlockCount input.blocks
  pub instruments : IsInstrumentCount input.instruments
  pub callers : AreCallers (IsOrderScript input.instruments) input.callers
