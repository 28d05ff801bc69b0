-- The list of what a call used.
use Rattle.std.specs.Prelude.{List}
use Rattle.history_model.specs.declared.item.LockUse.{LockUse}
use Rattle.history_model.specs.Legal.{IsIn}
use Rattle.word_table.specs.Uses.{AreRising}

-- the list has these uses, by rising lock
pub record ListsUses (uses listed : List LockUse) : Type 0 where
  pub rising : AreRising listed
  pub only : (u : LockUse) → IsIn u listed → IsIn u uses
  pub all : (u : LockUse) → IsIn u uses → IsIn u listed
