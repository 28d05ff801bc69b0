-- What the words of the command line ask for.
use Rattle.std.specs.Prelude.{◌≡◌, ℕ, List, Bool, true, false}
use Rattle.books_model.specs.Ranges.{IsWithin}
use Rattle.script_reader.specs.declared.limits.TheConstants.{MOST_WORKERS}
use Rattle.script_reader.specs.Text.{number}
use Rattle.input_maker.specs.Statements.{AreForMake}
use Rattle.txn_cells.specs.declared.limits.TheConstants.{MOST_ROUNDS}
use Rattle.twoplsf.specs.Command.{IsRunCommand, IsRecordsCommand, IsOrdersCommand, IsMakeCommand, IsDrillCommand, IsCellsCommand, IsCheck}
use Rattle.twoplsf.specs.declared.command.Command.{Command}
use Rattle.twoplsf.specs.declared.command.Command.TheVariants.{Run, Check, Records, Orders, Make, Drill, Cells}

-- three words are a seed, callers and scripts for a generated input
pub record ArePlanned (seed_word callers_word scripts_word : List ℕ) (seed callers scripts : ℕ) : Type 0 where
  pub seed_is : seed_word ≡ number seed
  pub callers_is : callers_word ≡ number callers
  pub scripts_is : scripts_word ≡ number scripts
  pub range : AreForMake seed callers scripts

-- the words are those of this command
abbrev pub IsCommand : List (List ℕ) → Command → Type 0
IsCommand words (Run workers) = IsRunCommand words workers
IsCommand words Check = IsCheck words
IsCommand words (Records workers) = IsRecordsCommand words workers
IsCommand words (Orders workers) = IsOrdersCommand words workers
IsCommand words (Make plan) = IsMakeCommand words plan.seed plan.callers plan.scripts
IsCommand words (Drill workers plan) = IsDrillCommand words workers plan.seed plan.callers plan.scripts
IsCommand words (Cells workers rounds) = IsCellsCommand words workers rounds

-- whether the command reads a text
abbrev pub reads_text : Command → Bool
reads_text (Run workers) = true
reads_text Check = true
reads_text (Records workers) = true
reads_text (Orders workers) = true
reads_text _ = false

-- its numbers are in their ranges
abbrev pub IsInRange : Command → Type 0
IsInRange (Run workers) = IsWithin 1 MOST_WORKERS workers
IsInRange Check = Unit {0}
IsInRange (Records workers) = IsWithin 1 MOST_WORKERS workers
IsInRange (Orders workers) = IsWithin 1 MOST_WORKERS workers
IsInRange (Make plan) = AreForMake plan.seed plan.callers plan.scripts
IsInRange (Drill workers plan) = IsWithin 1 MOST_WORKERS workers × AreForMake plan.seed plan.callers plan.scripts
IsInRange (Cells workers rounds) = IsWithin 1 MOST_WORKERS workers × IsWithin 1 MOST_ROUNDS rounds
