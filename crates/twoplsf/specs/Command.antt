-- The words of the command line.
use Rattle.std.specs.Prelude.{◌≡◌, ◌⊎◌, ℕ, List, [], ◌∷◌, codes, map}
use Rattle.std.specs.declared.string.String.{String}
use Rattle.std.specs.String.{string_bytes}
use Rattle.books_model.specs.Ranges.{IsWithin}
use Rattle.script_reader.specs.declared.limits.TheConstants.{MOST_WORKERS}
use Rattle.script_reader.specs.Text.{number}
use Rattle.input_maker.specs.Statements.{AreForMake}
use Rattle.txn_cells.specs.declared.limits.TheConstants.{MOST_ROUNDS}

-- the texts of words, which are what a command is told by
abbrev pub texts_of : {Z : Type 0} → List (String Z) → List (List ℕ)
texts_of words = map string_bytes words

-- `run W`, with a number of workers
pub record IsRunCommand (words : List (List ℕ)) (workers : ℕ) : Type 0 where
  pub words_are : words ≡ codes "run" ∷ number workers ∷ []
  pub range : IsWithin 1 MOST_WORKERS workers

-- `make SEED CALLERS SCRIPTS`
pub record IsMakeCommand (words : List (List ℕ)) (seed callers scripts : ℕ) : Type 0 where
  pub words_are : words ≡ codes "make" ∷ number seed ∷ number callers ∷ number scripts ∷ []
  pub range : AreForMake seed callers scripts

-- `drill W SEED CALLERS SCRIPTS`
pub record IsDrillCommand (words : List (List ℕ)) (workers seed callers scripts : ℕ) : Type 0 where
  pub words_are : words ≡ codes "drill" ∷ number workers ∷ number seed ∷ number callers ∷ number scripts ∷ []
  pub workers_range : IsWithin 1 MOST_WORKERS workers
  pub range : AreForMake seed callers scripts

-- `cells W ROUNDS`
pub record IsCellsCommand (words : List (List ℕ)) (workers rounds : ℕ) : Type 0 where
  pub words_are : words ≡ codes "cells" ∷ number workers ∷ number rounds ∷ []
  pub workers_range : IsWithin 1 MOST_WORKERS workers
  pub rounds_range : IsWithin 1 MOST_ROUNDS rounds

-- the words are a command's and a number of workers
pub record HasWorkersBehind (words : List (List ℕ)) (command : List ℕ) (workers : ℕ) : Type 0 where
  pub words_are : words ≡ command ∷ number workers ∷ []
  pub range : IsWithin 1 MOST_WORKERS workers

-- `records W`
abbrev pub IsRecordsCommand : List (List ℕ) → ℕ → Type 0
IsRecordsCommand words workers = HasWorkersBehind words (codes "records") workers

-- `orders W`
abbrev pub IsOrdersCommand : List (List ℕ) → ℕ → Type 0
IsOrdersCommand words workers = HasWorkersBehind words (codes "orders") workers

-- `run W`, for some number of workers
abbrev pub IsAnyRunCommand : List (List ℕ) → Type 0
IsAnyRunCommand words = (workers : ℕ) × IsRunCommand words workers

-- `records W`, for some number of workers
abbrev pub IsRecords : List (List ℕ) → Type 0
IsRecords words = (workers : ℕ) × IsRecordsCommand words workers

-- `orders W`, for some number of workers
abbrev pub IsOrders : List (List ℕ) → Type 0
IsOrders words = (workers : ℕ) × IsOrdersCommand words workers

-- `check`
abbrev pub IsCheck : List (List ℕ) → Type 0
IsCheck words = words ≡ codes "check" ∷ []

-- `make`, for some seed, callers and scripts
abbrev pub IsMake : List (List ℕ) → Type 0
IsMake words = (seed callers scripts : ℕ) × IsMakeCommand words seed callers scripts

-- `drill`, for some of them
abbrev pub IsDrill : List (List ℕ) → Type 0
IsDrill words = (workers seed callers scripts : ℕ) × IsDrillCommand words workers seed callers scripts

-- `cells`, for some workers and rounds
abbrev pub IsCells : List (List ℕ) → Type 0
IsCells words = (workers rounds : ℕ) × IsCellsCommand words workers rounds

-- a command that reads a text
abbrev pub IsReading : List (List ℕ) → Type 0
IsReading words = IsAnyRunCommand words ⊎ IsCheck words ⊎ IsRecords words ⊎ IsOrders words

-- by the command that reads: this of `run W`, of `check`, of `records W`, or of `orders W`
abbrev pub ByCommand : List (List ℕ) → Type 0 → Type 0 → Type 0 → Type 0 → Type 0
ByCommand words run check records orders =
    (IsAnyRunCommand words × run) ⊎ (IsCheck words × check) ⊎ (IsRecords words × records) ⊎ (IsOrders words × orders)

-- a command that reads nothing
abbrev pub IsMaking : List (List ℕ) → Type 0
IsMaking words = IsMake words ⊎ IsDrill words ⊎ IsCells words

-- the words are those of a command
abbrev pub IsValidCommand : List (List ℕ) → Type 0
IsValidCommand words = IsReading words ⊎ IsMaking words
