-- What is printed if nothing is read: of an input that the program makes, and of cells.
use Rattle.std.specs.Prelude.{◌≡◌, ◌⊎◌, ℕ, ◌+◌, ◌*◌, List, [], ◌∷◌, ◌++◌, Option, codes}
use Rattle.std.specs.Io.KnownBytes.{Appends}
use Rattle.script_reader.specs.Text.{line, number}
use Rattle.script_reader.specs.Input.{ClearingInput}
use Rattle.twoplsf.specs.declared.command.Plan.{Plan}
use Rattle.input_maker.specs.Made.{made_input, made_input_text}
use Rattle.input_maker.specs.Days.{all_deposits}
use Rattle.worker_pool.specs.declared.done.DayEnd.{DayEnd}
use Rattle.txn_cells.specs.Adding.{sums_of}
use Rattle.twoplsf.specs.Command.{IsMakeCommand, IsDrillCommand, IsCellsCommand}
use Rattle.twoplsf.specs.Cells.{cells_text}
use Rattle.twoplsf.specs.Check.{agrees_line}
use Rattle.twoplsf.specs.Day.{IsDayOf}

-- the input of a plan
abbrev pub planned_input : Plan → ClearingInput
planned_input plan = made_input plan.seed plan.callers plan.scripts

-- what a line with a number says
abbrev pub sum_line : List ℕ → ℕ → List ℕ
sum_line name n = line (name ∷ number n ∷ [])

-- what `drill` prints: how many scripts were run, the sums of the closing cash and of the closing quantities, and
-- that the output of the run is one of the input
abbrev pub drill_text : ℕ → ℕ → ℕ → List ℕ
drill_text seed callers scripts =
    sum_line (codes "scripts") (callers * scripts)
    ++ sum_line (codes "cash") (200000000 + all_deposits (made_input seed callers scripts))
    ++ sum_line (codes "quantity") 160000
    ++ agrees_line

-- the words are `make` with a seed, callers and scripts, and the text is the input that these give
pub record IsMadeInputFor (words : List (List ℕ)) (text : List ℕ) : Type 0 where
  pub seed : ℕ
  pub callers : ℕ
  pub scripts : ℕ
  pub command : IsMakeCommand words seed callers scripts
  pub text_is : text ≡ made_input_text seed callers scripts

-- the words are `drill`, and the text is what it prints
pub record IsSummaryFor (words : List (List ℕ)) (text : List ℕ) : Type 0 where
  pub workers : ℕ
  pub seed : ℕ
  pub callers : ℕ
  pub scripts : ℕ
  pub command : IsDrillCommand words workers seed callers scripts
  pub text_is : text ≡ drill_text seed callers scripts

-- the words are `cells` with workers and rounds, and the text has the sums of what they add to the cells
pub record AreSumsFor (words : List (List ℕ)) (text : List ℕ) : Type 0 where
  pub workers : ℕ
  pub rounds : ℕ
  pub command : IsCellsCommand words workers rounds
  pub text_is : text ≡ cells_text (sums_of workers rounds)

-- the text is that of a command that reads nothing
abbrev pub IsMadeText : List (List ℕ) → List ℕ → Type 0
IsMadeText words text = IsMadeInputFor words text ⊎ IsSummaryFor words text ⊎ AreSumsFor words text

-- one whole text was printed, the one for the words
pub record PrintsMade (words : List (List ℕ)) (before now : Option (List ℕ)) : Type 0 where
  pub text : List ℕ
  pub made : IsMadeText words text
  pub printed : Appends before now text

-- the day of a drill: that of the input that its words give, by as many workers as they say
pub record IsDrillDay (words : List (List ℕ)) (day : DayEnd) : Type 0 where
  pub workers : ℕ
  pub seed : ℕ
  pub callers : ℕ
  pub scripts : ℕ
  pub command : IsDrillCommand words workers seed callers scripts
  pub day_is : IsDayOf (made_input seed callers scripts) workers day
