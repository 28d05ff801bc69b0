-- What each operation keeps of a state, scripts keep.
use Rattle.books_report.proofs.Common.{ℕ, ◌+◌, List, [], ◌∷◌, All, arith, All-tail, Step, Run, after_step, after_value, outcome_from, run_from, Ends, Stops}
use Rattle.books_report.proofs.Common.{Gives, Absent, Full}
use Rattle.books_report.specs.Stores.Interpreter.{outcome_of}

module _ {V X : Type 0} (Holds : X → Type 0) where
  -- the state that a step leaves, if it leaves any, is so
  abbrev pub StepKeeps : Step V X → Type 0
  StepKeeps (Gives v state) = Holds state
  StepKeeps Absent = Unit {0}
  StepKeeps Full = Unit {0}

  abbrev RunKeeps : Run V X → Type 0
  RunKeeps (Ends values state) = Holds state
  RunKeeps (Stops stop) = Unit {0}

  value_keeps : (v : V) (run : Run V X) → RunKeeps run → RunKeeps (after_value v run)
  value_keeps v (Ends values state) kept = kept
  value_keeps v (Stops stop) kept = tt

  after_keeps : (k : ℕ) (s : Step V X) (follows : X → Run V X) → StepKeeps s → ((next : X) → Holds next → RunKeeps (follows next))
      → RunKeeps (after_step k s follows)
  after_keeps k (Gives v next) follows kept behind = value_keeps v (follows next) (behind next kept)
  after_keeps k Absent follows kept behind = tt
  after_keeps k Full follows kept behind = tt

  outcome_keeps : (before : X) (run : Run V X) → Holds before → RunKeeps run → Holds (outcome_from before run).1
  outcome_keeps before (Ends values after) holds kept = kept
  outcome_keeps before (Stops stop) holds kept = holds

  module _ {O : Type 0} (step : O → X → Step V X) (Fits : O → Type 0) (keeps : (o : O) (state : X) → Fits o → Holds state → StepKeeps (step o state))
    where
      run_keeps : (k : ℕ) (script : List O) (state : X) → All Fits script → Holds state → RunKeeps (run_from step k script state)
      run_keeps k [] state fit holds = holds
      run_keeps k (o ∷ ops) state fit holds =
          after_keeps k (step o state) (λ next. run_from step (k + 1) ops next) (keeps o state (fit 0 o (omega arith)) holds)
          (λ next kept. run_keeps (k + 1) ops next (All-tail Fits o ops fit) kept)

      pub script_keeps : (script : List O) (state : X) → All Fits script → Holds state → Holds (outcome_of step script state).1
      script_keeps script state fit holds = outcome_keeps state (run_from step 1 script state) holds (run_keeps 1 script state fit holds)
