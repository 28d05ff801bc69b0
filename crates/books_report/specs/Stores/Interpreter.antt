-- The sequential interpreter of any store whose scripts are lists of operations: what a script replies, and the state that
-- it leaves. A store says what one operation does.
use Rattle.std.specs.Prelude.{ℕ, ◌+◌, List, [], ◌∷◌}
use Rattle.books_report.specs.declared.stores.reply.StoreReply.{StoreReply}
use Rattle.books_report.specs.declared.stores.reply.StoreReply.TheVariants as reply

-- how an operation ends: it tells a value and leaves this state, or what it asks for is absent, or there is no room for what
-- it brings
pub data Step (V X : Type 0) : Type 0 where
  Gives : V → X → Step V X
  Absent : Step V X
  Full : Step V X

-- how operations end: with a value for each and the state after them, or at the first that is refused
pub data Run (V X : Type 0) : Type 0 where
  Ends : List V → X → Run V X
  Stops : StoreReply V → Run V X

module _ {V X : Type 0} where
  -- a value in front of those that follow
  abbrev pub after_value : V → Run V X → Run V X
  after_value v (Ends values state) = Ends (v ∷ values) state
  after_value v (Stops stop) = Stops stop

  -- operation number k took this step; what follows goes on from its state
  abbrev pub after_step : ℕ → Step V X → (X → Run V X) → Run V X
  after_step k (Gives v state) follows = after_value v (follows state)
  after_step k Absent follows = Stops (reply.Declined k)
  after_step k Full follows = Stops (reply.Full k)

  -- operations, the first of which has number k
  abbrev pub run_from : {O : Type 0} → (O → X → Step V X) → ℕ → List O → X → Run V X
  run_from step k [] state = Ends [] state
  run_from step k (o ∷ ops) state = after_step k (step o state) (λ next. run_from step (k + 1) ops next)

  -- a script that is refused changes nothing
  abbrev pub outcome_from : X → Run V X → StoreReply V × X
  outcome_from before (Ends values after) = (reply.Done values, after)
  outcome_from before (Stops stop) = (stop, before)

  -- what a script replies, and the state that it leaves
  abbrev pub outcome_of : {O : Type 0} → (O → X → Step V X) → List O → X → StoreReply V × X
  outcome_of step script state = outcome_from state (run_from step 1 script state)
