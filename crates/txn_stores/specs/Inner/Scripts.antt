-- What a script comes to.
use Rattle.std.specs.Prelude.{◌≡◌, List, ℕ}
use Rattle.books_report.specs.declared.stores.reply.StoreReply.{StoreReply}
use Rattle.books_report.specs.declared.stores.reply.StoreReply.TheVariants as reply
use Rattle.books_report.specs.Stores.Interpreter.{Step, run_from}
use Rattle.books_report.specs.Stores.Steps.{run_with}

-- what a reply that is done leaves holds; of what another leaves nothing is said
abbrev pub IfDone : {V : Type 0} → StoreReply V → Type 0 → Type 0
IfDone (reply.Done values) P = P
IfDone (reply.Declined k) P = Unit {0}
IfDone (reply.Full k) P = Unit {0}

-- from words to words: the interpreter's run ends with this reply, and if it is done the words then stand for the state
-- that it leaves
pub record Runs {O V X : Type 0} (stands : List ℕ → X → Type 0) (step : O → X → Step V X) (script : List O)
    (answer : StoreReply V) (old new : List ℕ) : Type 0 where
  pub comes : (before : X) → stands old before → (after : X)
      × (run_from step 1 script before ≡ run_with answer after) × IfDone answer (stands new after)
