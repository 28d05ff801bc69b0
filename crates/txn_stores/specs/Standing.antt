-- Words that stand for the state of a store, and what an operation and a script on them come to.
use Rattle.std.specs.Prelude.{◌≡◌, ◌↔◌, ℕ, Bool, true, false, List, None, Some, Result, Err, OnOk}
use Rattle.history_model.specs.Traces.{Begins}
use Rattle.txn_words.specs.declared.words.Stop.{Stop}
use Rattle.txn_words.specs.declared.words.Stop.TheVariants.{Yield}
use Rattle.txn_words.specs.declared.words.Words.{Ghosts as AnyWords}
use Rattle.books_report.specs.declared.stores.outcome.Outcome.{Outcome}
use Rattle.books_report.specs.declared.stores.outcome.Outcome.TheVariants as outcome
use Rattle.books_report.specs.declared.stores.reply.StoreReply.{StoreReply}
use Rattle.books_report.specs.declared.stores.reply.StoreReply.TheVariants as reply
use Rattle.books_report.specs.Stores.Interpreter.{Step, outcome_of}
use Rattle.books_report.specs.Stores.Steps.{step_with}

-- words that stand for some state
abbrev pub StandsForSome : {X : Type 0} → (List ℕ → X → Type 0) → List ℕ → Type 0
StandsForSome {X} stands words = (state : X) × stands words state

module _ {V : Type 0} where
  -- this holds, or there was no room
  abbrev pub UnlessFull : Outcome V → Type 0 → Type 0
  UnlessFull (outcome.Gives v) P = P
  UnlessFull outcome.Absent P = P
  UnlessFull outcome.Full P = Unit {0}

  -- the script was done
  abbrev pub is_done : StoreReply V → Bool
  is_done (reply.Done values) = true
  is_done (reply.Declined k) = false
  is_done (reply.Full k) = false

module _ {O V X : Type 0} (stands : List ℕ → X → Type 0) (step : O → X → Step V X) where
  -- which state the words stand for after an operation that began with one: that of its step, or the same if what it asks
  -- for is absent; if there was no room nothing is said
  abbrev pub IsLeft : List ℕ → Outcome V → X → X → Type 0
  IsLeft words (outcome.Gives v) before after = stands words after
  IsLeft words outcome.Absent before after = stands words before
  IsLeft words outcome.Full before after = Unit {0}

  -- from words to words: the outcome is the interpreter's, and the words then stand for the state that its step leaves
  pub record MeetsStep (o : O) (come : Outcome V) (old new : List ℕ) : Type 0 where
    pub comes : (before : X) → stands old before
        → (after : X) × (step o before ≡ step_with come after) × IsLeft new come before after

  -- what a script on these words means, for each state for which they stand: the reply is the interpreter's, the writes are
  -- kept exactly if it was done, and then the words that are left stand for the interpreter's state
  pub record ScriptMeans (script : List O) (words : List ℕ) (kept : Bool) (answer : StoreReply V) (left : List ℕ) : Type 0 where
    pub replies : (state : X) → stands words state → answer ≡ (outcome_of step script state).0
    pub kept_where_done : kept ≡ is_done answer
    pub leaves : kept ≡ true → (state : X) → stands words state → stands left (outcome_of step script state).1

-- a script on the words of a shape, with its number
pub record ScriptOn (S O : Type 0) : Type 0 where
  pub shape : S
  pub script : List O
  pub tag : ℕ

-- what a call on words leaves that may find no memory of its own: it goes on to the end unless the words stop, and
-- yields exactly if they do
pub record HandsOn {W S O A : Type 0} (words : AnyWords W S O) (old new : W) (result : Result A Stop) : Type 0 where
  pub shape : words.shape new ≡ words.shape old
  pub origin : words.origin new ≡ words.origin old
  pub begins : Begins (words.trace old) (words.trace new)
  pub done : OnOk result (words.stop new ≡ None)
  pub yields : (result ≡ Err Yield) ↔ (words.stop new ≡ Some Yield)
  pub sound : words.is_sound new
