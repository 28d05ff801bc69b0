-- Asking for a lock, to read or to write: what each intent means, and what a turn of asking and asking turn after turn
-- come to.
use Rattle.std.specs.Prelude.{◌≡◌, ◌⊎◌, ℕ, ◌<◌, List, [], ◌∷◌, ◌++◌, Option, Some, IsNone, IfSome}
use Rattle.history_model.specs.declared.event.Cause.{Cause}
use Rattle.history_model.specs.declared.shape.Shape.{Ghosts as Shapes}
use Rattle.history_model.specs.declared.view.View.{View}
use Rattle.history_model.specs.Locks.{lock_of_word}
use Rattle.history_model.specs.Views.{number, HasWriteGrant, IsGranted}
use Rattle.locks_rule.specs.Actions.{Action}
use Rattle.stamps_rule.specs.Stamps.{AreRestartsBounded}
use Rattle.word_table.specs.Calls.{GrantsStay, SameCall}
use Rattle.word_table.specs.Desks.{DeskView, RuleHolds}
use Rattle.word_table.specs.Waits.{FoundWait}
use Rattle.lock_or_yield.specs.declared.turn.Intent.{Intent}
use Rattle.lock_or_yield.specs.declared.turn.Intent.TheVariants as intent
use Rattle.lock_or_yield.specs.declared.turn.Tried.{Tried}
use Rattle.lock_or_yield.specs.declared.turn.Tried.TheVariants as tried
use Rattle.lock_or_yield.specs.declared.want.Got.{Got}
use Rattle.lock_or_yield.specs.declared.want.Got.TheVariants as got
use Rattle.lock_or_yield.specs.Asking.{Asks, AsksToRead, AsksToWrite, GainsAtMost, MeetsAndYields, MeetsNobody, MeetsSome, WentOn}
use Rattle.lock_or_yield.specs.Turns.{IsReadStep, IsWriteStep, MeetsAndJudges, MeetsOn}

-- the lock is held so: shared or exclusive for a read, exclusive for a write
abbrev pub IsHeldTo : Intent → View → ℕ → Type 0
IsHeldTo intent.Read = IsGranted
IsHeldTo intent.Write = HasWriteGrant

-- by such a step a turn meets a seat
abbrev pub IsStepTo : Intent → ℕ → ℕ → View → (View → Action) → View → Type 0
IsStepTo intent.Read = IsReadStep
IsStepTo intent.Write = IsWriteStep

-- what is known of locks is the same but for what such asking may change on lock k
abbrev pub AsksTo : Intent → ℕ → View → View → Type 0
AsksTo intent.Read = AsksToRead
AsksTo intent.Write = AsksToWrite

module _ {S : Type 0} (shapes : Shapes S) (desk : DeskView S) (intent : Intent) (k : ℕ) (old : View) where
  -- one turn of asking for lock k came to this
  pub record TakesTurn (r : Tried) (new : View) : Type 0 where
    pub granted : r ≡ tried.Granted → IsHeldTo intent new k × MeetsNobody old new
    pub waits : (j : ℕ) → r ≡ tried.Wait j → MeetsSome ((k, j) ∷ []) old new
    pub found : (j : ℕ) → r ≡ tried.Wait j → FoundWait (RuleHolds shapes desk) desk.seats k j new
    pub yields : (cause : Cause) → r ≡ tried.Yield cause
        → MeetsAndYields ((k, cause.seat) ∷ []) cause old new
    pub met : (r ≡ tried.Granted) ⊎ MeetsAndJudges (IsStepTo intent) (RuleHolds shapes desk) old k r new
    pub held : IsHeldTo intent old k → (r ≡ tried.Granted) × (new ≡ old)
    pub bounded : (r ≡ tried.Granted) ⊎ AreRestartsBounded desk.seats (number old) new

  -- asking for lock k, turn after turn, came to this
  pub record AsksUntilHeld (r : Got) (new : View) : Type 0 where
    pub granted : r ≡ got.Granted → IsHeldTo intent new k × WentOn old new
    pub yields : (cause : Cause) → r ≡ got.Yield cause → (waited : List (ℕ × ℕ))
        × MeetsAndYields (waited ++ (k, cause.seat) ∷ []) cause old new
    pub met : (cause : Cause) → r ≡ got.Yield cause → (before : View)
        × WentOn old before × MeetsAndJudges (IsStepTo intent) (RuleHolds shapes desk) before k (tried.Yield cause) new
    pub bounded : (cause : Cause) → r ≡ got.Yield cause → AreRestartsBounded desk.seats (number old) new

-- the lock of word a was asked for by steps on locks alone
pub record AsksOnce (intent : Intent) (a : ℕ) (old new : View) : Type 0 where
  pub call : SameCall old new
  pub locks : AsksTo intent (lock_of_word a) old new
  pub asked : GainsAtMost a old.asked new.asked
  pub grants : GrantsStay old new

-- by these seat j was met
pub record MeetsSeat (intent : Intent) (sound : List ℕ → List View → Type 0) (k j : ℕ) (old new : View) : Type 0 where
  pub seat : j < old.seats
  pub met : new.met ≡ j ∷ old.met
  pub meetings : new.meetings ≡ old.meetings ++ (k, j) ∷ []
  pub meets : MeetsOn (IsStepTo intent) sound old k j new

-- or it is held so, and nobody was met
abbrev pub IsClear : Intent → ℕ → View → View → Type 0
IsClear intent k old new = IsHeldTo intent new k × (new.met ≡ old.met) × (new.meetings ≡ old.meetings)

-- what asking once came to: nobody was met, or this seat
pub record ComesTo (intent : Intent) (sound : List ℕ → List View → Type 0) (a : ℕ) (old : View) (r : Option ℕ) (new : View) : Type 0 where
  pub asks : AsksOnce intent a old new
  pub clear : IsNone r → IsClear intent (lock_of_word a) old new
  pub met : IfSome r (λ j. MeetsSeat intent sound (lock_of_word a) j old new)
  pub held : IsHeldTo intent old (lock_of_word a) → IsNone r × (new ≡ old)

-- the call, which had nobody to judge and did not hold the lock of word a so, asked for it once, and met seat j
pub record MeetsFirst (intent : Intent) (sound : List ℕ → List View → Type 0) (a j : ℕ) (old new : View) : Type 0 where
  pub judged : old.met ≡ []
  pub once : ComesTo intent sound a old (Some j) new

module _ {S : Type 0} (shapes : Shapes S) (desk : DeskView S) (intent : Intent) (a : ℕ) (old : View) where
  -- a turn of asking for the lock of word a, and what it leaves
  pub record TurnsOnce (r : Tried) (new : View) : Type 0 where
    pub asks : Asks a old new
    pub locks : AsksTo intent (lock_of_word a) old new
    pub judged : new.met ≡ []
    pub turn : TakesTurn shapes desk intent (lock_of_word a) old r new

  -- all turns of asking for it, from the view old on, and what they leave
  pub record AsksSince (r : Got) (new : View) : Type 0 where
    pub asks : Asks a old new
    pub locks : AsksTo intent (lock_of_word a) old new
    pub judged : new.met ≡ []
    pub answer : AsksUntilHeld shapes desk intent (lock_of_word a) old r new
