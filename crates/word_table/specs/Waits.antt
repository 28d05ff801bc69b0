-- Who waits for whom. A wait is told of a state: by what the seat would find if it looked now.
use Rattle.std.specs.Prelude.{◌≡◌, ◌≢◌, ◌⊎◌, ℕ, zero, suc, ◌-◌, true, List, [], ◌∷◌, length, Some, slice_get, slice_index}
use Rattle.history_model.specs.declared.event.Cause.{Cause}
use Rattle.history_model.specs.declared.view.View.{View}
use Rattle.history_model.specs.declared.view.Phase.TheVariants.{Idle, Running, Yielding}
use Rattle.history_model.specs.Conflicts.{IsAt}
use Rattle.history_model.specs.Sets.{has, has_pair}
use Rattle.history_model.specs.Table.{TableState, Knows, stamps_word}
use Rattle.history_model.specs.Views.{number}
use Rattle.stamps_rule.specs.Steps.{MayLoadCauseStamp}
use Rattle.word_table.specs.declared.answer.Judged.TheVariants as judged
use Rattle.word_table.specs.declared.step.Step.TheVariants.{JudgeStamp, LoadCauseStamp}
use Rattle.word_table.specs.Calls.{IsInCall, judged_of}
use Rattle.word_table.specs.Meetings.{IsReached, MayReach, StandsElsewhere}

-- the running call of seat i, which shows its timestamp, met seat j on a lock on which that seat stands, and judge would
-- answer Wait: seat j shows 0 or no earlier timestamp
pub record WaitsAtLock (n : ℕ) (state : TableState) (i j : ℕ) : Type 0 where
  pub place : ℕ
  pub view : View
  pub knows : Knows state.views place view
  pub who : view.who ≡ i ∷ []
  pub phase : view.phase ≡ Running
  pub announced : view.announced ≡ true
  pub lock : ℕ
  pub met : has_pair lock j view.meetings ≡ true
  pub stands : StandsElsewhere state.views place lock j
  pub answer : judged_of (slice_index state.words (stamps_word n j)) view.stamp ≡ judged.Wait

-- the attempt of seat i gave way to seat j, undid and released all, and that seat shows the timestamp that it gave way to:
-- gone would answer false
pub record WaitsForCause (n : ℕ) (state : TableState) (i j : ℕ) : Type 0 where
  pub place : ℕ
  pub view : View
  pub knows : Knows state.views place view
  pub stamp : ℕ
  pub may : MayLoadCauseStamp i j stamp view
  pub shown : slice_index state.words (stamps_word n j) ≡ stamp

-- seat i waits for seat j, in this state of a table of n seats
abbrev pub WaitsFor : ℕ → TableState → ℕ → ℕ → Type 0
WaitsFor n state i j = WaitsAtLock n state i j ⊎ WaitsForCause n state i j

-- no seat j stands on lock k
abbrev pub IsOff : List View → ℕ → ℕ → Type 0
IsOff views k j = (place : ℕ) (view : View) → Knows views place view → ¬ IsAt view k j

-- in a state of the table that is sound, in which the pass's seat was in this call, it waited for seat j, or that seat
-- stood on lock k no more
pub record FoundWait (sound : List ℕ → List View → Type 0) (n k j : ℕ) (v : View) : Type 0 where
  pub words : List ℕ
  pub views : List View
  pub place : ℕ
  pub seat : View
  pub holds : sound words views
  pub knows : Knows views place seat
  pub in_call : IsInCall seat v
  pub found : WaitsFor n (record { words = words; views = views }) (number v) j ⊎ IsOff views k j

-- in a state of the table that is sound the seat, which knew v, waited for its cause
pub record WaitedForCause (sound : List ℕ → List View → Type 0) (n : ℕ) (cause : Cause) (v : View) : Type 0 where
  pub words : List ℕ
  pub views : List View
  pub holds : sound words views
  pub wait : WaitsForCause n (record { words = words; views = views }) (number v) cause.seat
  pub knew : wait.view ≡ v
  pub shown : wait.stamp ≡ cause.stamp

-- a look that leaves an attempt as it was is such a wait: a judgement of a seat that still stands on a lock on which the
-- call met it, after which the attempt runs, and a look at a cause, after which the attempt gives way
abbrev pub LooksAreWaits : (List ℕ → Type 0) → ℕ → List ℕ → Type 0
LooksAreWaits good n base =
    (state : TableState) (place i j : ℕ) (old new : View) → IsReached good n base state
    → ((k : ℕ) → MayReach good state place (JudgeStamp i j) old new → new.phase ≡ Running
    → has_pair k j old.meetings ≡ true → StandsElsewhere state.views place k j → WaitsFor n state i j)
    × ((stamp : ℕ) → MayReach good state place (LoadCauseStamp i j stamp) old new → new.phase ≡ Yielding → WaitsFor n state i j)

-- seat i is in a call
pub record IsCalling (state : TableState) (i : ℕ) : Type 0 where
  pub place : ℕ
  pub view : View
  pub knows : Knows state.views place view
  pub who : view.who ≡ i ∷ []
  pub begun : view.phase ≢ Idle

-- a circle of waits: each seat of the list waits for the next, and the last for the first
pub record IsCircle (n : ℕ) (state : TableState) (seats : List ℕ) : Type 0 where
  pub some : seats ≢ []
  pub next : (p i j : ℕ) → slice_get seats p ≡ Some i → slice_get seats (suc p) ≡ Some j → WaitsFor n state i j
  pub closes : (i j : ℕ) → slice_get seats (length seats - 1) ≡ Some i → slice_get seats 0 ≡ Some j → WaitsFor n state i j

-- a deadlock: each of these seats waits for one of them
pub record IsDeadlock (n : ℕ) (state : TableState) (seats : List ℕ) : Type 0 where
  pub some : seats ≢ []
  pub each : (i : ℕ) → has i seats ≡ true → (j : ℕ) × (has j seats ≡ true) × WaitsFor n state i j

-- no seats wait for one another in a circle
abbrev pub HasNoCircle : (List ℕ → Type 0) → ℕ → List ℕ → Type 0
HasNoCircle good n base = (state : TableState) (seats : List ℕ) → IsReached good n base state → ¬ IsCircle n state seats

-- no seats are in a deadlock
abbrev pub HasNoDeadlock : (List ℕ → Type 0) → ℕ → List ℕ → Type 0
HasNoDeadlock good n base = (state : TableState) (seats : List ℕ) → IsReached good n base state → ¬ IsDeadlock n state seats

-- from seat i so many waits, one after another, lead to seat j
unfoldable pub LeadsTo : ℕ → TableState → ℕ → ℕ → ℕ → Type 0
LeadsTo n state zero i j = i ≡ j
LeadsTo n state (suc waits) i j = (x : ℕ) × WaitsFor n state i x × LeadsTo n state waits x j

-- from each call waits lead to a call, perhaps itself, that waits for no seat
abbrev pub WaitsEnd : (List ℕ → Type 0) → ℕ → List ℕ → Type 0
WaitsEnd good n base =
    (state : TableState) (i : ℕ) → IsReached good n base state → IsCalling state i
    → (j waits : ℕ) × LeadsTo n state waits i j × IsCalling state j × ((x : ℕ) → ¬ WaitsFor n state j x)

-- waits of both kinds arise: some run of two seats comes to a state in which seat 0 waits for seat 1 at a lock, and some to
-- one in which seat 1 waits for seat 0, its cause
abbrev pub WaitsArise : (List ℕ → Type 0) → List ℕ → Type 0
WaitsArise good base =
    good base
    → ((state : TableState) × IsReached good 2 base state × WaitsAtLock 2 state 0 1)
    × ((state : TableState) × IsReached good 2 base state × WaitsForCause 2 state 1 0)
