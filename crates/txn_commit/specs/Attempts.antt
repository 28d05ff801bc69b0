-- What holds of an attempt as long as a job has it.
use Rattle.std.specs.Prelude.{◌≡◌, ℕ, ◌+◌, ◌<◌, ◌≤◌, List, [], ◌∷◌, ◌++◌, length, All, Option, Some, None}
use Rattle.history_model.specs.declared.entry.Abandoned.{Abandoned}
use Rattle.history_model.specs.declared.event.Cause.{Cause}
use Rattle.history_model.specs.declared.view.View.{View}
use Rattle.history_model.specs.declared.view.Phase.TheVariants.{Running, Yielding}
use Rattle.history_model.specs.Fitting.{Fits, IsGood, SomeFits}
use Rattle.history_model.specs.Locks.{lock_of_word}
use Rattle.history_model.specs.Undoing.{notes_of}
use Rattle.history_model.specs.Views.{number, HasWriteGrant}
use Rattle.stamps_rule.specs.Causes.{newest, past_causes}
use Rattle.stamps_rule.specs.Stamps.{AreRestartsBounded}
use Rattle.txn_words.specs.declared.words.Stop.{Stop}
use Rattle.txn_words.specs.declared.words.Stop.TheVariants as stop
use Rattle.undo_log.specs.Room.{Room}
use Rattle.word_table.specs.Calls.{ReadsArranged}
use Rattle.word_table.specs.Copies.{PassView}
use Rattle.word_table.specs.Desks.{DeskView}
use Rattle.txn_commit.specs.declared.attempt.Halt.{Halt}
use Rattle.txn_commit.specs.declared.attempt.Halt.TheVariants as halt
use Rattle.txn_commit.specs.declared.attempt.Start.{Start}
use Rattle.txn_commit.specs.declared.attempt.TheConstants.{UNDO_ROOM}
use Rattle.txn_commit.specs.Transactions.{LeavesFootprint, SameSeat}

-- the stop that the job is answered
abbrev pub stop_of : Option Halt → Option Stop
stop_of None = None
stop_of (Some (halt.Yield cause)) = Some stop.Yield
stop_of (Some halt.Memory) = Some stop.Memory

-- what an attempt of this pass over this desk began from
abbrev pub start_of : {S : Type 0} → DeskView S → ℕ → PassView → Start S
start_of desk name began = record { desk = desk; name = name; pass = began }

-- the call is the same, and has the timestamp that it had, if it had one; what the pass has seen stays
pub record StaysInCall (began now : View) : Type 0 where
  pub seat : SameSeat began now
  pub call : now.call ≡ began.call
  pub floor : now.floor ≡ began.floor
  pub stamp : 0 < began.stamp → now.stamp ≡ began.stamp
  pub seen : now.seen ≡ began.seen

-- the attempt reads and writes
pub record StillRuns (began now : View) : Type 0 where
  pub phase : now.phase ≡ Running
  pub abandoned : now.abandoned ≡ began.abandoned

-- the attempt gave way to this cause, and is one more that was abandoned
pub record GaveWayTo (n : ℕ) (cause : Cause) (began now : View) : Type 0 where
  pub phase : now.phase ≡ Yielding
  pub abandoned : (attempt : Abandoned) × (now.abandoned ≡ began.abandoned ++ attempt ∷ [])
      × (attempt.cause ≡ cause) × (attempt.trace ≡ now.trace)
  pub last : newest (past_causes now) ≡ Some cause
  pub seat : cause.seat < now.seats
  pub bounded : AreRestartsBounded n (number now) now

-- the attempt gave way exactly if it halted for a cause
abbrev pub StandsAs : ℕ → Option Halt → View → View → Type 0
StandsAs n None began now = StillRuns began now
StandsAs n (Some (halt.Yield cause)) began now = GaveWayTo n cause began now
StandsAs n (Some halt.Memory) began now = StillRuns began now

-- the attempt did something to words, and the pass knows the same of all else: it holds the same locks, and asked for no
-- other. It may have found the version of one that it had not used
abbrev pub DidEvents : View → View → Type 0
DidEvents old new = new ≡ record old { trace = new.trace; undo = new.undo; uses = new.uses }

-- an attempt over this desk and pass, with this undo log; word_count and good are those of the shape
pub record IsSoundAttempt {S : Type 0} (word_count : S → ℕ) (good : S → List ℕ → Type 0) (desk : DeskView S)
    (began pass : PassView) (log : Room) (halted : Option Halt) : Type 0 where
  pub table : pass.table ≡ desk.table
  pub words : length pass.view.base ≡ word_count desk.shape
  pub call : StaysInCall began.view pass.view
  pub stands : StandsAs desk.seats halted began.view pass.view
  pub judged : pass.view.met ≡ []
  -- the log has the notes of all writes, and room for so many
  pub log_is : log.list ≡ pass.view.undo
  pub within : All (λ note. note.0 < word_count desk.shape) log.list
  -- on whatever good list the trace is legal, and their words lie under locks that are held for writing
  pub noted : (s : List ℕ) → Fits (word_count desk.shape) (good desk.shape) pass.view.trace s → log.list ≡ notes_of pass.view.trace s
  pub granted : All (λ note. HasWriteGrant pass.view (lock_of_word note.0)) log.list
  pub room : UNDO_ROOM ≤ log.spare + length log.list
  -- no memory was found only if that room was full
  pub memory : halted ≡ Some halt.Memory → UNDO_ROOM ≤ length log.list
  pub fits : SomeFits (word_count desk.shape) (good desk.shape) pass.view.trace
  pub footprint : LeavesFootprint pass.view
  -- until it gives way, what it did is legal behind all that was done
  pub current : pass.view.phase ≡ Running → ReadsArranged (IsGood (word_count desk.shape) (good desk.shape)) desk.seats desk.base pass.view
