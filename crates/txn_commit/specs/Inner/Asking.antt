-- What asking for the lock of a word comes to in an attempt.
use Rattle.std.specs.Prelude.{◌≡◌, ◌≢◌, ℕ, Bool, true, false, [], Option, Some}
use Rattle.history_model.specs.declared.event.Cause.{Cause}
use Rattle.history_model.specs.declared.view.View.{View}
use Rattle.history_model.specs.Locks.{lock_of_word}
use Rattle.history_model.specs.Sets.{has_pair}
use Rattle.word_table.specs.Copies.{PassView}
use Rattle.word_table.specs.Desks.{DeskView}
use Rattle.word_table.specs.Versions.{HasUseOf}
use Rattle.lock_or_yield.specs.declared.turn.Intent.{Intent}
use Rattle.lock_or_yield.specs.declared.turn.Intent.TheVariants as intent
use Rattle.lock_or_yield.specs.Asking.{Asks, WentOn}
use Rattle.lock_or_yield.specs.Intents.{AsksTo, IsHeldTo}
use Rattle.txn_commit.specs.declared.attempt.Asked.{Asked}
use Rattle.txn_commit.specs.declared.attempt.Asked.TheVariants as asked
use Rattle.txn_commit.specs.declared.attempt.Halt.{Halt}
use Rattle.txn_commit.specs.declared.attempt.Halt.TheVariants as halt
use Rattle.txn_commit.specs.Attempts.{GaveWayTo}

-- the lock of word a was asked for, with this intent, if it was not held so; before and after are the halt of the
-- attempt
pub record AsksForWord (n : ℕ) (intent : Intent) (a : ℕ) (old : View) (before : Option Halt) (r : Asked) (after : Option Halt) (new : View) : Type 0 where
  pub asks : Asks a old new
  pub locks : AsksTo intent (lock_of_word a) old new
  pub judged : new.met ≡ []
  pub yields : r ≡ asked.Yield → (cause : Cause) × (after ≡ Some (halt.Yield cause))
      × GaveWayTo n cause old new × (has_pair (lock_of_word a) cause.seat new.meetings ≡ true)
  pub goes_on : r ≢ asked.Yield → IsHeldTo intent new (lock_of_word a) × WentOn old new × (after ≡ before)

-- the attempt has a use of lock k, and the pass knows the same of all but uses
abbrev pub FindsUse : ℕ → View → View → Type 0
FindsUse k old new = (new ≡ record old { uses = new.uses }) × HasUseOf new k

-- the attempt that first used the lock of word a, to read it, goes on and has a use of it, or gives way; before and after are
-- its halt
pub record UsesLock (n a : ℕ) (old : View) (before : Option Halt) (goes_on : Bool) (after : Option Halt) (new : View) : Type 0 where
  pub between : View
  pub answer : Asked
  pub asks : AsksForWord n intent.Read a old before answer after between
  pub finds : goes_on ≡ true → (answer ≢ asked.Yield) × FindsUse (lock_of_word a) between new
  pub yields : goes_on ≡ false → (answer ≡ asked.Yield) × (new ≡ between)

-- it is an attempt over the same desk, by the same pass, from the same beginning
abbrev pub HasBegun : {S : Type 0} → DeskView S → ℕ → PassView → DeskView S → ℕ → PassView → Type 0
HasBegun desk name began desk' name' began' = (desk' ≡ desk) × (name' ≡ name) × (began' ≡ began)
