-- What a transaction comes to: one entry, or none if there was no memory.
use Rattle.std.specs.Prelude.{◌≡◌, ◌⊎◌, ℕ, ◌+◌, Bool, true, List, [], ◌∷◌, ◌++◌, length}
use Rattle.history_model.specs.declared.entry.Abandoned.{Abandoned}
use Rattle.history_model.specs.declared.entry.Entry.{Entry}
use Rattle.history_model.specs.declared.view.View.{View}
use Rattle.history_model.specs.Legal.{IsIn}
use Rattle.history_model.specs.Locks.{lock_of_word}
use Rattle.history_model.specs.Sets.{has, has_pair}
use Rattle.history_model.specs.Traces.{Trace, Touches, IsLegalTrace, after}
use Rattle.history_model.specs.Views.{number}
use Rattle.stamps_rule.specs.Stamps.{AreRestartsBounded}
use Rattle.values_rule.specs.Records.{Knew}
use Rattle.word_table.specs.Calls.{ReadsArranged}
use Rattle.word_table.specs.Copies.{HoldsNothing}
use Rattle.txn_commit.specs.declared.transaction.Receipt.{Receipt}
use Rattle.txn_commit.specs.Uses.{ListsUses}

-- a call of this seat got one entry, behind what the seat had seen; and on all good words on which its trace is legal the
-- job's meaning holds: whether its writes are kept, its answer, and what its trace leaves. In every arrangement of all that
-- is done the words that come of what stands before it are such. It knew all that the seat had seen, which so stands before
-- it in every arrangement
pub record GetsEntry {A : Type 0} (good : List ℕ → Type 0) (means : List ℕ → Bool → A → List ℕ → Type 0)
    (who call : ℕ) (old new : List Entry) (receipt : Receipt A) : Type 0 where
  pub entry : Entry
  pub seen : new ≡ old ++ entry ∷ []
  pub made_by : entry.who ≡ who
  pub call_is : (entry.call ≡ call) × (receipt.call ≡ call)
  pub knew : (x : Entry) → IsIn x old → Knew entry x
  pub floor_is : entry.floor ≡ length old
  pub restarts_are : receipt.restarts ≡ length entry.abandoned
  -- the locks that it used, by rising lock
  pub uses_are : ListsUses entry.uses receipt.uses.items
  pub meaning : (s : List ℕ) → good s → IsLegalTrace entry.trace s → means s entry.kept receipt.answer (after entry.trace s)

-- at some good words the job's meaning holds of the answer
pub record IsMeant {A : Type 0} (good : List ℕ → Type 0) (means : List ℕ → Bool → A → List ℕ → Type 0) (answer : A) : Type 0 where
  pub found : List ℕ
  pub kept : Bool
  pub left : List ℕ
  pub good_words : good found
  pub meaning : means found kept answer left

-- the seat and its table are the same
pub record SameSeat (old new : View) : Type 0 where
  pub who : new.who ≡ old.who
  pub base : new.base ≡ old.base
  pub seats : new.seats ≡ old.seats

-- the word is one that the attempt touches, or one that an attempt before it touched, or it shares its lock with one at
-- which such an attempt gave way: there it met the call to which it gave way
abbrev pub IsFootprint : Trace → List Abandoned → List (ℕ × ℕ) → ℕ → Type 0
IsFootprint trace abandoned meetings a =
    Touches trace a
    ⊎ ((x : Abandoned) × IsIn x abandoned × (Touches x.trace a ⊎ (has_pair (lock_of_word a) x.cause.seat meetings ≡ true)))

-- the call asked for the locks of no other words
abbrev pub LeavesFootprint : View → Type 0
LeavesFootprint v = (a : ℕ) → has a v.asked ≡ true → IsFootprint v.trace v.abandoned v.meetings a

-- the same of a call that has its entry, which is the last that the seat has seen
pub record AsksItsFootprint (v : View) : Type 0 where
  pub earlier : List Entry
  pub entry : Entry
  pub last : v.seen ≡ earlier ++ entry ∷ []
  pub asked : (a : ℕ) → has a v.asked ≡ true → IsFootprint entry.trace entry.abandoned v.meetings a

-- a call was made that has no entry; its attempts that gave way were as few as ever, and all of them were opaque, the last
-- one too, which came to nothing: what it did was legal behind all that was done
pub record EndsWithoutEntry (good : List ℕ → Type 0) (n : ℕ) (base : List ℕ) (old new : View) : Type 0 where
  pub seen : new.seen ≡ old.seen
  pub call : new.call ≡ old.call + 1
  pub floor : new.floor ≡ length old.seen
  pub nothing : HoldsNothing new
  pub bounded : AreRestartsBounded n (number new) new
  pub opaque : ReadsArranged good n base new
  pub footprint : LeavesFootprint new
