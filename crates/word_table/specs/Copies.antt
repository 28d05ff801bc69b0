-- What a pass is seen as, and how what it keeps stands for what its seat knows.
use Rattle.std.specs.Prelude.{◌≡◌, ◌≢◌, ℕ, ◌+◌, ◌/◌, ◌%◌, ◌^◌, ◌<◌, ◌≤◌, true, List, [], ◌∷◌, length, slice_index}
use Rattle.std.specs.Int.{bit_at}
use Rattle.atomic_table.specs.Table.{Me}
use Rattle.atomic_table.specs.Seated.{TableId}
use Rattle.history_model.specs.declared.TheConstants.{LOCKS}
use Rattle.history_model.specs.declared.view.View.{View}
use Rattle.history_model.specs.declared.view.Phase.{Phase}
use Rattle.history_model.specs.declared.view.Phase.TheVariants.{Idle, Running, Yielding, Withdrawing, Releasing}
use Rattle.history_model.specs.Counts.{is_open}
use Rattle.history_model.specs.Legal.{IsIn}
use Rattle.history_model.specs.Locks.{lock_of_word}
use Rattle.history_model.specs.Sets.{has, has_pair, flag}
use Rattle.history_model.specs.Table.{row_word, writer_word, version_word, value_word, table_words}
use Rattle.history_model.specs.Traces.{Trace, Touches}
use Rattle.history_model.specs.Undoing.{Notes}
use Rattle.history_model.specs.Views.{HasBit, HasClaim, IsGranted}
use Rattle.locks_rule.specs.Splits.{opening_view}
use Rattle.locks_rule.specs.Versions.{locks_of}
use Rattle.word_table.specs.declared.copies.CallCopy.{CallCopy}
use Rattle.word_table.specs.declared.copies.LockCopy.{LockCopy}
use Rattle.word_table.specs.declared.copies.VersionCopy.{VersionCopy}
use Rattle.word_table.specs.declared.limits.TheConstants.{MOST_PASSES, MOST_WORDS}
use Rattle.word_table.specs.Versions.{HasUseOf, locks_found}

-- a pass: the table that it is of, what it knows, and how many steps it took
pub record PassView : Type 0 where
  pub table : TableId
  pub view : View
  pub steps : ℕ

-- pass j of n over these words of a table, which has done nothing
abbrev pub fresh_pass : TableId → List ℕ → ℕ → ℕ → PassView
fresh_pass table base n j = record { table = table; view = opening_view base n (j ∷ []) []; steps = 0 }

-- sixteen words show a set of locks, a bit for each
pub record ShowsLocks (row locks : List ℕ) : Type 0 where
  pub sixteen : length row ≡ 16
  pub bits : (k : ℕ) → k < LOCKS → bit_at (slice_index row (k / 64)) (k % 64) ≡ flag (has k locks)
  pub near : (k : ℕ) → has k locks ≡ true → k < LOCKS

-- a word for each lock shows the seats that were scanned for it, a bit for each
pub record ShowsPairs (masks : List ℕ) (pairs : List (ℕ × ℕ)) : Type 0 where
  pub each_lock : length masks ≡ LOCKS
  pub bits : (k j : ℕ) → k < LOCKS → j < 64 → bit_at (slice_index masks k) j ≡ flag (has_pair k j pairs)

-- a word shows all seats but the own one, a bit for each
pub record ShowsOthers (mask seats who : ℕ) : Type 0 where
  pub own : bit_at mask who ≡ 0
  pub others : (j : ℕ) → j < seats → j ≢ who → bit_at mask j ≡ 1
  pub above : (j : ℕ) → seats ≤ j → bit_at mask j ≡ 0

-- the locks that the call has written, as long as it may write, and those that it owes, once it may no more
abbrev pub written_or_owed : Phase → Notes → List ℕ → List ℕ
written_or_owed Running notes owed = locks_of notes
written_or_owed Idle notes owed = owed
written_or_owed Yielding notes owed = owed
written_or_owed Withdrawing notes owed = owed
written_or_owed Releasing notes owed = owed

-- the copy has what a view says of versions: its uses, what it owes, and what these rest on
pub record IsVersionCopy (copy : VersionCopy) (uses : List (ℕ × ℕ)) (owed : List ℕ) (trace : Trace) (undo : Notes) (phase : Phase) : Type 0 where
  pub used_are : ShowsLocks copy.used (locks_found uses)
  pub written_are : ShowsLocks copy.written (written_or_owed phase undo owed)
  pub each_lock : length copy.found.items ≡ LOCKS
  pub found_are : (k x : ℕ) → IsIn (k, x) uses → slice_index copy.found.items k ≡ x
  -- 1 more fits a word
  pub fits : (k : ℕ) → k < LOCKS → slice_index copy.found.items k + 1 < 2 ^ 64
  -- the attempt has a use of the lock of each word that it touched, of each that is noted, and of each that is owed
  pub touched_used : (a : ℕ) → Touches trace a → has (lock_of_word a) (locks_found uses) ≡ true
  pub noted_used : (k : ℕ) → has k (locks_of undo) ≡ true → has k (locks_found uses) ≡ true
  pub owed_used : (k : ℕ) → has k owed ≡ true → has k (locks_found uses) ≡ true
  pub open_owes_none : is_open phase ≡ true → owed ≡ []

-- the copy has the view's locks
pub record IsLockCopy (copy : LockCopy) (v : View) : Type 0 where
  pub bits_are : ShowsLocks copy.bits v.bits
  pub reads_are : ShowsLocks copy.reads v.reads
  pub claims_are : ShowsLocks copy.claims v.claims
  pub scans_are : ShowsPairs copy.scans.items v.scans
  pub versions_are : IsVersionCopy copy.versions v.uses v.owed v.trace v.undo v.phase

-- the copy has what the view says of the call
pub record IsCallCopy (copy : CallCopy) (v : View) : Type 0 where
  pub seats_are : v.seats ≡ copy.seats
  pub who_is : v.who ≡ copy.who ∷ []
  pub phase_is : v.phase ≡ copy.phase
  pub calls_are : v.call ≡ copy.calls
  pub stamp_is : v.stamp ≡ copy.stamp
  pub announced_is : v.announced ≡ copy.announced

-- no lock is held, and none is asked for
pub record HoldsNothing (v : View) : Type 0 where
  pub no_bit : (k : ℕ) → ¬ HasBit v k
  pub no_claim : (k : ℕ) → ¬ HasClaim v k

-- an attempt that runs holds each lock that it has a use of
abbrev pub HoldsUsed : View → Type 0
HoldsUsed v = v.phase ≡ Running → (k : ℕ) → HasUseOf v k → IsGranted v k

-- what a pass keeps is a copy of what its seat knows
pub record IsCopy (call : CallCopy) (locks : LockCopy) (table : TableId) (me : Me (Unit {0}) View) : Type 0 where
  pub slots : me.1 ≡ []
  pub others_are : ShowsOthers call.others call.seats call.who
  pub row_is : call.row ≡ row_word call.seats call.who 0
  pub writers_are : call.writers ≡ writer_word call.seats 0
  pub versions_are : call.versions ≡ version_word call.seats 0
  pub values_are : call.values ≡ value_word call.seats 0
  pub below : call.who < call.seats
  pub few : call.seats ≤ MOST_PASSES
  pub short : length me.0.base ≤ MOST_WORDS
  pub long : table.words ≡ table_words call.seats (length me.0.base)
  pub call_is : IsCallCopy call me.0
  pub locks_are : IsLockCopy locks me.0
  -- between calls
  pub rests : me.0.phase ≡ Idle → HoldsNothing me.0
  pub holds_used : HoldsUsed me.0
