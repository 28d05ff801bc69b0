-- What each call of a desk answers, and what it does to what the pass knows. A step of a call is told of in a state of
-- the table that is sound, as `sound` says.
use Rattle.std.specs.Prelude.{◌≡◌, ◌≢◌, ◌⊎◌, ℕ, ◌+◌, ◌-◌, ◌%◌, ◌<◌, true, false, ◌&&◌, nat_lt, List, [], ◌∷◌, ◌++◌, Some, slice_get, ◌==◌}
use Rattle.std.specs.Prelude.{if◌then◌else◌}
use Rattle.std.specs.Int.{bit_at}
use Rattle.history_model.specs.declared.event.Cause.{Cause}
use Rattle.history_model.specs.declared.view.View.{View}
use Rattle.history_model.specs.declared.entry.Entry.{Entry}
use Rattle.history_model.specs.declared.item.Item.{Item}
use Rattle.history_model.specs.Arrangements.{IsArrangement}
use Rattle.history_model.specs.Conflicts.{IsConflict}
use Rattle.history_model.specs.Items.{replay_items}
use Rattle.history_model.specs.Legal.{IsIn}
use Rattle.history_model.specs.Locks.{lock_of_word}
use Rattle.history_model.specs.Sets.{has, without}
use Rattle.history_model.specs.Table.{Knows}
use Rattle.history_model.specs.Traces.{IsLegalTrace}
use Rattle.history_model.specs.Views.{number, HasBit, HasReadGrant, HasClaim, HasWriteGrant, IsGranted}
use Rattle.locks_rule.specs.Actions.{Action}
use Rattle.locks_rule.specs.Steps.{is_free, set_read_bit_action, load_writer_action, claim_writer_action, scan_row_action, release_writer_action}
use Rattle.locks_rule.specs.Versions.{load_version_action, store_version_action}
use Rattle.values_rule.specs.Steps.{load_value_action, after_giving_way}
use Rattle.values_rule.specs.Closing.{IsPlaced}
use Rattle.values_rule.specs.History.{item_of_entry, items_of, items_of_attempts, knew_of}
use Rattle.stamps_rule.specs.Steps.{judge_stamp_action}
use Rattle.word_table.specs.declared.answer.Shared.{Shared}
use Rattle.word_table.specs.declared.answer.Shared.TheVariants as shared
use Rattle.word_table.specs.declared.answer.Claimed.{Claimed}
use Rattle.word_table.specs.declared.answer.Claimed.TheVariants as claimed
use Rattle.word_table.specs.declared.answer.Scanned.{Scanned}
use Rattle.word_table.specs.declared.answer.Scanned.TheVariants as scanned
use Rattle.word_table.specs.declared.answer.Judged.{Judged}
use Rattle.word_table.specs.declared.answer.Judged.TheVariants as judged
use Rattle.word_table.specs.Kinds.{TakenIn}
use Rattle.word_table.specs.Sound.{IsSound}
use Rattle.word_table.specs.Versions.{HasUseOf, locks_found}

-- the call that began with the view old met another seat, i, on lock k: by a step that it took from the view asking, in
-- a state of the table in which that seat stood on the lock
pub record MetOn (sound : List ℕ → List View → Type 0) (action : View → Action) (old asking new : View) (k i : ℕ) : Type 0 where
  pub found : ℕ
  pub taken : TakenIn sound (action asking) asking found new
  pub seat : i < old.seats
  pub other : has i old.who ≡ false
  pub place : ℕ
  pub view : View
  pub knows : Knows taken.views place view
  pub conflict : IsConflict old new view k i

-- the call goes on as it was: all but what is known of locks is the same
abbrev pub SameCall : View → View → Type 0
SameCall old new = new ≡ record old {
  bits = new.bits;
  reads = new.reads;
  claims = new.claims;
  scans = new.scans;
  asked = new.asked;
  met = new.met;
  meetings = new.meetings;
}

-- a lock that was held still is
abbrev pub GrantsStay : View → View → Type 0
GrantsStay old new = (k : ℕ) → (HasReadGrant old k → HasReadGrant new k) × (HasWriteGrant old k → HasWriteGrant new k)

-- the view with the read bit of lock k set, if it was not
abbrev pub with_bit : ℕ → ℕ → View → View
with_bit k a v = if has k v.bits then v else (set_read_bit_action (number v) k a v).view 0

-- the bit of word a's lock was set already, or a step set it
abbrev pub MakesSeen : (List ℕ → List View → Type 0) → View → ℕ → Type 0
MakesSeen sound v a =
    HasBit v (lock_of_word a)
    ⊎ ((found : ℕ) × TakenIn sound (set_read_bit_action (number v) (lock_of_word a) a v) v found (with_bit (lock_of_word a) a v))

-- what share answers to seat j if it found the writer word to be w
abbrev pub shared_of : ℕ → ℕ → Shared
shared_of j w = if is_free j w then shared.Granted else shared.Met (w - 1)

-- a seat whose bit is set looked at the writer word of word a's lock
pub record Looked (sound : List ℕ → List View → Type 0) (v : View) (a : ℕ) (r : Shared) (u : View) : Type 0 where
  pub found : ℕ
  pub taken : TakenIn sound (load_writer_action (number v) (lock_of_word a) a v) v found u
  pub answer : r ≡ shared_of (number v) found

-- share set the bit, if it was not set, and then loaded the writer word
pub record AsksShared (sound : List ℕ → List View → Type 0) (v : View) (a : ℕ) (r : Shared) (u : View) : Type 0 where
  pub makes_seen : MakesSeen sound v a
  pub found : ℕ
  pub taken : TakenIn sound (load_writer_action (number v) (lock_of_word a) a (with_bit (lock_of_word a) a v)) (with_bit (lock_of_word a) a v) found u
  pub answer : r ≡ shared_of (number v) found
  -- it met a seat exactly if the number found is another seat's and 1
  pub met_named : (i : ℕ) → r ≡ shared.Met i → (found ≡ i + 1) × (i ≢ number v)
  pub named_met : (i : ℕ) → found ≡ i + 1 → i ≢ number v → r ≡ shared.Met i

-- a lock that is held takes no step, and any other is asked for
abbrev pub SharedBy : (List ℕ → List View → Type 0) → View → ℕ → Shared → View → Type 0
SharedBy sound v a r u =
    (IsGranted v (lock_of_word a) × (r ≡ shared.Granted) × (u ≡ v))
    ⊎ (¬ IsGranted v (lock_of_word a) × AsksShared sound v a r u)

-- what claim answers if it found the writer word to be w
abbrev pub claimed_of : ℕ → Claimed
claimed_of w = if w == 0 then claimed.Pending else claimed.Met (w - 1)

-- claim tried to make the writer word the seat's
pub record AsksClaim (sound : List ℕ → List View → Type 0) (v : View) (a : ℕ) (r : Claimed) (u : View) : Type 0 where
  pub found : ℕ
  pub taken : TakenIn sound (claim_writer_action (number v) (lock_of_word a) a v) v found u
  pub answer : r ≡ claimed_of found
  -- it met a seat exactly if the number found is another seat's and 1, and it never is the own one
  pub not_own : found ≢ number v + 1
  pub met_named : (i : ℕ) → r ≡ claimed.Met i → found ≡ i + 1
  pub named_met : (i : ℕ) → found ≡ i + 1 → r ≡ claimed.Met i

-- a claim that stands takes no step
abbrev pub ClaimedBy : (List ℕ → List View → Type 0) → View → ℕ → Claimed → View → Type 0
ClaimedBy sound v a r u =
    (HasClaim v (lock_of_word a) × (r ≡ claimed.Pending) × (u ≡ v))
    ⊎ (¬ HasClaim v (lock_of_word a) × AsksClaim sound v a r u)

-- what scan answers if it found the row word of seat i to be w
abbrev pub scanned_of : ℕ → ℕ → ℕ → Scanned
scanned_of k i w = if bit_at w (k % 64) == 0 then scanned.Clear else scanned.Met i

-- scan loaded the row word of seat i
pub record ScannedBy (sound : List ℕ → List View → Type 0) (v : View) (k i : ℕ) (r : Scanned) (u : View) : Type 0 where
  pub found : ℕ
  pub taken : TakenIn sound (scan_row_action (number v) k i v) v found u
  pub answer : r ≡ scanned_of k i found
  -- it met the seat exactly if the seat's bit was set in the number found
  pub met_set : (j : ℕ) → r ≡ scanned.Met j → (j ≡ i) × (bit_at found (k % 64) ≡ 1)
  pub set_met : bit_at found (k % 64) ≡ 1 → r ≡ scanned.Met i

-- the version of lock k was found before in this attempt, or a step found it
abbrev pub FindsVersion : (List ℕ → List View → Type 0) → ℕ → View → View → Type 0
FindsVersion sound k old new =
    (HasUseOf old k × (new ≡ old))
    ⊎ ((has k (locks_found old.uses) ≡ false) × ((found : ℕ) × TakenIn sound (load_version_action (number old) k old) old found new))

-- load found the version of the lock of word a, if that was its first use in the attempt, and loaded the value then
pub record LoadedBy (sound : List ℕ → List View → Type 0) (v : View) (a r : ℕ) (w : View) : Type 0 where
  pub between : View
  pub finds : FindsVersion sound (lock_of_word a) v between
  pub taken : TakenIn sound (load_value_action (number between) a between) between r w

-- the uses are as before if they had one of lock k, and else they gain one
pub record GainsUse (k : ℕ) (old new : List (ℕ × ℕ)) : Type 0 where
  pub had : has k (locks_found old) ≡ true → new ≡ old
  pub gained : has k (locks_found old) ≡ false → (version : ℕ) × (new ≡ old ++ (k, version) ∷ [])

-- the view when no version of lock k is owed any more
abbrev pub paid : ℕ → View → View
paid k v = record v { owed = without k v.owed }

-- the version of lock k is not owed, or 1 more than the version that the call found was stored
abbrev pub Pays : (List ℕ → List View → Type 0) → ℕ → View → Type 0
Pays sound k v =
    (has k v.owed ≡ false)
    ⊎ ((version : ℕ) × (IsIn (k, version) v.uses
    × ((found : ℕ) × TakenIn sound (store_version_action (number v) k version v) v found (paid k v))))

-- the next version of lock k was stored, if that was owed, and 0 to the writer word then
pub record GaveUp (sound : List ℕ → List View → Type 0) (k : ℕ) (v w : View) : Type 0 where
  pub pays : Pays sound k v
  pub found : ℕ
  pub taken : TakenIn sound (release_writer_action (number v) k (paid k v)) (paid k v) found w

-- what judge answers to a call with the timestamp own if the other seat shows this one
abbrev pub judged_of : ℕ → ℕ → Judged
judged_of shown own = if nat_lt 0 shown && nat_lt shown own then judged.Yield shown else judged.Wait

-- the attempt gave way to this cause, whose seat is judged
abbrev pub GaveWay : Cause → View → View → Type 0
GaveWay cause old new = new ≡ after_giving_way cause (without cause.seat old.met) old

-- judge loaded the timestamp of seat i, and by the same step the attempt gave way if that was a cause
pub record JudgedBy (sound : List ℕ → List View → Type 0) (v : View) (i : ℕ) (r : Judged) (w : View) : Type 0 where
  pub found : ℕ
  pub taken : TakenIn sound (judge_stamp_action (number v) i v) v found w
  pub answer : r ≡ judged_of found v.stamp
  -- it gives way exactly if the timestamp found is above 0 and below the call's own
  pub yield_earlier : (stamp : ℕ) → r ≡ judged.Yield stamp → (found ≡ stamp) × (0 < stamp) × (stamp < v.stamp)
  pub earlier_yield : 0 < found → found < v.stamp → r ≡ judged.Yield found

-- the seat was in the call that v is in, and had seen the same
pub record IsInCall (seat v : View) : Type 0 where
  pub who : seat.who ≡ v.who
  pub call : seat.call ≡ v.call
  pub seen : seat.seen ≡ v.seen
  pub abandoned : seat.abandoned ≡ v.abandoned

-- in a state of the table that is sound, in which the pass's seat was in this call: what the call's last attempt did is
-- legal on the words that all that was done then leaves of the base, in whatever order this is arranged, and these are good
-- words; all that the pass has seen is a part of it, and so are the attempts of the call that gave way, each of which stands
-- at a legal place
pub record ReadsArranged (good : List ℕ → Type 0) (n : ℕ) (base : List ℕ) (v : View) : Type 0 where
  pub words : List ℕ
  pub views : List View
  pub place : ℕ
  pub seat : View
  pub holds : IsSound good n base words views
  pub knows : Knows views place seat
  pub in_call : IsInCall seat v
  pub seen : (e : Entry) → IsIn e v.seen → IsIn (item_of_entry e) (items_of views)
  pub attempts : (x : Item) → IsIn x (items_of_attempts (number v) v.call (knew_of v.seats v.seen) 0 v.abandoned) → IsIn x (items_of views)
  pub order : List Item
  pub arranged : IsArrangement (items_of views) order
  pub placed : (order : List Item) → IsArrangement (items_of views) order → (p : ℕ) (x : Item) → slice_get order p ≡ Some x
      → IsPlaced good n base order p x
  pub left_good : (order : List Item) → IsArrangement (items_of views) order → good (replay_items base order)
  pub fits : (order : List Item) → IsArrangement (items_of views) order → IsLegalTrace v.trace (replay_items base order)
