-- What one turn of asking for a lock does: if it meets a seat, it judges that seat, and answers what this came to.
use Rattle.std.specs.Prelude.{◌≡◌, ◌≢◌, ◌⊎◌, ℕ, ◌<◌, true, List, [], ◌∷◌, ◌++◌, Some}
use Rattle.history_model.specs.declared.event.Cause.{Cause}
use Rattle.history_model.specs.declared.view.View.{View}
use Rattle.history_model.specs.Locks.{lock_of_word}
use Rattle.history_model.specs.Sets.{has_pair}
use Rattle.history_model.specs.Views.{number}
use Rattle.locks_rule.specs.Actions.{Action}
use Rattle.locks_rule.specs.Steps.{load_writer_action, claim_writer_action, scan_row_action}
use Rattle.stamps_rule.specs.Causes.{newest, past_causes}
use Rattle.word_table.specs.declared.answer.Judged.{Judged}
use Rattle.word_table.specs.declared.answer.Judged.TheVariants as judged
use Rattle.word_table.specs.Calls.{GaveWay, GrantsStay, JudgedBy, MetOn, with_bit}
use Rattle.word_table.specs.Least.{IsLeast}
use Rattle.word_table.specs.Unscanned.{IsUnscanned}
use Rattle.lock_or_yield.specs.declared.turn.Tried.{Tried}
use Rattle.lock_or_yield.specs.declared.turn.Tried.TheVariants as tried
use Rattle.lock_or_yield.specs.Asking.{draws_once, with_locks}

-- what a turn comes to that met seat j, if judge answers this of it
abbrev pub tried_of : ℕ → Judged → Tried
tried_of j judged.Wait = tried.Wait j
tried_of j (judged.Yield stamp) = tried.Yield (record { seat = j; stamp = stamp })

-- the call, which met seat j, showed its timestamp and judged that seat
pub record JudgesMet (sound : List ℕ → List View → Type 0) (met : View) (j : ℕ) (r : Tried) (new : View) : Type 0 where
  pub shown : View
  pub shows : shown ≡ record met { stamp = shown.stamp; announced = true; draws = draws_once met }
  pub kept : 0 < met.stamp → shown.stamp ≡ met.stamp
  pub answer : Judged
  pub judges : JudgedBy sound shown j answer new
  pub comes_to : r ≡ tried_of j answer

-- by such a step a turn that reads meets seat j on lock k: a look at the writer word, with the own bit set
abbrev pub IsReadStep : ℕ → ℕ → View → (View → Action) → View → Type 0
IsReadStep k j before action asking =
    (a : ℕ) × (lock_of_word a ≡ k) × (action ≡ load_writer_action (number before) k a) × (asking ≡ with_bit k a before)

-- and by such a step one that writes: a claim of the writer word, or a scan of the seat's row, if the seat is the
-- least that is left to scan
abbrev pub IsWriteStep : ℕ → ℕ → View → (View → Action) → View → Type 0
IsWriteStep k j before action asking = (asking ≡ before) × (
    ((a : ℕ) × (lock_of_word a ≡ k) × (action ≡ claim_writer_action (number before) k a))
    ⊎ ((action ≡ scan_row_action (number before) k j) × IsLeast (IsUnscanned before k) (Some j)))

-- by one of its steps, which are of this kind, the turn met seat j on lock k, and knew met then
pub record MeetsOn (is_step : ℕ → ℕ → View → (View → Action) → View → Type 0)
    (sound : List ℕ → List View → Type 0) (old : View) (k j : ℕ) (met : View) : Type 0 where
  pub action : View → Action
  pub before : View
  pub locks : before ≡ with_locks before old
  pub asking : View
  pub step : is_step k j before action asking
  pub meets : MetOn sound action before asking met k j

-- the turn met a seat on lock k, which it judged
pub record MeetsAndJudges (is_step : ℕ → ℕ → View → (View → Action) → View → Type 0)
    (sound : List ℕ → List View → Type 0) (old : View) (k : ℕ) (r : Tried) (new : View) : Type 0 where
  pub seat : ℕ
  pub met : View
  pub meets : MeetsOn is_step sound old k seat met
  pub judges : JudgesMet sound met seat r new

-- a call that met a seat and need not give way to it goes on
pub record JudgedToWait (met new : View) : Type 0 where
  pub view : new ≡ record met { met = []; stamp = new.stamp; announced = true; draws = draws_once met }
  pub stamped : 0 < new.stamp
  pub kept : 0 < met.stamp → new.stamp ≡ met.stamp

-- the attempt of a call that met a seat gives way to this cause
pub record JudgedToYield (cause : Cause) (met new : View) : Type 0 where
  pub gave_way : GaveWay cause
      (record met { stamp = new.stamp; announced = true; draws = draws_once met }) new
  pub earlier : (0 < cause.stamp) × (cause.stamp < new.stamp)
  pub last : newest (past_causes new) ≡ Some cause
  pub kept : 0 < met.stamp → new.stamp ≡ met.stamp

-- seats were scanned for the claim on lock k, and none was met
pub record ScansClear (k : ℕ) (old new : View) : Type 0 where
  pub view : new ≡ record old { scans = new.scans }
  pub scans : (l j : ℕ) → l ≢ k → has_pair l j new.scans ≡ has_pair l j old.scans
  pub grants : GrantsStay old new

-- seats were scanned for the claim on lock k, up to seat j, which was the least that was left to scan, and was met
pub record ScansUpTo (sound : List ℕ → List View → Type 0) (k j : ℕ) (old new : View) : Type 0 where
  pub before : View
  pub clear : ScansClear k old before
  pub least : IsLeast (IsUnscanned before k) (Some j)
  pub meets : MetOn sound (scan_row_action (number before) k j) before before new k j
  pub view : new ≡ record before { met = j ∷ before.met; meetings = before.meetings ++ (k, j) ∷ [] }
