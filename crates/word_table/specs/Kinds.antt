-- All kinds of step, what each does, and when a seat may take it.
use Rattle.std.specs.Prelude.{◌≡◌, ℕ, ◌+◌, ◌^◌, ◌<◌, List, Bool, true, false}
use Rattle.atomic_table.specs.Table.{Me}
use Rattle.history_model.specs.declared.view.View.{View}
use Rattle.history_model.specs.Table.{Knows}
use Rattle.locks_rule.specs.Actions.{Action, found_by}
use Rattle.locks_rule.specs.Locks.{LocksHold}
use Rattle.locks_rule.specs.Steps.{MaySetReadBit, MayClearReadBit, MayLoadWriter, MayClaimWriter, MayScanRow, set_read_bit_action}
use Rattle.locks_rule.specs.Steps.{clear_read_bit_action, load_writer_action, claim_writer_action, scan_row_action, release_writer_action}
use Rattle.locks_rule.specs.Versions.{MayLoadVersion, MayReleaseUnowed, load_version_action, store_version_action}
use Rattle.values_rule.specs.Steps.{begin_call_action, load_value_action, store_value_action, undo_store_action, clear_stamp_action, MayBeginCall, MayLoadValue}
use Rattle.values_rule.specs.Steps.{MayStoreValue, MayUndoStore, MayCommitCall, MayClearStamp, commit_call_action}
use Rattle.stamps_rule.specs.Steps.{MayDrawStamp, MayAnnounceStamp, MayJudgeStamp, MayLoadCauseStamp, draw_stamp_action, announce_stamp_action}
use Rattle.stamps_rule.specs.Steps.{judge_stamp_action, load_cause_stamp_action}
use Rattle.word_table.specs.declared.step.Step.{Step}
use Rattle.word_table.specs.declared.step.Step.TheVariants.{SetReadBit, ClearReadBit, LoadWriter, ClaimWriter, ScanRow, ReleaseWriter, BeginCall, LoadValue}
use Rattle.word_table.specs.declared.step.Step.TheVariants.{StoreValue, UndoStore, CommitCall, ClearStamp, DrawStamp, AnnounceStamp, JudgeStamp}
use Rattle.word_table.specs.declared.step.Step.TheVariants.{LoadCauseStamp, LoadVersion, StoreVersion}
use Rattle.word_table.specs.Sound.{IsSound}
use Rattle.word_table.specs.Versions.{MayRaiseVersion}

-- what the step does, if the seat knows v
abbrev pub action_of : Step → View → Action
action_of (SetReadBit j k a) v = set_read_bit_action j k a v
action_of (ClearReadBit j k) v = clear_read_bit_action j k v
action_of (LoadWriter j k a) v = load_writer_action j k a v
action_of (ClaimWriter j k a) v = claim_writer_action j k a v
action_of (ScanRow j k i) v = scan_row_action j k i v
action_of (ReleaseWriter j k) v = release_writer_action j k v
action_of (BeginCall j) v = begin_call_action j v
action_of (LoadValue j a) v = load_value_action j a v
action_of (StoreValue j a x) v = store_value_action j a x v
action_of (UndoStore j a old) v = undo_store_action j a old v
action_of (CommitCall j kept) v = commit_call_action j kept v
action_of (ClearStamp j) v = clear_stamp_action j v
action_of (DrawStamp j) v = draw_stamp_action j v
action_of (AnnounceStamp j) v = announce_stamp_action j v
action_of (JudgeStamp j i) v = judge_stamp_action j i v
action_of (LoadCauseStamp j i stamp) v = load_cause_stamp_action j i stamp v
action_of (LoadVersion j k) v = load_version_action j k v
action_of (StoreVersion j k x) v = store_version_action j k x v

-- the step loads its word; any other stores to it, exchanges it or adds to it
abbrev pub is_load : Step → Bool
is_load (SetReadBit j k a) = false
is_load (ClearReadBit j k) = false
is_load (LoadWriter j k a) = true
is_load (ClaimWriter j k a) = false
is_load (ScanRow j k i) = true
is_load (ReleaseWriter j k) = false
is_load (BeginCall j) = false
is_load (LoadValue j a) = true
is_load (StoreValue j a x) = false
is_load (UndoStore j a old) = false
is_load (CommitCall j kept) = false
is_load (ClearStamp j) = false
is_load (DrawStamp j) = false
is_load (AnnounceStamp j) = false
is_load (JudgeStamp j i) = true
is_load (LoadCauseStamp j i stamp) = true
is_load (LoadVersion j k) = true
is_load (StoreVersion j k x) = false

-- a seat that knows v may take the step, if these are the good lists of words
abbrev pub May : (List ℕ → Type 0) → Step → View → Type 0
May good (SetReadBit j k a) v = MaySetReadBit j k a v
May good (ClearReadBit j k) v = MayClearReadBit j k v
May good (LoadWriter j k a) v = MayLoadWriter j k a v
May good (ClaimWriter j k a) v = MayClaimWriter j k a v
May good (ScanRow j k i) v = MayScanRow j k i v
May good (ReleaseWriter j k) v = MayReleaseUnowed j k v
May good (BeginCall j) v = MayBeginCall j v
May good (LoadValue j a) v = MayLoadValue j a v
May good (StoreValue j a x) v = MayStoreValue j a v
May good (UndoStore j a old) v = MayUndoStore j a old v
May good (CommitCall j kept) v = MayCommitCall good j kept v
May good (ClearStamp j) v = MayClearStamp j v
May good (DrawStamp j) v = MayDrawStamp j v
May good (AnnounceStamp j) v = MayAnnounceStamp j v
May good (JudgeStamp j i) v = MayJudgeStamp j i v
May good (LoadCauseStamp j i stamp) v = MayLoadCauseStamp j i stamp v
May good (LoadVersion j k) v = MayLoadVersion j k v
May good (StoreVersion j k x) v = MayRaiseVersion j k x v

-- the number is what the step writes, whatever the table is when a seat that knows v takes it
abbrev pub Stores : Action → View → ℕ → Type 0
Stores action v new =
    (n : ℕ) (base words : List ℕ) (views : List View) (id : ℕ)
    → LocksHold n base words views → Knows views id v → found_by action words < 2 ^ 64 → action.writes (found_by action words) ≡ new

-- one more than the number found fits a word, whatever the table is when a seat that knows v takes it
abbrev pub Grows : (List ℕ → Type 0) → Action → View → Type 0
Grows good action v =
    (n : ℕ) (base words : List ℕ) (views : List View) (id : ℕ)
    → IsSound good n base words views → Knows views id v → found_by action words + 1 < 2 ^ 64

-- in a state of the table that is sound, if it knew old, a seat took the step that found this number, and then knew new
pub record TakenIn (sound : List ℕ → List View → Type 0) (action : Action) (old : View) (found : ℕ) (new : View) : Type 0 where
  pub words : List ℕ
  pub views : List View
  pub place : ℕ
  pub holds : sound words views
  pub knows : Knows views place old
  pub found_is : found_by action words ≡ found
  pub view : new ≡ action.view found

-- the same, of what the atomic table says that a seat has
abbrev pub Took : (List ℕ → List View → Type 0) → Action → Me (Unit {0}) View → Me (Unit {0}) View → ℕ → Type 0
Took sound action me after found = TakenIn sound action me.0 found after.0 × (after.1 ≡ me.1)
