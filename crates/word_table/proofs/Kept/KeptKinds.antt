-- Every kind of step keeps what holds of a table, in its four parts.
use Rattle.word_table.proofs.Common.{ℕ, List, LocksHold, judge_stamp_stamps, Step, SetReadBit, ClearReadBit, LoadWriter, ClaimWriter, ScanRow, ReleaseWriter}
use Rattle.word_table.proofs.Common.{BeginCall, LoadValue, StoreValue, UndoStore, CommitCall, ClearStamp, DrawStamp, AnnounceStamp, JudgeStamp, LoadCauseStamp}
use Rattle.word_table.proofs.Common.{LoadVersion, StoreVersion, action_of, May, IsSound}
use Rattle.locks_rule.proofs.Common.{Keeps}
use Rattle.locks_rule.proofs.Readers.{set_read_bit_keeps, clear_read_bit_keeps, load_writer_keeps}
use Rattle.locks_rule.proofs.Writers.{claim_writer_keeps, scan_row_keeps, release_writer_keeps}
use Rattle.stamps_rule.proofs.LockKinds.{set_read_bit_stamps, clear_read_bit_stamps, load_writer_stamps, claim_writer_stamps, scan_row_stamps}
use Rattle.stamps_rule.proofs.LockKinds.{release_writer_stamps}
use Rattle.stamps_rule.proofs.LocksStand.{draw_stamp_locks, announce_stamp_locks, judge_stamp_locks, load_cause_stamp_locks}
use Rattle.stamps_rule.proofs.StampKinds.{draw_stamp_stamps, announce_stamp_stamps, load_cause_stamp_stamps}
use Rattle.values_rule.proofs.StepKinds.Begins.{begin_call_values}
use Rattle.values_rule.proofs.StepKinds.Commits.{commit_call_values}
use Rattle.values_rule.proofs.StepKinds.LockKinds.{set_read_bit_values, clear_read_bit_values, load_writer_values, claim_writer_values, scan_row_values}
use Rattle.values_rule.proofs.StepKinds.LockKinds.{release_writer_values, clear_stamp_values}
use Rattle.values_rule.proofs.StepKinds.LocksStand.{begin_call_locks, load_version_locks, store_version_locks, load_value_locks, store_value_locks}
use Rattle.values_rule.proofs.StepKinds.LocksStand.{undo_store_locks, commit_call_locks, clear_stamp_locks}
use Rattle.values_rule.proofs.StepKinds.ValueKinds.{load_value_values, store_value_values, undo_store_values}
use Rattle.values_rule.proofs.StepKinds.VersionLoads.{load_version_values}
use Rattle.values_rule.proofs.StepKinds.VersionStores.{store_version_values}
use Rattle.word_table.proofs.Kept.Bounded.{bounded_kept}
use Rattle.word_table.proofs.Kept.VersionPairs.{load_version_stamps, store_version_stamps}
use Rattle.word_table.proofs.Kept.ClockPairs.{ValuesStay, draw_stamp_values, announce_stamp_values, judge_stamp_values, load_cause_stamp_values}
use Rattle.word_table.proofs.Kept.ValuePairs.{StampsStay, begin_call_stamps, load_value_stamps, store_value_stamps, undo_store_stamps, commit_call_stamps}
use Rattle.word_table.proofs.Kept.ValuePairs.{clear_stamp_stamps}

locks_kept : (good : List ℕ → Type 0) (n : ℕ) (base : List ℕ) (st : Step) → Keeps (LocksHold n base) (May good st) (action_of st)
locks_kept good n base (SetReadBit j k a) = set_read_bit_keeps n base j k a
locks_kept good n base (ClearReadBit j k) = clear_read_bit_keeps n base j k
locks_kept good n base (LoadWriter j k a) = load_writer_keeps n base j k a
locks_kept good n base (ClaimWriter j k a) = claim_writer_keeps n base j k a
locks_kept good n base (ScanRow j k i) = scan_row_keeps n base j k i
locks_kept good n base (ReleaseWriter j k) = λ ws vs id v h me may. release_writer_keeps n base j k ws vs id v h me may.releases
locks_kept good n base (BeginCall j) = λ ws vs id v h me may. begin_call_locks n base j ws vs id v h me may
locks_kept good n base (LoadValue j a) = λ ws vs id v h me may. load_value_locks n base j a ws vs id v h me may
locks_kept good n base (StoreValue j a x) = λ ws vs id v h me may. store_value_locks n base j a x ws vs id v h me may
locks_kept good n base (UndoStore j a old) = λ ws vs id v h me may. undo_store_locks n base j a old ws vs id v h me may
locks_kept good n base (CommitCall j kept) = λ ws vs id v h me may. commit_call_locks good n base j kept ws vs id v h me may
locks_kept good n base (ClearStamp j) = λ ws vs id v h me may. clear_stamp_locks n base j ws vs id v h me may
locks_kept good n base (DrawStamp j) = draw_stamp_locks n base j
locks_kept good n base (AnnounceStamp j) = announce_stamp_locks n base j
locks_kept good n base (JudgeStamp j i) = judge_stamp_locks n base j i
locks_kept good n base (LoadCauseStamp j i stamp) = load_cause_stamp_locks n base j i stamp
locks_kept good n base (LoadVersion j k) = λ ws vs id v h me may. load_version_locks n base j k ws vs id v h me may
locks_kept good n base (StoreVersion j k x) = λ ws vs id v h me may. store_version_locks n base j k x ws vs id v h me may.stores

values_kept : (good : List ℕ → Type 0) (st : Step) → ValuesStay good (May good st) (action_of st)
values_kept good (SetReadBit j k a) n base ws vs id v s me may = set_read_bit_values good j k a n base ws vs id v s.locks s.values me may
values_kept good (ClearReadBit j k) n base ws vs id v s me may = clear_read_bit_values good j k n base ws vs id v s.locks s.values me may
values_kept good (LoadWriter j k a) n base ws vs id v s me may = load_writer_values good j k a n base ws vs id v s.locks s.values me may
values_kept good (ClaimWriter j k a) n base ws vs id v s me may = claim_writer_values good j k a n base ws vs id v s.locks s.values me may
values_kept good (ScanRow j k i) n base ws vs id v s me may = scan_row_values good j k i n base ws vs id v s.locks s.values me may
values_kept good (ReleaseWriter j k) n base ws vs id v s me may = release_writer_values good j k n base ws vs id v s.locks s.values me may
values_kept good (BeginCall j) n base ws vs id v s me may = begin_call_values good j n base ws vs id v s.locks s.values me may
values_kept good (LoadValue j a) n base ws vs id v s me may = load_value_values good j a n base ws vs id v s.locks s.values me may
values_kept good (StoreValue j a x) n base ws vs id v s me may = store_value_values good j a x n base ws vs id v s.locks s.values me may
values_kept good (UndoStore j a old) n base ws vs id v s me may = undo_store_values good j a old n base ws vs id v s.locks s.values me may
values_kept good (CommitCall j kept) n base ws vs id v s me may = commit_call_values good j kept n base ws vs id v s.locks s.values me may
values_kept good (ClearStamp j) n base ws vs id v s me may = clear_stamp_values good j n base ws vs id v s.locks s.values me may
values_kept good (DrawStamp j) n base ws vs id v s me may = draw_stamp_values good j n base ws vs id v s me may
values_kept good (AnnounceStamp j) n base ws vs id v s me may = announce_stamp_values good j n base ws vs id v s me may
values_kept good (JudgeStamp j i) n base ws vs id v s me may = judge_stamp_values good j i n base ws vs id v s me may
values_kept good (LoadCauseStamp j i stamp) n base ws vs id v s me may = load_cause_stamp_values good j i stamp n base ws vs id v s me may
values_kept good (LoadVersion j k) n base ws vs id v s me may = load_version_values good j k n base ws vs id v s.locks s.values me may
values_kept good (StoreVersion j k x) n base ws vs id v s me may = store_version_values good j k x n base ws vs id v s.locks s.values me may.stores

stamps_kept : (good : List ℕ → Type 0) (st : Step) → StampsStay good (May good st) (action_of st)
stamps_kept good (SetReadBit j k a) n base ws vs id v s me may = set_read_bit_stamps j k a n base ws vs id v s.locks s.stamps me may
stamps_kept good (ClearReadBit j k) n base ws vs id v s me may = clear_read_bit_stamps j k n base ws vs id v s.locks s.stamps me may
stamps_kept good (LoadWriter j k a) n base ws vs id v s me may = load_writer_stamps j k a n base ws vs id v s.locks s.stamps me may
stamps_kept good (ClaimWriter j k a) n base ws vs id v s me may = claim_writer_stamps j k a n base ws vs id v s.locks s.stamps me may
stamps_kept good (ScanRow j k i) n base ws vs id v s me may = scan_row_stamps j k i n base ws vs id v s.locks s.stamps me may
stamps_kept good (ReleaseWriter j k) n base ws vs id v s me may = release_writer_stamps j k n base ws vs id v s.locks s.stamps me may.releases
stamps_kept good (BeginCall j) n base ws vs id v s me may = begin_call_stamps good j n base ws vs id v s me may
stamps_kept good (LoadValue j a) n base ws vs id v s me may = load_value_stamps good j a n base ws vs id v s me may
stamps_kept good (StoreValue j a x) n base ws vs id v s me may = store_value_stamps good j a x n base ws vs id v s me may
stamps_kept good (UndoStore j a old) n base ws vs id v s me may = undo_store_stamps good j a old n base ws vs id v s me may
stamps_kept good (CommitCall j kept) n base ws vs id v s me may = commit_call_stamps good j kept n base ws vs id v s me may
stamps_kept good (ClearStamp j) n base ws vs id v s me may = clear_stamp_stamps good j n base ws vs id v s me may
stamps_kept good (DrawStamp j) n base ws vs id v s me may = draw_stamp_stamps j n base ws vs id v s.locks s.stamps me may
stamps_kept good (AnnounceStamp j) n base ws vs id v s me may = announce_stamp_stamps j n base ws vs id v s.locks s.stamps me may
stamps_kept good (JudgeStamp j i) n base ws vs id v s me may = judge_stamp_stamps j i n base ws vs id v s.locks s.stamps me may
stamps_kept good (LoadCauseStamp j i stamp) n base ws vs id v s me may = load_cause_stamp_stamps j i stamp n base ws vs id v s.locks s.stamps me may
stamps_kept good (LoadVersion j k) n base ws vs id v s me may = load_version_stamps good j k n base ws vs id v s me may
stamps_kept good (StoreVersion j k x) n base ws vs id v s me may = store_version_stamps good j k x n base ws vs id v s me may

pub sound_kept : (good : List ℕ → Type 0) (n : ℕ) (base : List ℕ) (st : Step) → Keeps (IsSound good n base) (May good st) (action_of st)
sound_kept good n base st ws vs id v s me may = record {
  locks = locks_kept good n base st ws vs id v s.locks me may;
  values = values_kept good st n base ws vs id v s me may;
  stamps = stamps_kept good st n base ws vs id v s me may;
  versions = bounded_kept good n base st ws vs id v s me may;
}
