-- The clock counts the timestamps that were drawn, so no step but a draw changes it.
use Rattle.word_table.proofs.Common.{◌≡◌, ◌≢◌, ℕ, ◌-◌, ◌%◌, Bool, true, false, List, ◌∷◌, ◌==◌, if◌then◌else◌, Option, Some, None, refl, arith, bit_at, Cause}
use Rattle.word_table.proofs.Common.{View, without, without_first, found_by, is_free, after_asking, after_meeting, judged, after_judgement, after_waiting}
use Rattle.word_table.proofs.Common.{after_restarting, Step, SetReadBit, ClearReadBit, LoadWriter, ClaimWriter, ScanRow, ReleaseWriter, BeginCall, LoadValue}
use Rattle.word_table.proofs.Common.{StoreValue, UndoStore, CommitCall, ClearStamp, DrawStamp, AnnounceStamp, JudgeStamp, LoadCauseStamp, LoadVersion}
use Rattle.word_table.proofs.Common.{StoreVersion, action_of}
use Rattle.stamps_rule.proofs.Counting.{draws_of-set}
use Rattle.word_table.specs.Meetings.{ClockCountsDraws, OnlyDrawsMoveClock}
use Rattle.word_table.proofs.Kept.KeptKinds.{sound_kept}
use Rattle.word_table.proofs.Runs.RunLaws.{run_sound}

-- the view drew as many timestamps as before
abbrev DrewNone : View → View → Type 0
DrewNone v w = w.draws ≡ v.draws

either : (b : Bool) (v x y : View) → DrewNone v x → DrewNone v y → DrewNone v (if b then x else y)
either true v x y p q = p
either false v x y p q = q

judging : (verdict : Option Cause) (v w : View) → DrewNone v w → DrewNone v (after_judgement verdict w)
judging None v w e = e
judging (Some cause) v w e = e

-- the kinds of step, one by one
drew_none : (st : Step) (v : View) (w : ℕ) → ((j : ℕ) → st ≢ DrawStamp j) → DrewNone v ((action_of st v).view w)
drew_none (SetReadBit j l a) v w other = refl
drew_none (ClearReadBit j l) v w other = refl
drew_none (LoadWriter j l a) v w other =
    either (is_free j w) v (record (after_asking v a) { reads = l ∷ v.reads }) (after_meeting (after_asking v a) l (w - 1)) refl refl
drew_none (ClaimWriter j l a) v w other =
    either (w == 0) v (record (after_asking v a) { claims = l ∷ v.claims; scans = without_first l v.scans })
    (after_meeting (after_asking v a) l (w - 1)) refl refl
drew_none (ScanRow j l i) v w other = either (bit_at w (l % 64) == 0) v (record v { scans = (l, i) ∷ v.scans }) (after_meeting v l i) refl refl
drew_none (ReleaseWriter j l) v w other = refl
drew_none (BeginCall j) v w other = refl
drew_none (LoadValue j a) v w other = refl
drew_none (StoreValue j a x) v w other = refl
drew_none (UndoStore j a old) v w other = refl
drew_none (CommitCall j kept) v w other = refl
drew_none (ClearStamp j) v w other = refl
drew_none (DrawStamp j) v w other = absurd (other j refl)
drew_none (AnnounceStamp j) v w other = refl
drew_none (JudgeStamp j i) v w other = judging (judged i w v.stamp) v (record v { met = without i v.met }) refl
drew_none (LoadCauseStamp j i stamp) v w other = either (w == stamp) v (after_waiting v) (after_restarting v) refl refl
drew_none (LoadVersion j l) v w other = refl
drew_none (StoreVersion j l x) v w other = refl

pub clock_counts_draws : (good : List ℕ → Type 0) (n : ℕ) (base : List ℕ) → ClockCountsDraws good n base
clock_counts_draws good n base state r = (run_sound good n base r.run r.base_good r.runs r.at state r.stands).stamps.drawn.drawn_are

pub only_draws_move_clock : (good : List ℕ → Type 0) (n : ℕ) (base : List ℕ) → OnlyDrawsMoveClock good n base
only_draws_move_clock good n base state place step view r knows may other =
    let before = run_sound good n base r.run r.base_good r.runs r.at state r.stands in
    let after = sound_kept good n base step state.words state.views place view before knows may in
    let w : View = (action_of step view).view (found_by (action_of step view) state.words) in
    let sums = draws_of-set state.views place view w knows in
    let same : w.draws ≡ view.draws = drew_none step view (found_by (action_of step view) state.words) other in
    let was = before.stamps.drawn.drawn_are in
    let is = after.stamps.drawn.drawn_are in
    omega arith
