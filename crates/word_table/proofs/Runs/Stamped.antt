-- A call has one timestamp at most, from the step that draws it until the call ends.
use Rattle.word_table.proofs.Common.{◌≡◌, ◌≢◌, ℕ, zero, suc, ◌+◌, ◌-◌, ◌%◌, ◌<◌, ◌≤◌, Bool, true, false, ◌⊎◌, inl, inr, ⊎_elim, List, [], ◌∷◌, ◌++◌}
use Rattle.word_table.proofs.Common.{slice_index, ◌==◌, if◌then◌else◌, Option, Some, None, slice_get, slice_set, refl, sym, ap, ◌∙◌, subst, arith, Cause, View}
use Rattle.word_table.proofs.Common.{Idle, Running, Releasing, is_attempt, is_open, has, without, without_first, TableState, Knows, number, bit_at, dite}
use Rattle.word_table.proofs.Common.{ℕ_discrete, Change, StepTouches, NewByStep, change_step, NewByCut, change_cut, NewByJoin, JoinTouches, change_join}
use Rattle.word_table.proofs.Common.{same_view, differ, has-nil, has-one, has-without, has-join_same, found_by, MayMeetNote, left_by_note, note_of}
use Rattle.word_table.proofs.Common.{MayJoinSeats, spent_view, is_free, after_asking, after_meeting, MaySplitSeat, left_by_split, given_by_split, own_number}
use Rattle.word_table.proofs.Common.{judged, after_judgement, after_giving_way, after_waiting, after_restarting, after_note, after_joining, Step, SetReadBit}
use Rattle.word_table.proofs.Common.{ClearReadBit, LoadWriter, ClaimWriter, ScanRow, ReleaseWriter, BeginCall, LoadValue, StoreValue, UndoStore, CommitCall}
use Rattle.word_table.proofs.Common.{ClearStamp, DrawStamp, AnnounceStamp, JudgeStamp, LoadCauseStamp, LoadVersion, StoreVersion, action_of, May, view_after}
use Rattle.word_table.proofs.Common.{TakesStep, CutsSeat, TakesNote, Joins, Steps, IsRun}
use Rattle.stamps_rule.proofs.LocksStand.{runs, yields}
use Rattle.word_table.specs.Meetings.{StampsAreKept}
use Rattle.word_table.proofs.Runs.RunLaws.{before, run_sound}

-- what a step does to call and timestamp of the view that takes it: it leaves them, or it ends the call, or it begins the
-- next, or it draws a timestamp if there is none
pub record Stays (v w : View) : Type 0 where
  pub call : w.call ≡ v.call
  pub stamp : w.stamp ≡ v.stamp
  pub rests : v.phase ≡ Idle → w.phase ≡ Idle

pub record Ends (v w : View) : Type 0 where
  pub call : w.call ≡ v.call
  pub rests : w.phase ≡ Idle

pub record Draws (v w : View) : Type 0 where
  pub call : w.call ≡ v.call
  pub none : v.stamp ≡ 0
  pub runs : v.phase ≡ Running

abbrev pub GoesTo : View → View → Type 0
GoesTo v w = (w.who ≡ v.who) × (w.joined ≡ v.joined) × (Stays v w ⊎ (Ends v w ⊎ ((w.call ≡ v.call + 1) ⊎ Draws v w)))

-- what is known of seat j's view, if its call c had the timestamp s once
abbrev Keeps : ℕ → ℕ → ℕ → View → Type 0
Keeps j c s u =
    ((u.who ≡ j ∷ []) × (((u.call ≡ c) × (u.stamp ≡ s)) ⊎ (((u.call ≡ c) × (u.phase ≡ Idle)) ⊎ (c < u.call))))
    ⊎ (u.joined ≡ true)

keeps_step : (j c s : ℕ) (v w : View) → 0 < s → GoesTo v w → Keeps j c s v → Keeps j c s w
keeps_step j c s v w some goes = ⊎_elim
    (λ t. inl (
      goes.0 ∙ t.0,
      ⊎_elim
          (λ (x : Stays v w). ⊎_elim
          (λ a. inl (x.call ∙ a.0, x.stamp ∙ a.1))
          (λ b. ⊎_elim (λ z. inr (inl (x.call ∙ z.0, x.rests z.1))) (λ lt. inr (inr (let same = x.call in omega arith))) b) t.1)
          (λ y. ⊎_elim
          (λ (x : Ends v w). ⊎_elim
          (λ a. inr (inl (x.call ∙ a.0, x.rests)))
          (λ b. ⊎_elim (λ z. inr (inl (x.call ∙ z.0, x.rests))) (λ lt. inr (inr (let same = x.call in omega arith))) b) t.1)
          (λ z. ⊎_elim
          (λ (next : w.call ≡ v.call + 1). inr
          (inr (⊎_elim (λ a. let is = a.0 in omega arith) (λ b. ⊎_elim (λ i. let is = i.0 in omega arith) (λ lt. omega arith) b) t.1)))
          (λ (x : Draws v w). ⊎_elim
          (λ a. let none = x.none in let is = a.1 in absurd (omega arith))
          (λ b. ⊎_elim (λ i. absurd (idle_runs i.1 x.runs)) (λ lt. inr (inr (let same = x.call in omega arith))) b) t.1) z) y) goes.2,
    ))
    (λ t. inr (goes.1 ∙ t))
  where
    idle_runs : v.phase ≡ Idle → v.phase ≡ Running → ⊥
    idle_runs a b = let z : Idle ≡ Running = sym a ∙ b in cc

attempt_not : (v : View) → is_attempt v.phase ≡ true → v.phase ≢ Idle
attempt_not v r e = let z : true ≡ false = sym r ∙ ap is_attempt e in cc

open_not : (v : View) → is_open v.phase ≡ true → v.phase ≢ Idle
open_not v r e = let z : true ≡ false = sym r ∙ ap is_open e in cc

stays : (v w : View) → w.who ≡ v.who → w.joined ≡ v.joined → w.call ≡ v.call → w.stamp ≡ v.stamp → v.phase ≢ Idle → GoesTo v w
stays v w who joined call stamp busy = (who, joined, inl (record { call = call; stamp = stamp; rests = λ e. absurd (busy e) }))

-- a view that is one of two
either : (b : Bool) (v x y : View) → GoesTo v x → GoesTo v y → GoesTo v (if b then x else y)
either true v x y p q = p
either false v x y p q = q

judging : (verdict : Option Cause) (v : View) (met : List ℕ) → v.phase ≢ Idle
    → GoesTo v (after_judgement verdict (record v { met = met }))
judging None v met busy = stays v (record v { met = met }) refl refl refl refl busy
judging (Some cause) v met busy = stays v (after_giving_way cause (record v { met = met })) refl refl refl refl busy

pub goes : (good : List ℕ → Type 0) (st : Step) (v : View) (w : ℕ) → May good st v → GoesTo v ((action_of st v).view w)
goes good (SetReadBit j l a) v w may = stays v ((action_of (SetReadBit j l a) v).view w) refl refl refl refl (runs v may.phase)
goes good (ClearReadBit j l) v w may = stays v ((action_of (ClearReadBit j l) v).view w) refl refl refl refl may.release.begun
goes good (LoadWriter j l a) v w may =
    let granted : View = record (after_asking v a) { reads = l ∷ v.reads } in let met : View = after_meeting (after_asking v a) l (w - 1) in
    either (is_free j w) v granted met (stays v granted refl refl refl refl (runs v may.phase)) (stays v met refl refl refl refl (runs v may.phase))
goes good (ClaimWriter j l a) v w may =
    let won : View = record (after_asking v a) { claims = l ∷ v.claims; scans = without_first l v.scans } in
    let met : View = after_meeting (after_asking v a) l (w - 1) in
    either (w == 0) v won met (stays v won refl refl refl refl (runs v may.phase)) (stays v met refl refl refl refl (runs v may.phase))
goes good (ScanRow j l i) v w may =
    let clear : View = record v { scans = (l, i) ∷ v.scans } in let met : View = after_meeting v l i in
    either (bit_at w (l % 64) == 0) v clear met (stays v clear refl refl refl refl (runs v may.phase))
    (stays v met refl refl refl refl (runs v may.phase))
goes good (ReleaseWriter j l) v w may = stays v ((action_of (ReleaseWriter j l) v).view w) refl refl refl refl may.releases.release.begun
goes good (BeginCall j) v w may = (refl, refl, inr (inr (inl refl)))
goes good (LoadValue j a) v w may = stays v ((action_of (LoadValue j a) v).view w) refl refl refl refl (runs v may.phase)
goes good (StoreValue j a x) v w may = stays v ((action_of (StoreValue j a x) v).view w) refl refl refl refl (runs v may.phase)
goes good (UndoStore j a old) v w may = stays v ((action_of (UndoStore j a old) v).view w) refl refl refl refl (open_not v may.phase)
goes good (CommitCall j kept) v w may = stays v ((action_of (CommitCall j kept) v).view w) refl refl refl refl (attempt_not v may.phase)
goes good (ClearStamp j) v w may = (refl, refl, inr (inl (record { call = refl; rests = refl })))
goes good (DrawStamp j) v w may = (refl, refl, inr (inr (inr (record { call = refl; none = may.unstamped; runs = may.phase }))))
goes good (AnnounceStamp j) v w may = stays v ((action_of (AnnounceStamp j) v).view w) refl refl refl refl (runs v may.phase)
goes good (JudgeStamp j i) v w may = judging (judged i w v.stamp) v (without i v.met) (runs v may.phase)
goes good (LoadCauseStamp j i stamp) v w may =
    either (w == stamp) v (after_waiting v) (after_restarting v)
    (stays v (after_waiting v) refl refl refl refl (yields v may.phase)) (stays v (after_restarting v) refl refl refl refl (yields v may.phase))
goes good (LoadVersion j l) v w may = stays v ((action_of (LoadVersion j l) v).view w) refl refl refl refl (runs v may.phase)
goes good (StoreVersion j l x) v w may =
    stays v ((action_of (StoreVersion j l x) v).view w) refl refl refl refl (λ e. let z : Releasing ≡ Idle = sym may.stores.phase ∙ e in cc)

-- a view that may be cut is none of which this is known
cut_not : (j c s i : ℕ) (v : View) → MaySplitSeat i v → Keeps j c s v → ⊥
cut_not j c s i v may = ⊎_elim
    (λ t. let z : j ∷ [] ≡ i ∷ may.who.0 ∷ may.who.1 = sym t.0 ∙ may.who.2 in cc)
    (λ t. differ v.joined t may.unjoined)

module _ (good : List ℕ → Type 0) (j c s : ℕ) (some : 0 < s) where
  -- it is known of every view that has the number
  abbrev AllKeep : List View → Type 0
  AllKeep vs = (place : ℕ) (u : View) → Knows vs place u → has j u.who ≡ true → Keeps j c s u

  all_changed : (vs vs' : List View) (Touched : ℕ → Type 0) (IsNew : ℕ → View → Type 0) → Change vs vs' Touched IsNew
      → ((other : ℕ) (u : View) → IsNew other u → has j u.who ≡ true → Keeps j c s u) → AllKeep vs → AllKeep vs'
  all_changed vs vs' Touched IsNew change new old place u k named = ⊎_elim (λ t. new place u t named) (λ t. old place u t.1 named) (change.cases place u k)

  nobody : {A : Type 0} (u : View) → [] ≡ u.who → has j u.who ≡ true → A
  nobody u e named = absurd (differ (has j []) (subst (λ (l : List ℕ). has j l ≡ true) (sym e) named) (has-nil j))

  module _ (x y : TableState) (all : AllKeep x.views) where
    takes : TakesStep good x y → AllKeep y.views
    takes t =
        let w : View = view_after t.step t.view x in
        let on : GoesTo t.view w = goes good t.step t.view (found_by (action_of t.step t.view) x.words) t.may in
        subst AllKeep (sym t.views_are) (all_changed x.views (slice_set x.views t.place w) (StepTouches t.place)
        (NewByStep t.place w) (change_step x.views t.place w)
        (λ other u e named. subst (λ (z : View). Keeps j c s z) e.1 (keeps_step j c s t.view w some on
        (all t.place t.view t.knows (subst (λ (l : List ℕ). has j l ≡ true) on.0 (subst (λ (z : View). has j z.who ≡ true) (sym e.1) named))))) all)

    cuts : CutsSeat x y → AllKeep y.views
    cuts t =
        let v : View = t.view in
        let none : has j v.who ≡ true → ⊥ = λ named. cut_not j c s t.number v t.may (all t.place v t.knows named) in
        let own : number v ≡ t.number = ap (λ (l : List ℕ). slice_index l 0) t.may.who.2 in
        let first : has t.number v.who ≡ true =
        subst (λ (l : List ℕ). has t.number l ≡ true) (sym t.may.who.2) (has-join_same t.number (t.may.who.0 ∷ t.may.who.1)) in
        subst AllKeep (sym t.views_are)
        (all_changed x.views (slice_set x.views t.place (left_by_split v) ++ given_by_split v ∷ [])
        (StepTouches t.place) (NewByCut x.views t.place (left_by_split v) (given_by_split v))
        (change_cut x.views t.place (left_by_split v) (given_by_split v))
        (λ other u e named. ⊎_elim
        (λ g. absurd (none (subst (λ (i : ℕ). has i v.who ≡ true)
        (sym (has-one j (number v) (subst (λ (z : View). has j z.who ≡ true) (sym g.1) named) ∙ own)) first)))
        (λ l. absurd (none (has-without j (number v) v.who (subst (λ (z : View). has j z.who ≡ true) (sym l.1) named)).1)) e) all)

    notes : TakesNote x y → AllKeep y.views
    notes t = subst AllKeep (sym t.views_are)
        (all_changed x.views (slice_set x.views t.place (left_by_note t.view) ++ note_of t.view ∷ [])
        (StepTouches t.place) (NewByCut x.views t.place (left_by_note t.view) (note_of t.view))
        (change_cut x.views t.place (left_by_note t.view) (note_of t.view))
        (λ other u e named. ⊎_elim
        (λ g. nobody u (ap (λ (z : View). z.who) g.1) named)
        (λ l. subst (λ (z : View). Keeps j c s z) l.1 (all t.place t.view t.knows (subst (λ (z : View). has j z.who ≡ true) (sym l.1) named))) e) all)

    joined_by : (may : View → View → Type 0) (both : View → View → View) (t : Joins may both x y)
        → (has j (both t.view t.other_view).who ≡ true → Keeps j c s (both t.view t.other_view)) → AllKeep y.views
    joined_by may both t new = subst AllKeep (sym t.views_are)
        (all_changed x.views (slice_set (slice_set x.views t.place (both t.view t.other_view)) t.other spent_view)
        (JoinTouches t.place t.other) (NewByJoin t.place (both t.view t.other_view) t.other spent_view)
        (change_join x.views t.place t.other (both t.view t.other_view) spent_view)
        (λ other u e named. ⊎_elim
        (λ g. nobody u (ap (λ (z : View). z.who) g.1) named)
        (λ l. subst (λ (z : View). Keeps j c s z) l.1 (new (subst (λ (z : View). has j z.who ≡ true) (sym l.1) named))) e) all)

    steps_keep : Steps good x y → AllKeep y.views
    steps_keep = ⊎_elim takes (λ a. ⊎_elim cuts (λ b. ⊎_elim notes (λ d. ⊎_elim
        (λ t. joined_by MayMeetNote after_note t (λ named. all t.place t.view t.knows named))
        (λ t. joined_by MayJoinSeats after_joining t (λ named. inr refl)) d) b) a)

  some_same : (x y : TableState) → Some x ≡ Some y → x ≡ y
  some_same x y e = cc

  module _ (n : ℕ) (base : List ℕ) (run : List TableState) (r : IsRun good n base run) (p : ℕ) (x : TableState)
      (at : slice_get run p ≡ Some x) (all : AllKeep x.views) where
    at_once : (q : ℕ) (y : TableState) → p ≡ q → slice_get run q ≡ Some y → AllKeep y.views
    at_once q y e there = subst (λ (z : TableState). AllKeep z.views) (some_same x y (sym at ∙ (ap (λ (i : ℕ). slice_get run i) e ∙ there))) all

    kept_to : (q : ℕ) (y : TableState) → p ≤ q → slice_get run q ≡ Some y → AllKeep y.views
    kept_to zero y le there = at_once zero y (omega arith) there
    kept_to (suc q) y le there = dite (ℕ_discrete p (suc q))
        (λ e. at_once (suc q) y e there)
        (λ ne. let b = before run q y there in steps_keep b.0 y (kept_to q b.0 (omega arith) b.1) (r.next q b.0 y b.1 there))

pub stamps_are_kept : (good : List ℕ → Type 0) (n : ℕ) (base : List ℕ) → StampsAreKept good n base
stamps_are_kept good n base run p q j earlier later place there v w fine r at at_later le here kept single one some call busy =
    let sound = run_sound good n base run fine r p earlier at in
    let start : AllKeep good j v.call v.stamp some earlier.views = λ other u k t.
    let same = sound.locks.numbers_unique other place j u v (record { knows = k; named = t }) (record { knows = here; named = own_number v j single }) in
    subst (λ (z : View). Keeps j v.call v.stamp z) (sym (same_view earlier.views place other v u here k same)) (inl (single, inl (refl, refl))) in
    let sound_later = run_sound good n base run fine r q later at_later in
    ⊎_elim
    (λ t. ⊎_elim (λ a. a.1) (λ b. ⊎_elim (λ i. absurd (busy i.1)) (λ lt. absurd (omega (arith, call))) b) t.1)
    (λ t. absurd (differ w.joined t (sound_later.values.calls.alone_unjoined there j w kept one)))
    (kept_to good j v.call v.stamp some n base run r p earlier at start q later le at_later there w kept (own_number w j one))
