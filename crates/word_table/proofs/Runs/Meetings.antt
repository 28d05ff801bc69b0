-- In every state of every run: who meets whom, and what holds of each call.
use Rattle.word_table.proofs.Common.{◌≡◌, ◌≢◌, ⊎_elim, ℕ, ◌+◌, ◌-◌, ◌%◌, ◌<◌, ◌≤◌, Bool, true, false, List, [], ◌∷◌, ◌++◌, length, Option, Some, None}
use Rattle.word_table.proofs.Common.{slice_index, refl, sym, ap, ◌∙◌, subst, arith, eq-eqb, ne_eqb, ◌==◌, if◌then◌else◌, bit_at, dite, ℕ_discrete, LOCKS, Cause}
use Rattle.word_table.proofs.Common.{View, IsAt, has, without, without_first, TableState, Knows, stamps_word, row_word, writer_word, same_view, has-join_same}
use Rattle.word_table.proofs.Common.{LocksHold, AskedFor, is_free, after_asking, after_meeting, is_own, lock_near, free_cases, judged, after_judgement}
use Rattle.word_table.proofs.Common.{after_waiting, after_restarting, restarts_bounded, place, Step, SetReadBit, ClearReadBit, LoadWriter, ClaimWriter, ScanRow}
use Rattle.word_table.proofs.Common.{ReleaseWriter, BeginCall, LoadValue, StoreValue, UndoStore, CommitCall, ClearStamp, DrawStamp, AnnounceStamp, JudgeStamp}
use Rattle.word_table.proofs.Common.{LoadCauseStamp, LoadVersion, StoreVersion, May, IsReached, view_after, StandsElsewhere, IsSound}
use Rattle.std.proofs.lemmas.List.{append_cancel_left, length_push}
use Rattle.history_model.specs.Conflicts.{Meets}
use Rattle.locks_rule.specs.Steps.{MayLoadWriter, MayClaimWriter, MayScanRow}
use Rattle.word_table.specs.Meetings.{MeetsInConflict, NeverMeetsApart, RestartsFew, ReadsOneState, IsArranged}
use Rattle.word_table.proofs.Calls.Found.{StandsIn, claimant_found, not_own_found, reader_found}
use Rattle.word_table.proofs.Runs.RunLaws.{run_sound}

-- who asked for the lock meets a seat that stands on it
abbrev InConflict : List View → ℕ → View → ℕ → ℕ → Type 0
InConflict vs place new k i = AskedFor new k × StandsElsewhere vs place k i

-- a step after which there are no more meetings meets nobody
no_more : (v w : View) (k i : ℕ) → length w.meetings ≤ length v.meetings → ¬ Meets v w k i
no_more v w k i few m =
    let long : length w.meetings ≡ length (v.meetings ++ (k, i) ∷ []) = ap (λ (l : List (ℕ × ℕ)). length l) m.1 in
    let more : length (v.meetings ++ (k, i) ∷ []) ≡ length v.meetings + 1 = length_push v.meetings (k, i) in omega arith

-- if they are as they were, or none
nobody : (v w : View) (k i : ℕ) → w.meetings ≡ v.meetings → ¬ Meets v w k i
nobody v w k i same = let long : length w.meetings ≡ length v.meetings = ap (λ (l : List (ℕ × ℕ)). length l) same in no_more v w k i (omega arith)

nobody_yet : (v w : View) (k i : ℕ) → w.meetings ≡ [] → ¬ Meets v w k i
nobody_yet v w k i none = let long : length w.meetings ≡ 0 = ap (λ (l : List (ℕ × ℕ)). length l) none in no_more v w k i (omega arith)

-- one after which one meeting more is noted meets this seat on this lock
this_one : (v m : View) (l x k i : ℕ) → m.meetings ≡ v.meetings → Meets v (after_meeting m l x) k i → (l ≡ k) × (x ≡ i)
this_one v m l x k i same t =
    let e : v.meetings ++ (l, x) ∷ [] ≡ v.meetings ++ (k, i) ∷ [] = ap (λ (ms : List (ℕ × ℕ)). ms ++ (l, x) ∷ []) (sym same) ∙ t.1 in
    let one : (l, x) ∷ [] ≡ (k, i) ∷ [] = append_cancel_left v.meetings ((l, x) ∷ []) ((k, i) ∷ []) e in
    let pair : (l, x) ≡ (k, i) = cc in (ap (λ (p : ℕ × ℕ). p.0) pair, ap (λ (p : ℕ × ℕ). p.1) pair)

judgement_meets : (verdict : Option Cause) (v : View) → (after_judgement verdict v).meetings ≡ v.meetings
judgement_meets None v = refl
judgement_meets (Some c) v = refl

-- by whether a number is 0
by_zero : (w : ℕ) (P : Bool → Type 0) → P true → (w ≢ 0 → P false) → P (w == 0)
by_zero w P none other = dite (ℕ_discrete w 0)
    (λ e. subst P (sym (eq-eqb w 0 e)) none)
    (λ n. subst P (sym (ne_eqb w 0 n)) (other n))

waiting_meets : (b : Bool) (v : View) → (if b then after_waiting v else after_restarting v).meetings ≡ v.meetings
waiting_meets true v = refl
waiting_meets false v = refl

module _ (n : ℕ) (base ws : List ℕ) (vs : List View) (id : ℕ) (v : View) (h : LocksHold n base ws vs) (me : Knows vs id v) (k i : ℕ) where
  elsewhere : (j : ℕ) → v.who ≡ j ∷ [] → i ≢ j → (l : ℕ) → l ≡ k → StandsIn vs l i → StandsElsewhere vs id k i
  elsewhere j single other l here s = record {
    other = s.0;
    view = s.1;
    elsewhere = λ e. other (is_own v j i single (subst (λ (u : View). has i u.who ≡ true) (same_view vs id s.0 v s.1 me s.2 e) s.3.named));
    knows = s.2;
    stands = subst (λ (y : ℕ). IsAt s.1 y i) here s.3;
  }

  load_writer_meets : (j l a : ℕ) → MayLoadWriter j l a v → (w : ℕ) → slice_index ws (writer_word v.seats l) ≡ w
      → Meets v (if is_free j w then record (after_asking v a) { reads = l ∷ v.reads } else after_meeting (after_asking v a) l (w - 1)) k i
      → InConflict vs id (if is_free j w then record (after_asking v a) { reads = l ∷ v.reads } else after_meeting (after_asking v a) l (w - 1)) k i
  load_writer_meets j l a may w is =
      let free : View = record (after_asking v a) { reads = l ∷ v.reads } in
      let met : View = after_meeting (after_asking v a) l (w - 1) in
      let P : Bool → Type 0 = λ b. Meets v (if b then free else met) k i → InConflict vs id (if b then free else met) k i in
      let near : l < LOCKS = let lock : a % 1024 ≡ l = may.lock in omega arith in
      ⊎_elim
      (λ t. subst P (sym t.1) (λ m. absurd (nobody v free k i refl m)))
      (λ t. subst P (sym t.2) (λ m. let one = this_one v (after_asking v a) l (w - 1) k i refl m in
      let nonzero : w ≢ 0 = t.0 in let last : w - 1 ≡ i = one.1 in let next : w ≡ i + 1 = omega arith in let no = t.1 in (
        (a, has-join_same a v.asked, may.lock ∙ one.0),
        elsewhere j may.who (λ e. no (omega arith)) l one.0 (claimant_found n base ws vs id v j l h me may.who near w i is next).1,
      )))
      (free_cases j w)

  claim_writer_meets : (j l a : ℕ) → MayClaimWriter j l a v → (w : ℕ) → slice_index ws (writer_word v.seats l) ≡ w
      → Meets v (if w == 0 then record (after_asking v a) { claims = l ∷ v.claims; scans = without_first l v.scans }
      else after_meeting (after_asking v a) l (w - 1)) k i
      → InConflict vs id (if w == 0 then record (after_asking v a) {
        claims = l ∷ v.claims;
        scans =
            without_first l v.scans;
      } else after_meeting (after_asking v a) l (w - 1)) k i
  claim_writer_meets j l a may w is =
      let claimed : View = record (after_asking v a) { claims = l ∷ v.claims; scans = without_first l v.scans } in
      let met : View = after_meeting (after_asking v a) l (w - 1) in
      let near : l < LOCKS = let lock : a % 1024 ≡ l = may.lock in omega arith in
      by_zero w (λ b. Meets v (if b then claimed else met) k i → InConflict vs id (if b then claimed else met) k i)
      (λ m. absurd (nobody v claimed k i refl m))
      (λ nonzero m. let one = this_one v (after_asking v a) l (w - 1) k i refl m in
      let last : w - 1 ≡ i = one.1 in let next : w ≡ i + 1 = omega arith in
      let other : w ≢ j + 1 = not_own_found n base ws vs id v j l h me may.who near w is may.no_claim in (
        (a, has-join_same a v.asked, may.lock ∙ one.0),
        elsewhere j may.who (λ e. other (omega arith)) l one.0 (claimant_found n base ws vs id v j l h me may.who near w i is next).1,
      ))

  scan_row_meets : (j l x : ℕ) → MayScanRow j l x v → (w : ℕ) → slice_index ws (row_word v.seats x l) ≡ w
      → Meets v (if bit_at w (l % 64) == 0 then record v { scans = (l, x) ∷ v.scans } else after_meeting v l x) k i
      → InConflict vs id (if bit_at w (l % 64) == 0 then record v { scans = (l, x) ∷ v.scans } else after_meeting v l x) k i
  scan_row_meets j l x may w is =
      let clear : View = record v { scans = (l, x) ∷ v.scans } in let met : View = after_meeting v l x in
      by_zero (bit_at w (l % 64)) (λ b. Meets v (if b then clear else met) k i → InConflict vs id (if b then clear else met) k i)
      (λ m. absurd (nobody v clear k i refl m))
      (λ set m. let asked : AskedFor v l = h.claims_were_asked id l v me may.claim in
      let one = this_one v v l x k i refl m in
      let stands : StandsIn vs l x = reader_found n base ws vs id v j l h me may.who (lock_near v l asked) x w may.seat is set in
      ((asked.0, asked.1, asked.2 ∙ one.0), elsewhere j may.who (λ e. may.other (one.1 ∙ e)) l one.0 (subst (λ (y : ℕ). StandsIn vs l y) one.1 stands)))

  -- what the seat knows after the step
  abbrev now : Step → View
  now st = view_after st v (record { words = ws; views = vs })

  meets : (good : List ℕ → Type 0) (st : Step) → May good st v → Meets v (now st) k i → InConflict vs id (now st) k i
  meets good (SetReadBit j l a) may m = absurd (nobody v (now (SetReadBit j l a)) k i refl m)
  meets good (ClearReadBit j l) may m = absurd (nobody v (now (ClearReadBit j l)) k i refl m)
  meets good (LoadWriter j l a) may m = load_writer_meets j l a may (slice_index ws (writer_word v.seats l)) refl m
  meets good (ClaimWriter j l a) may m = claim_writer_meets j l a may (slice_index ws (writer_word v.seats l)) refl m
  meets good (ScanRow j l x) may m = scan_row_meets j l x may (slice_index ws (row_word v.seats x l)) refl m
  meets good (ReleaseWriter j l) may m = absurd (nobody v (now (ReleaseWriter j l)) k i refl m)
  meets good (BeginCall j) may m = absurd (nobody_yet v (now (BeginCall j)) k i refl m)
  meets good (LoadValue j a) may m = absurd (nobody v (now (LoadValue j a)) k i refl m)
  meets good (StoreValue j a x) may m = absurd (nobody v (now (StoreValue j a x)) k i refl m)
  meets good (UndoStore j a old) may m = absurd (nobody v (now (UndoStore j a old)) k i refl m)
  meets good (CommitCall j kept) may m = absurd (nobody v (now (CommitCall j kept)) k i refl m)
  meets good (ClearStamp j) may m = absurd (nobody v (now (ClearStamp j)) k i refl m)
  meets good (DrawStamp j) may m = absurd (nobody v (now (DrawStamp j)) k i refl m)
  meets good (AnnounceStamp j) may m = absurd (nobody v (now (AnnounceStamp j)) k i refl m)
  meets good (JudgeStamp j x) may m = absurd (nobody v (now (JudgeStamp j x)) k i
      (judgement_meets (judged x (slice_index ws (stamps_word v.seats x)) v.stamp) (record v { met = without x v.met })) m)
  meets good (LoadCauseStamp j x stamp) may m =
      absurd (nobody v (now (LoadCauseStamp j x stamp)) k i (waiting_meets (slice_index ws (stamps_word v.seats x) == stamp) v) m)
  meets good (LoadVersion j l) may m = absurd (nobody v (now (LoadVersion j l)) k i refl m)
  meets good (StoreVersion j l x) may m = absurd (nobody v (now (StoreVersion j l x)) k i refl m)

module _ (good : List ℕ → Type 0) (n : ℕ) (base : List ℕ) where
  pub reached_sound : (s : TableState) → IsReached good n base s → IsSound good n base s.words s.views
  reached_sound s r = run_sound good n base r.run r.base_good r.runs r.at s r.stands

  pub meets_in_conflict : MeetsInConflict good n base
  meets_in_conflict s id st v w k i r t m =
      subst (λ (u : View). AskedFor u k × StandsElsewhere s.views id k i) (sym t.reached)
      (meets n base s.words s.views id v (reached_sound s r).locks t.knows k i good st t.may (subst (λ (u : View). Meets v u k i) t.reached m))

  pub never_meets_apart : NeverMeetsApart good n base
  never_meets_apart s id st v w other u k i r t seat apart m =
      let c = meets_in_conflict s id st v w k i r t m in let at = c.1 in
      let h : LocksHold n base s.words s.views = (reached_sound s r).locks in
      let place : at.other ≡ other = h.numbers_unique at.other other i at.view u (record { knows = at.knows; named = at.stands.named }) seat in
      let same : at.view ≡ u = same_view s.views other at.other u at.view seat.knows at.knows place in
      let asked = at.stands.asked in
      apart c.0.0 asked.0 c.0.1 (subst (λ (x : View). has asked.0 x.asked ≡ true) same asked.1) (c.0.2 ∙ sym asked.2)

  pub restarts_few : RestartsFew good n base
  restarts_few s id j v r me single = let h = reached_sound s r in restarts_bounded n base s.words s.views id j v h.locks h.stamps me single

  pub reads_one_state : ReadsOneState good n base
  reads_one_state s order p x r arranged at = let h = reached_sound s r in place good n base s.words s.views h.locks h.values order arranged p x at

  pub is_arranged : IsArranged good n base
  is_arranged s r = let h = reached_sound s r in (h.values.items.order, h.values.items.arranged)
