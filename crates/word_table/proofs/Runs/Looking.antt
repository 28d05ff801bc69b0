-- A look that leaves an attempt as it was is a wait: a judgement of a seat that stands on the lock if it was met, and a
-- look at a cause.
use Rattle.word_table.proofs.Common.{◌≡◌, ℕ, Bool, true, inl, inr, ⊎_elim, List, [], ◌∷◌, Option, slice_index, ◌==◌, ne_eqb, if◌then◌else◌, refl, sym, ap, ◌∙◌}
use Rattle.word_table.proofs.Common.{subst, dite, ℕ_discrete, Cause, View, Running, Yielding, has, has_pair, without, TableState, Knows, stamps_word, number}
use Rattle.word_table.proofs.Common.{differ, same_view, LocksHold, own_number, MayJudgeStamp, MayLoadCauseStamp, judged, after_judgement, after_waiting}
use Rattle.word_table.proofs.Common.{after_restarting, load_cause_stamp_action, Judged, JudgedBy, judged_of, TakenIn, StandsElsewhere, IsSound, WaitsAtLock}
use Rattle.word_table.proofs.Common.{WaitsForCause, FoundWait, WaitedForCause}
use Rattle.word_table.specs.Waits.{LooksAreWaits}
use Rattle.word_table.proofs.Calls.Judging.{yield_due, judged_cases, judged_waits}
use Rattle.word_table.proofs.Runs.Ending.{stands}
use Rattle.word_table.proofs.Runs.Meetings.{reached_sound}
use Rattle.word_table.specs.declared.answer.Judged.TheVariants as answer

module _ (n : ℕ) (base : List ℕ) (s : TableState) (h : LocksHold n base s.words s.views) (place i j : ℕ) (v : View) (me : Knows s.views place v) where
  -- what the seat looks at is of this table
  shows : (P : ℕ → Type 0) → v.who ≡ i ∷ [] → P (slice_index s.words (stamps_word v.seats j)) → P (slice_index s.words (stamps_word n j))
  shows P single t = subst (λ (m : ℕ). P (slice_index s.words (stamps_word m j)))
      (h.seats_alike place i v (record { knows = me; named = own_number v i single })) t

  waits_at_lock : (k : ℕ) → MayJudgeStamp i j v → judged_of (slice_index s.words (stamps_word v.seats j)) v.stamp ≡ answer.Wait
      → has_pair k j v.meetings ≡ true → StandsElsewhere s.views place k j → WaitsAtLock n s i j
  waits_at_lock k may waits met stands = record {
    place = place;
    view = v;
    knows = me;
    who = may.who;
    phase = may.phase;
    announced = may.announced;
    lock = k;
    met = met;
    stands = stands;
    answer = shows (λ x. judged_of x v.stamp ≡ answer.Wait) may.who waits;
  }

  waits_for_cause : (stamp : ℕ) → MayLoadCauseStamp i j stamp v → slice_index s.words (stamps_word v.seats j) ≡ stamp → WaitsForCause n s i j
  waits_for_cause stamp may same = record {
    place = place;
    view = v;
    knows = me;
    stamp = stamp;
    may = may;
    shown = shows (λ x. x ≡ stamp) may.who same;
  }

running_yields : Yielding ≡ Running → ⊥
running_yields e = cc

-- the attempt goes on if judge answers Wait
judged_on : (j shown : ℕ) (v : View) → (after_judgement (judged j shown v.stamp) (record v { met = without j v.met })).phase ≡ Running
    → judged_of shown v.stamp ≡ answer.Wait
judged_on j shown v runs = ⊎_elim
    (λ e. e)
    (λ t. absurd (let y = yield_due j shown v.stamp t.0 t.1 in
    running_yields (sym (ap (λ (o : Option Cause). (after_judgement o (record v { met = without j v.met })).phase) y.0) ∙ runs)))
    (judged_cases (judged_of shown v.stamp))

-- it gives way on if its cause shows the same
looked_on : (shown stamp : ℕ) (v : View) → (if shown == stamp then after_waiting v else after_restarting v).phase ≡ Yielding → shown ≡ stamp
looked_on shown stamp v yields = dite (ℕ_discrete shown stamp)
    (λ e. e)
    (λ ne. absurd (running_yields (sym yields ∙ ap (λ (b : Bool). (if b then after_waiting v else after_restarting v).phase) (ne_eqb shown stamp ne))))

module _ (good : List ℕ → Type 0) (n : ℕ) (base : List ℕ) where
  pub looks_are_waits : LooksAreWaits good n base
  looks_are_waits s place i j v w r = let h = (reached_sound good n base s r).locks in (
    (λ k t runs met at. inl (waits_at_lock n base s h place i j v t.knows k t.may
        (judged_on j (slice_index s.words (stamps_word v.seats j)) v (subst (λ (u : View). u.phase ≡ Running) t.reached runs)) met at)),
    (λ stamp t yields. inr (waits_for_cause n base s h place i j v t.knows stamp t.may
        (looked_on (slice_index s.words (stamps_word v.seats j)) stamp v (subst (λ (u : View). u.phase ≡ Yielding) t.reached yields)))),
  )

  module _ (v : View) where
    -- who judged a seat that it met on lock k, and waits
    pub found_wait : (k j : ℕ) (r : Judged) (w : View) → JudgedBy (IsSound good n base) v j r w → MayJudgeStamp (number v) j v → r ≡ answer.Wait
        → has_pair k j v.meetings ≡ true → FoundWait (IsSound good n base) n k j w
    found_wait k j r w d may e met =
        let t = d.taken in let s : TableState = record { words = t.words; views = t.views } in
        let other = t.holds.locks.met_are_others t.place j v t.knows may.met in
        subst (λ (u : View). FoundWait (IsSound good n base) n k j u) (sym (judged_waits good n base v j r w d may e)) record {
          words = t.words;
          views = t.views;
          place = t.place;
          seat = v;
          holds = t.holds;
          knows = t.knows;
          in_call = record { who = refl; call = refl; seen = refl; abandoned = refl };
          found = dite (stands n base s t.holds.locks t.holds.stamps (number v) t.place v t.knows may.who j k other.0)
              (λ at. inl (inl (waits_at_lock n base s t.holds.locks t.place (number v) j v t.knows k may
              (ap (λ (x : ℕ). judged_of x v.stamp) t.found_is ∙ (sym d.answer ∙ e)) met at)))
              (λ off. inr (λ place u knows at. dite (ℕ_discrete place t.place)
              (λ here. differ (has j v.who)
              (subst (λ (x : View). has j x.who ≡ true) (same_view t.views t.place place v u t.knows knows here) at.named) other.1)
              (λ elsewhere. off (record { other = place; view = u; elsewhere = elsewhere; knows = knows; stands = at }))));
        }

    -- who looked at its cause, and found it there
    pub waited_for_cause : (cause : Cause) (found : ℕ) (w : View)
        → TakenIn (IsSound good n base) (load_cause_stamp_action (number v) cause.seat cause.stamp v) v found w
        → MayLoadCauseStamp (number v) cause.seat cause.stamp v → found ≡ cause.stamp → WaitedForCause (IsSound good n base) n cause v
    unfolding waits_for_cause
    waited_for_cause cause found w t may same =
        let s : TableState = record { words = t.words; views = t.views } in record {
          words = t.words;
          views = t.views;
          holds = t.holds;
          wait = waits_for_cause n base s t.holds.locks t.place (number v) cause.seat v t.knows cause.stamp may (t.found_is ∙ same);
          knew = refl;
          shown = refl;
        }
