-- The kinds of step on timestamps keep the timestamp invariant.
use Rattle.stamps_rule.proofs.Common.{◌≡◌, ◌≢◌, ℕ, suc, ◌+◌, ◌<◌, ◌≤◌, Bool, true, false, ◌&&◌, ◌⊎◌, inl, inr, ⊎_elim, List, [], ◌∷◌, ◌++◌, Option, Some, None}
use Rattle.stamps_rule.proofs.Common.{if◌then◌else◌, slice_index, slice_set, refl, sym, ap, ◌∙◌, subst, arith, eq-eqb, ne_eqb, get_or-set_other}
use Rattle.stamps_rule.proofs.Common.{get_or-set_same, same_Some, dite, ℕ_discrete, Cause, View, IsIn, has, without, flag, Knows, clock_word, calls_word}
use Rattle.stamps_rule.proofs.Common.{stamps_word, differ, not_true, has-without, LocksHold, IsSeat, calls_below-same, own, past_causes, newest, older}
use Rattle.stamps_rule.proofs.Common.{pending_of, waited_of, KeepsStamps, is_idle, is_unstamped, shown_stamp, Shows, GoesAfter, AreSeatsDistinct, WasMet}
use Rattle.stamps_rule.proofs.Common.{StampsHold, MayDrawStamp, MayAnnounceStamp, MayJudgeStamp, MayLoadCauseStamp, draw_stamp_action, announce_stamp_action}
use Rattle.stamps_rule.proofs.Common.{judge_stamp_action, load_cause_stamp_action, judged, after_giving_way, after_waiting, after_restarting, after_judgement}
use Rattle.std.proofs.Common.{nat_lt}
use Rattle.std.proofs.lemmas.Bool.Decides.{leb_tells}
use Rattle.history_model.proofs.SetLemmas.{bool_cases}
use Rattle.stamps_rule.specs.Steps.{attempt_of}
use Rattle.stamps_rule.proofs.Asides.{words_unchanged, notes_same, stamps_kept, all_kept, causes_kept, causes_empty, waited_kept, earlier_kept, stands_aside}
use Rattle.stamps_rule.proofs.CauseLists.{newest_added, older_added, newest_last, past_added, in_added, waited_running, pending_yielding, waited_yielding}
use Rattle.stamps_rule.proofs.CauseLists.{empty_list, distinct_added}
use Rattle.stamps_rule.proofs.Counting.{unstamped_stamped, unstamped_running}
use Rattle.stamps_rule.proofs.Frames.{moves}
use Rattle.stamps_rule.proofs.LocksStand.{runs, yields}

hidden : (v : View) → v.announced ≡ false → shown_stamp v ≡ 0
hidden v e = ap (λ (b : Bool). if b then v.stamp else 0) e

-- who shows a number above 0 has this timestamp, and announced it
shows : (u : View) (x : ℕ) → x ≡ shown_stamp u → 0 < x → Shows u x
shows u x e some = ⊎_elim
    (λ (t : u.announced ≡ true). (sym (e ∙ ap (λ (b : Bool). if b then u.stamp else 0) t), t))
    (λ (t : u.announced ≡ false). let z = e ∙ hidden u t in absurd (omega arith))
    (bool_cases u.announced)

pub draw_stamp_stamps : (j : ℕ) → KeepsStamps (MayDrawStamp j) (draw_stamp_action j)
draw_stamp_stamps j n base ws vs id v h q me may =
    let o = own n base ws vs id j v h me may.who in
    let x : ℕ = slice_index ws clock_word + 1 in
    let w : View = record v { stamp = x; draws = v.draws + 1 } in
    let ws' : List ℕ = slice_set ws clock_word x in
    let here : slice_index ws' clock_word ≡ x = get_or-set_same ws clock_word x 0 (let count = h.word_count in omega arith) in
    let unshown : v.announced ≡ false = not_true v.announced (λ t. let some = q.shown.announced_stamped id v me t in let none = may.unstamped in omega arith) in
    let none : past_causes w ≡ [] = empty_list (past_causes v) (λ c t. let e =
    (q.grounds.earlier id v c me (runs v may.phase) t).1 in let zero = may.unstamped in omega arith) in
    moves n base ws ws' vs id v w h q me record {
      who = refl;
      stamps = record {
        own_word = λ l t. let seat : IsSeat vs id v l = record { knows = me; named = t } in
            get_or-set_other ws clock_word (stamps_word n l) x 0 (λ e. omega arith)
            ∙ (q.shown.words_show id l v seat ∙ (hidden v unshown ∙ sym (hidden w unshown)));
        other_word = λ l away lt. get_or-set_other ws clock_word (stamps_word n l) x 0 (λ e. omega arith);
        idle = λ e. absurd (runs v may.phase e);
        announced = λ t. omega arith;
        grows = omega arith;
        goes_on = inr (inr (omega arith, omega arith));
        drawn = omega arith;
        unnumbered = λ none. absurd (let z : [] ≡ j ∷ [] = sym none ∙ may.who in cc);
        counted =
            let sums = calls_below-same n n ws ws' (λ l lt. get_or-set_other ws clock_word (calls_word n l) x 0 (λ e. omega arith)) in
            let before = unstamped_running v may.phase may.unstamped in
            let after = unstamped_stamped w (omega arith) in
            omega arith;
      };
      causes = causes_empty n base ws vs id v h q me w none (λ l t. q.grounds.met_were_met id l v me t)
          (λ busy. (j, may.who));
    }

pub announce_stamp_stamps : (j : ℕ) → KeepsStamps (MayAnnounceStamp j) (announce_stamp_action j)
announce_stamp_stamps j n base ws vs id v h q me may =
    let o = own n base ws vs id j v h me may.who in
    let i : ℕ = stamps_word v.seats j in
    let w : View = record v { announced = true } in
    let ws' : List ℕ = slice_set ws i v.stamp in
    let place : i ≡ stamps_word n j = ap (λ (m : ℕ). stamps_word m j) o.seats in
    let here : slice_index ws' (stamps_word n j) ≡ v.stamp =
    subst (λ (k : ℕ). slice_index ws' k ≡ v.stamp) place (get_or-set_same ws i v.stamp 0 (let count =
    h.word_count in let below = o.below in omega arith)) in
    moves n base ws ws' vs id v w h q me record {
      who = refl;
      stamps = record {
        own_word = λ l t. subst (λ (k : ℕ). slice_index ws' (stamps_word n k) ≡ v.stamp) (sym (o.is l t)) here;
        other_word = λ l away lt. get_or-set_other ws i (stamps_word n l) v.stamp 0 (λ e. o.away l away (omega arith));
        idle = λ e. absurd (runs v may.phase e);
        announced = λ t. may.stamped;
        grows = let same = get_or-set_other ws i clock_word v.stamp 0 (λ e. omega arith) in omega arith;
        goes_on = inr (inl (refl, λ t. refl));
        drawn = let same = get_or-set_other ws i clock_word v.stamp 0 (λ e. omega arith) in omega arith;
        unnumbered = λ none. refl;
        counted =
            let same = get_or-set_other ws i clock_word v.stamp 0 (λ e. omega arith) in
            let sums = calls_below-same n n ws ws' (λ l lt. get_or-set_other ws i (calls_word n l) v.stamp 0 (λ e. omega arith)) in
            let flags : flag (is_unstamped w) ≡ flag (is_unstamped v) = refl in
            omega arith;
      };
      causes = all_kept n base ws vs id v h q me w record {
        who = refl;
        joined = refl;
        causes = refl;
        busy = λ busy. busy;
        notes = notes_same v w refl refl;
      } refl refl refl;
    }

-- a seat that showed a number is a cause, or is none
judged_cases : (i shown stamp : ℕ) → (judged i shown stamp ≡ None)
    ⊎ ((judged i shown stamp ≡ Some (record { seat = i; stamp = shown })) × (0 < shown) × (shown < stamp))
judged_cases i shown stamp =
    let found : Option Cause = Some (record { seat = i; stamp = shown }) in
    ⊎_elim
    (λ (a : (nat_lt 0 shown ≡ true) × (1 ≤ shown)). ⊎_elim
    (λ (b : (nat_lt shown stamp ≡ true) × (suc shown ≤ stamp)). let low = a.1 in let high = b.1 in
    inr (ap (λ (t : Bool). if t && nat_lt shown stamp then found else None) a.0 ∙ ap (λ (t : Bool). if t then found else None) b.0, omega arith, omega arith))
    (λ (b : (nat_lt shown stamp ≡ false) × (stamp < suc shown)). inl
    (ap (λ (t : Bool). if t && nat_lt shown stamp then found else None) a.0 ∙ ap (λ (t : Bool). if t then found else None) b.0))
    (leb_tells (suc shown) stamp))
    (λ (a : (nat_lt 0 shown ≡ false) × (shown < 1)). inl (ap (λ (t : Bool). if t && nat_lt shown stamp then found else None) a.0))
    (leb_tells 1 shown)

module _ (n : ℕ) (base ws : List ℕ) (vs : List View) (id j i : ℕ) (v : View) (h : LocksHold n base ws vs)
    (q : StampsHold n ws vs) (me : Knows vs id v) (may : MayJudgeStamp j i v) where
  abbrev found : ℕ
  found = slice_index ws (stamps_word v.seats i)

  abbrev the_cause : Cause
  the_cause = record { seat = i; stamp = found }

  abbrev passes : View
  passes = record v { met = without i v.met }

  abbrev yielding : View
  yielding = after_giving_way the_cause passes

  other_seat : (i < n) × (has i v.who ≡ false)
  other_seat = h.met_are_others id i v me may.met

  -- what the word found shows of the seat that was met
  shown_there : (other : ℕ) (u : View) → IsSeat vs other u i → found ≡ shown_stamp u
  shown_there other u s = ap (λ (m : ℕ). slice_index ws (stamps_word m i)) (own n base ws vs id j v h me may.who).seats ∙ q.shown.words_show other i u s

  met_before : (l : ℕ) → has l (without i v.met) ≡ true → has l v.met ≡ true
  met_before l t = (has-without l i v.met t).1

  -- the seat was not waited for before
  not_waited : 0 < found → found < v.stamp → (d : Cause) → IsIn d (past_causes v) → d.seat ≢ i
  not_waited some earlier d t e =
      let p = h.numbers_placed i other_seat.0 in
      let s = shows p.1 found (shown_there p.0 p.1 p.2) some in
      let a = q.waited.waited_out id p.0 v p.1 d me
      (subst (λ (l : List Cause). IsIn d l) (sym (waited_running v may.phase)) t) (subst (λ (l : ℕ). IsSeat vs p.0 p.1 l) (sym e) p.2) in
      let has_stamp = s.0 in
      ⊎_elim (λ (z : p.1.stamp ≡ 0). omega arith) (λ (z : v.stamp < p.1.stamp). omega arith) a

  past : past_causes yielding ≡ past_causes v ++ the_cause ∷ []
  past = past_added v.abandoned (attempt_of the_cause passes)

  cause_cases : (d : Cause) → IsIn d (past_causes yielding) → IsIn d (past_causes v) ⊎ (the_cause ≡ d)
  cause_cases d t = in_added (past_causes v) the_cause d (subst (λ (l : List Cause). IsIn d l) past t)

  waited : waited_of yielding ≡ waited_of v
  waited = ap older past ∙ (older_added (past_causes v) the_cause ∙ sym (waited_running v may.phase))

  pending : pending_of yielding ≡ Some the_cause
  pending = ap newest past ∙ newest_added (past_causes v) the_cause

  judge_finds : 0 < found → found < v.stamp → StampsHold n (slice_set ws (stamps_word v.seats i) found) (slice_set vs id yielding)
  judge_finds some earlier = moves n base ws (slice_set ws (stamps_word v.seats i) found) vs id v yielding h q me record {
    who = refl;
    stamps = stamps_kept n base ws vs id v h q me yielding (slice_set ws (stamps_word v.seats i) found)
        (words_unchanged n ws (stamps_word v.seats i)) refl refl refl (sym (ap is_idle may.phase));
    causes = record {
      waited = waited_kept n base ws vs id v h q me yielding refl waited;
      pending = λ other u d s ne t.
          let is : the_cause ≡ d = same_Some the_cause d (sym pending ∙ t) in
          subst (λ (c : Cause). Shows u c.stamp ⊎ GoesAfter u v.stamp) is
          (inl (shows u found (shown_there other u (subst (λ (c : Cause). IsSeat vs other u c.seat) (sym is) s)) some));
      distinct = subst (λ (l : List Cause). AreSeatsDistinct l) (sym past)
          (distinct_added (past_causes v) the_cause (q.seats.distinct id v me) (not_waited some earlier));
      earlier = λ d busy t. ⊎_elim
          (λ z. q.grounds.earlier id v d me (runs v may.phase) z)
          (λ z. subst (λ (c : Cause). (0 < c.stamp) × (c.stamp < v.stamp)) z (some, earlier)) (cause_cases d t);
      elsewhere = λ l d single t. ⊎_elim
          (λ z. q.grounds.elsewhere id l v d me single z)
          (λ z. subst (λ (c : Cause). (c.seat < n) × (c.seat ≢ l)) z (
            other_seat.0,
            λ e. differ (has i v.who)
                (subst (λ (k : ℕ). has k v.who ≡ true) (sym e) (own n base ws vs id l v h me single).seat.named) other_seat.1,
          )) (cause_cases d t);
      were_met = λ d t. ⊎_elim
          (λ z. q.grounds.were_met id v d me z)
          (λ z. subst (λ (c : Cause). WasMet v c.seat) z (q.grounds.met_were_met id i v me may.met)) (cause_cases d t);
      met_were_met = λ l t. q.grounds.met_were_met id l v me (met_before l t);
      alone = λ busy. (j, may.who);
      dealers = λ a b ta tb ne un. let o = own n base ws vs id j v h me may.who in absurd (ne (o.is a ta ∙ sym (o.is b tb)));
    };
  }

  judge_passes : StampsHold n (slice_set ws (stamps_word v.seats i) found) (slice_set vs id passes)
  judge_passes = stands_aside n base ws vs id v h q me passes (stamps_word v.seats i) found (words_unchanged n ws (stamps_word v.seats i)) record {
    who = refl;
    joined = refl;
    stamp = refl;
    announced = refl;
    draws = refl;
    abandoned = refl;
    idle = refl;
    yielding = refl;
    notes = record { met = λ l t. inl (met_before l t); meetings = λ k l t. t };
  }

  judge_keeps : StampsHold n (slice_set ws (stamps_word v.seats i) found) (slice_set vs id (after_judgement (judged i found v.stamp) passes))
  judge_keeps =
      let Stands : Option Cause → Type 0 = λ o. StampsHold n (slice_set ws (stamps_word v.seats i) found) (slice_set vs id (after_judgement o passes)) in
      ⊎_elim (λ t. subst Stands (sym t) judge_passes) (λ t. subst Stands (sym t.0) (judge_finds t.1 t.2)) (judged_cases i found v.stamp)

pub judge_stamp_stamps : (j i : ℕ) → KeepsStamps (MayJudgeStamp j i) (judge_stamp_action j i)
judge_stamp_stamps j i n base ws vs id v h q me may = judge_keeps n base ws vs id j i v h q me may

-- the cause is still there
waits_on : (n : ℕ) (base ws : List ℕ) (vs : List View) (id i : ℕ) (v : View) → LocksHold n base ws vs → StampsHold n ws vs → Knows vs id v
    → StampsHold n (slice_set ws i (slice_index ws i)) (slice_set vs id (after_waiting v))
waits_on n base ws vs id i v h q me = stands_aside n base ws vs id v h q me (after_waiting v) i (slice_index ws i) (words_unchanged n ws i) record {
  who = refl;
  joined = refl;
  stamp = refl;
  announced = refl;
  draws = refl;
  abandoned = refl;
  idle = refl;
  yielding = refl;
  notes = notes_same v (after_waiting v) refl refl;
}

-- the cause is gone
restarts : (n : ℕ) (base ws : List ℕ) (vs : List View) (id j i stamp : ℕ) (v : View) → LocksHold n base ws vs
    → StampsHold n ws vs → Knows vs id v → MayLoadCauseStamp j i stamp v
    → slice_index ws (stamps_word v.seats i) ≢ stamp
    → StampsHold n (slice_set ws (stamps_word v.seats i) (slice_index ws (stamps_word v.seats i))) (slice_set vs id (after_restarting v))
restarts n base ws vs id j i stamp v h q me may other_stamp =
    let o = own n base ws vs id j v h me may.who in
    let c : Cause = record { seat = i; stamp = stamp } in
    let w : View = after_restarting v in
    let at : ℕ = stamps_word v.seats i in
    let ws' : List ℕ = slice_set ws at (slice_index ws at) in
    let place : slice_index ws at ≡ slice_index ws (stamps_word n i) = ap (λ (m : ℕ). slice_index ws (stamps_word m i)) o.seats in
    let pending : pending_of v ≡ Some c = pending_yielding v may.phase ∙ may.last in
    -- the seat no longer shows that timestamp
    let after : (other : ℕ) (u : View) → IsSeat vs other u i → GoesAfter u v.stamp = λ other u s. ⊎_elim
    (λ (t : Shows u stamp). absurd (other_stamp (place ∙ (q.shown.words_show other i u s ∙ (ap (λ (b : Bool). if b then u.stamp else 0) t.1 ∙ t.0)))))
    (λ (t : GoesAfter u v.stamp). t)
    (q.pending.stands id other v u c me pending s) in
    moves n base ws ws' vs id v w h q me record {
      who = refl;
      stamps = stamps_kept n base ws vs id v h q me w ws' (words_unchanged n ws at) refl refl refl (sym (ap is_idle may.phase));
      causes = causes_kept n base ws vs id v h q me w record {
        who = refl;
        joined = refl;
        causes = refl;
        busy = λ busy. yields v may.phase;
        notes = notes_same v w refl refl;
      }
          (λ other u d s ne t. ⊎_elim
          (λ old. q.waited.waited_out id other v u d me (subst (λ (l : List Cause). IsIn d l) (sym (waited_yielding v may.phase)) old) s)
          (λ is. after other u (subst (λ (e : Cause). IsSeat vs other u e.seat) (sym is) s))
          (in_added (older (past_causes v)) c d (subst (λ (l : List Cause). IsIn d l) (newest_last (past_causes v) c may.last) t)))
          (λ other u d s ne t. absurd (let z : None ≡ Some d = t in cc))
          (earlier_kept n base ws vs id v h q me w refl refl (λ busy. yields v may.phase));
    }

pub load_cause_stamp_stamps : (j i stamp : ℕ) → KeepsStamps (MayLoadCauseStamp j i stamp) (load_cause_stamp_action j i stamp)
load_cause_stamp_stamps j i stamp n base ws vs id v h q me may =
    let at : ℕ = stamps_word v.seats i in
    let x : ℕ = slice_index ws at in
    let P : Bool → Type 0 = λ b. StampsHold n (slice_set ws at x) (slice_set vs id (if b then after_waiting v else after_restarting v)) in
    dite (ℕ_discrete x stamp)
    (λ e. subst P (sym (eq-eqb x stamp e)) (waits_on n base ws vs id at v h q me))
    (λ ne. subst P (sym (ne_eqb x stamp ne)) (restarts n base ws vs id j i stamp v h q me may ne))
