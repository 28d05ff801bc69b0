-- What judge comes to: it gives way exactly if the other seat shows an earlier timestamp, and the attempt's cause is that.
use Rattle.word_table.proofs.Common.{◌≡◌, ℕ, suc, ◌<◌, ◌≤◌, Bool, true, false, ◌&&◌, ◌⊎◌, inl, inr, ⊎_elim, List, Option, Some, None, if◌then◌else◌, refl, sym}
use Rattle.word_table.proofs.Common.{ap, ◌∙◌, subst, arith, Cause, View, without, number, put_here, Action, found_by, words_after, views_after, newest}
use Rattle.word_table.proofs.Common.{past_causes, AreRestartsBounded, restarts_bounded, past_added, MayJudgeStamp, judge_stamp_action, judged, after_judgement}
use Rattle.word_table.proofs.Common.{Judged, JudgeStamp, judged_of, JudgedBy, IsSound}
use Rattle.std.proofs.Common.{nat_lt}
use Rattle.std.proofs.lemmas.Bool.Decides.{leb_tells}
use Rattle.stamps_rule.proofs.CauseLists.{newest_added}
use Rattle.values_rule.specs.Steps.{attempt_of, after_giving_way}
use Rattle.word_table.proofs.Kept.KeptKinds.{sound_kept}
use Rattle.word_table.specs.declared.answer.Judged.TheVariants as answer

-- both are chosen by one test
shown_cases : (shown own : ℕ) → (((nat_lt 0 shown && nat_lt shown own) ≡ true) × (0 < shown) × (shown < own))
    ⊎ (((nat_lt 0 shown && nat_lt shown own) ≡ false) × ((shown ≡ 0) ⊎ (own ≤ shown)))
shown_cases shown own = ⊎_elim
    (λ (a : (nat_lt 0 shown ≡ true) × (1 ≤ shown)). ⊎_elim
    (λ (b : (nat_lt shown own ≡ true) × (suc shown ≤ own)). let low = a.1 in let high = b.1 in
    inl (ap (λ (t : Bool). t && nat_lt shown own) a.0 ∙ b.0, omega arith, omega arith))
    (λ (b : (nat_lt shown own ≡ false) × (own < suc shown)). let high = b.1 in inr (ap (λ (t : Bool). t && nat_lt shown own) a.0 ∙ b.0, inr (omega arith)))
    (leb_tells (suc shown) own))
    (λ (a : (nat_lt 0 shown ≡ false) × (shown < 1)). let low = a.1 in inr (ap (λ (t : Bool). t && nat_lt shown own) a.0, inl (omega arith)))
    (leb_tells 1 shown)

yield_same : (a b : ℕ) → answer.Yield a ≡ answer.Yield b → a ≡ b
yield_same a b e = cc

-- if it gives way, the cause is what was shown, and that is earlier
pub yield_due : (i shown own stamp : ℕ) → judged_of shown own ≡ answer.Yield stamp
    → (judged i shown own ≡ Some (record { seat = i; stamp = stamp })) × (shown ≡ stamp) × (0 < stamp) × (stamp < own)
yield_due i shown own stamp e = ⊎_elim
    (λ t. let is : shown ≡ stamp = yield_same shown stamp (sym (ap (λ (b : Bool). if b then answer.Yield shown else answer.Wait) t.0) ∙ e) in (
      ap (λ (b : Bool). if b then Some (record { seat = i; stamp = shown }) else None) t.0 ∙ ap (λ (x : ℕ). Some (record { seat = i; stamp = x })) is,
      is,
      subst (λ (x : ℕ). 0 < x) is t.1,
      subst (λ (x : ℕ). x < own) is t.2,
    ))
    (λ t. absurd (let z : answer.Wait ≡ answer.Yield stamp = sym (ap (λ (b : Bool). if b then answer.Yield shown else answer.Wait) t.0) ∙ e in cc))
    (shown_cases shown own)

-- and if it waits there is none
pub wait_due : (i shown own : ℕ) → judged_of shown own ≡ answer.Wait → (judged i shown own ≡ None) × ((shown ≡ 0) ⊎ (own ≤ shown))
wait_due i shown own e = ⊎_elim
    (λ t. absurd (let z : answer.Yield shown ≡ answer.Wait = sym (ap (λ (b : Bool). if b then answer.Yield shown else answer.Wait) t.0) ∙ e in cc))
    (λ t. (ap (λ (b : Bool). if b then Some (record { seat = i; stamp = shown }) else None) t.0, t.1))
    (shown_cases shown own)

-- an answer is one of the two
pub judged_cases : (r : Judged) → (r ≡ answer.Wait) ⊎ ((stamp : ℕ) × (r ≡ answer.Yield stamp))
judged_cases answer.Wait = inl refl
judged_cases (answer.Yield stamp) = inr (stamp, refl)

-- whoever judges is the same seat
judging_who : (verdict : Option Cause) (v : View) → (after_judgement verdict v).who ≡ v.who
judging_who None v = refl
judging_who (Some cause) v = refl

module _ (good : List ℕ → Type 0) (n : ℕ) (base : List ℕ) (v : View) (i : ℕ) (r : Judged) (w : View)
    (d : JudgedBy (IsSound good n base) v i r w) (may : MayJudgeStamp (number v) i v) where
  abbrev judges : Action
  judges = judge_stamp_action (number v) i v

  -- the seat is judged
  abbrev passes : View
  passes = record v { met = without i v.met }

  -- if it waits, that is all
  pub judged_waits : r ≡ answer.Wait → w ≡ record v { met = without i v.met }
  judged_waits e = d.taken.view ∙ ap (λ (o : Option Cause). after_judgement o passes) (wait_due i d.found v.stamp (sym d.answer ∙ e)).0

  module _ (stamp : ℕ) (e : r ≡ answer.Yield stamp) where
    abbrev cause : Cause
    cause = record { seat = i; stamp = stamp }

    earlier : (judged i d.found v.stamp ≡ Some cause) × (d.found ≡ stamp) × (0 < stamp) × (stamp < v.stamp)
    earlier = yield_due i d.found v.stamp stamp (sym d.answer ∙ e)

    -- if it gives way, the attempt is abandoned with this cause
    gave_way : w ≡ after_giving_way cause (without i v.met) v
    gave_way = d.taken.view ∙ ap (λ (o : Option Cause). after_judgement o passes) earlier.0

    pub judged_yields : (0 < stamp) × (stamp < v.stamp) × (w ≡ after_giving_way cause (without i v.met) v)
    judged_yields = (earlier.2, earlier.3, gave_way)

    -- the cause is the newest
    pub judged_cause : newest (past_causes w) ≡ Some (record { seat = i; stamp = stamp })
    judged_cause = ap (λ (x : View). newest (past_causes x)) gave_way
        ∙ (ap (λ (l : List Cause). newest l) (past_added v.abandoned (attempt_of cause v)) ∙ newest_added (past_causes v) cause)

  -- in either case the call gave way less often than there are seats
  pub judged_bounded : AreRestartsBounded n (number v) w
  judged_bounded =
      let after = sound_kept good n base (JudgeStamp (number v) i) d.taken.words d.taken.views d.taken.place v d.taken.holds d.taken.knows may in
      let next : View = judges.view (found_by judges d.taken.words) in
      let is : w ≡ next = d.taken.view ∙ ap (λ (x : ℕ). judges.view x) (sym d.taken.found_is) in
      subst (λ (x : View). AreRestartsBounded n (number v) x) (sym is)
      (restarts_bounded n base (words_after judges d.taken.words) (views_after judges d.taken.place d.taken.words d.taken.views) d.taken.place
      (number v) next after.locks after.stamps (put_here d.taken.views d.taken.place v next d.taken.knows)
      (judging_who (judged i (found_by judges d.taken.words) v.stamp) passes ∙ may.who))
