-- The kinds of step on timestamps keep the value invariant: one that gives way has a cause in another seat with an
-- earlier timestamp, to which no attempt of the call gave way before.
use Rattle.word_table.proofs.Common.{◌≡◌, ℕ, ◌+◌, ◌<◌, ◌≤◌, Bool, true, ◌⊎◌, inl, inr, ⊎_elim, List, ◌∷◌, [], ◌++◌, length, slice_get, Option, Some, None}
use Rattle.word_table.proofs.Common.{slice_index, slice_set, ◌==◌, refl, sym, ◌∙◌, subst, arith, get_or-set_other, set-get_or, slice_get_within, Cause, View}
use Rattle.word_table.proofs.Common.{Idle, Yielding, IsIn, has, without, Knows, clock_word, calls_word, commits_word, stamps_word, version_word, value_word}
use Rattle.word_table.proofs.Common.{get_first, get_last, not_true, put_here, Action, words_after, views_after, picked, own, past_causes, StampsHold}
use Rattle.word_table.proofs.Common.{MayJudgeStamp, MayLoadCauseStamp, draw_stamp_action, announce_stamp_action, judge_stamp_action, load_cause_stamp_action}
use Rattle.word_table.proofs.Common.{judged, after_judgement, after_giving_way, after_waiting, after_restarting, past_added, judge_stamp_stamps, ValuesHold}
use Rattle.word_table.proofs.Common.{IsSound}
use Rattle.values_rule.proofs.Common.{SameValues, SameValueWords}
use Rattle.stamps_rule.proofs.Common.{MayDrawStamp, MayAnnounceStamp}
use Rattle.values_rule.specs.Keeping.{IsNewCause}
use Rattle.stamps_rule.specs.Steps.{attempt_of}
use Rattle.stamps_rule.proofs.CauseLists.{attempt_cause}
use Rattle.values_rule.proofs.StepKinds.Giving.{giving_way_values}
use Rattle.values_rule.proofs.StepKinds.Quiet.{restart_values}
use Rattle.values_rule.proofs.StepKinds.Same.{aside_values}
use Rattle.values_rule.proofs.Told.Owing.{version_kept}

-- a step of a seat that may take it keeps the value invariant of a sound table
abbrev pub ValuesStay : (List ℕ → Type 0) → (View → Type 0) → (View → Action) → Type 0
ValuesStay good may action =
    (n : ℕ) (base words : List ℕ) (views : List View) (id : ℕ) (v : View)
    → IsSound good n base words views → Knows views id v → may v
    → ValuesHold good n base (words_after (action v) words) (views_after (action v) id words views)

-- a call with another timestamp, or with other notes of whom it met
abbrev restamped : View → ℕ → Bool → ℕ → List ℕ → ℕ → View
restamped v stamp announced draws met waits = record v { stamp = stamp; announced = announced; draws = draws; met = met; waits = waits }

same_values : (v : View) (stamp : ℕ) (announced : Bool) (draws : ℕ) (met : List ℕ) (waits : ℕ)
    → v.stamp ≤ stamp → SameValues v (restamped v stamp announced draws met waits)
same_values v stamp announced draws met waits later = record {
  who = refl;
  joined = refl;
  seats = refl;
  seen = refl;
  call = refl;
  floor = refl;
  abandoned = refl;
  phase = refl;
  trace = refl;
  undo = refl;
  uses = refl;
  owed = refl;
  stamp = λ busy. later;
  grants = λ k g. g;
  writes = λ k g. g;
}

-- the clock's word, or one of a timestamp
words_stay : (n i x : ℕ) (ws : List ℕ) → 0 < i → (i < calls_word n 0) ⊎ (stamps_word n 0 ≤ i) → i < commits_word n 0 → SameValueWords n ws (slice_set ws i x)
words_stay n i x ws above away to = record {
  serial = get_or-set_other ws i 0 x 0 (λ e. omega arith);
  calls = λ j lt. get_or-set_other ws i (calls_word n j) x 0
      (λ e. ⊎_elim (λ (low : i < calls_word n 0). omega arith) (λ (high : stamps_word n 0 ≤ i). omega arith) away);
  commits = λ j lt. get_or-set_other ws i (commits_word n j) x 0 (λ e. omega arith);
  versions = λ k. version_kept n ws (slice_set ws i x) (λ l near. get_or-set_other ws i (version_word n l) x 0 (λ e. omega arith)) k;
  values = λ a. get_or-set_other ws i (value_word n a) x 0 (λ e. omega arith);
}

-- a load changes no word
same_words : (n i : ℕ) (ws : List ℕ) → SameValueWords n ws (slice_set ws i (slice_index ws i))
same_words n i ws = subst (λ (l : List ℕ). SameValueWords n ws l) (sym (set-get_or ws i 0))
    (record { serial = refl; calls = λ j lt. refl; commits = λ j lt. refl; versions = λ k. refl; values = λ a. refl })

pub draw_stamp_values : (good : List ℕ → Type 0) (j : ℕ) → ValuesStay good (MayDrawStamp j) (draw_stamp_action j)
draw_stamp_values good j n base ws vs id v s me may =
    let zero = may.unstamped in
    let x : ℕ = slice_index ws clock_word + 1 in
    aside_values good n base ws (slice_set ws clock_word x) vs id v (restamped v x v.announced (v.draws + 1) v.met v.waits) s.locks s.values me
    (same_values v x v.announced (v.draws + 1) v.met v.waits (omega arith))
    (words_stay n clock_word x ws (omega arith) (inl (omega arith)) (omega arith))

pub announce_stamp_values : (good : List ℕ → Type 0) (j : ℕ) → ValuesStay good (MayAnnounceStamp j) (announce_stamp_action j)
announce_stamp_values good j n base ws vs id v s me may =
    let o = own n base ws vs id j v s.locks me may.who in
    let seats = o.seats in
    let below = o.below in
    aside_values good n base ws (slice_set ws (stamps_word v.seats j) v.stamp) vs id v (record v { announced = true }) s.locks s.values me
    (same_values v v.stamp true v.draws v.met v.waits (omega arith))
    (words_stay n (stamps_word v.seats j) v.stamp ws (omega arith) (inr (omega arith)) (omega arith))

-- if the timestamp invariant holds of a call that gave way to a cause, this was a new one
new_cause : (good : List ℕ → Type 0) (n : ℕ) (base ws ws' : List ℕ) (vs : List View) (id j : ℕ) (v : View) (c : Cause)
    → IsSound good n base ws vs → (me : Knows vs id v) → v.who ≡ j ∷ [] → (met : List ℕ)
    → StampsHold n ws' (slice_set vs id (after_giving_way c (record v { met = met }))) → IsNewCause n v c
new_cause good n base ws ws' vs id j v c s me single met stamps =
    let o = own n base ws vs id j v s.locks me single in
    let x : View = after_giving_way c (record v { met = met }) in
    let here : Knows (slice_set vs id x) id x = put_here vs id v x me in
    let past : past_causes x ≡ past_causes v ++ c ∷ [] = past_added v.abandoned (attempt_of c v) in
    let last : slice_get (past_causes x) (length (past_causes v)) ≡ Some c =
    subst (λ (l : List Cause). slice_get l (length (past_causes v)) ≡ Some c) (sym past) (get_last (past_causes v) c) in
    let is_cause : IsIn c (past_causes x) = (length (past_causes v), last) in
    let place = stamps.grounds.elsewhere id j x c here single is_cause in
    let early = stamps.grounds.earlier id x c here (λ e. let z : Yielding ≡ Idle = e in cc) is_cause in
    record {
      elsewhere = (place.0, not_true (has c.seat v.who) (λ t. place.1 (o.is c.seat t)));
      earlier = early;
      first_there = λ y t same.
          let at : slice_get (past_causes v) t.0 ≡ Some y.cause = attempt_cause v y t.0 t.1 in
          let lt : t.0 < length (past_causes v) = slice_get_within (past_causes v) t.0 y.cause at in
          let there : slice_get (past_causes x) t.0 ≡ Some y.cause =
          subst (λ (l : List Cause). slice_get l t.0 ≡ Some y.cause) (sym past) (get_first (past_causes v) (c ∷ []) t.0 lt ∙ at) in
          let e : t.0 ≡ length (past_causes v) = stamps.seats.distinct id x here t.0 (length (past_causes v)) y.cause c there last same in
          omega (arith, e, lt);
    }

-- what a judgement leaves, by what it found
by_verdict : (P : View → Type 0) (verdict : Option Cause) (u : View) → (verdict ≡ None → P u)
    → ((c : Cause) → verdict ≡ Some c → P (after_giving_way c u)) → P (after_judgement verdict u)
by_verdict P None u p q = p refl
by_verdict P (Some c) u p q = q c refl

pub judge_stamp_values : (good : List ℕ → Type 0) (j i : ℕ) → ValuesStay good (MayJudgeStamp j i) (judge_stamp_action j i)
judge_stamp_values good j i n base ws vs id v s me may =
    let at : ℕ = stamps_word v.seats i in
    let found : ℕ = slice_index ws at in
    let met : List ℕ = without i v.met in
    let passes : View = record v { met = met } in
    by_verdict (λ (u : View). ValuesHold good n base (slice_set ws at found) (slice_set vs id u)) (judged i found v.stamp) passes
    (λ e. aside_values good n base ws (slice_set ws at found) vs id v passes s.locks s.values me
    (same_values v v.stamp v.announced v.draws met v.waits (omega arith)) (same_words n at ws))
    (λ c e. let stamps : StampsHold n (slice_set ws at found) (slice_set vs id (after_giving_way c passes)) =
    subst (λ (o : Option Cause). StampsHold n (slice_set ws at found) (slice_set vs id (after_judgement o passes))) e
    (judge_stamp_stamps j i n base ws vs id v s.locks s.stamps me may) in
    let new = new_cause good n base ws (slice_set ws at found) vs id j v c s me may.who met stamps in
    subst (λ (l : List ℕ). ValuesHold good n base l (slice_set vs id (after_giving_way c passes))) (sym (set-get_or ws at 0))
    (giving_way_values good n base ws vs id j v c met s.locks s.values me may.who may.phase new))

pub load_cause_stamp_values : (good : List ℕ → Type 0) (j i stamp : ℕ) → ValuesStay good (MayLoadCauseStamp j i stamp) (load_cause_stamp_action j i stamp)
load_cause_stamp_values good j i stamp n base ws vs id v s me may =
    let at : ℕ = stamps_word v.seats i in
    let x : ℕ = slice_index ws at in
    picked (λ (u : View). ValuesHold good n base (slice_set ws at x) (slice_set vs id u)) (x == stamp) (after_waiting v) (after_restarting v)
    (aside_values good n base ws (slice_set ws at x) vs id v (after_waiting v) s.locks s.values me
    (same_values v v.stamp v.announced v.draws v.met (v.waits + 1) (omega arith)) (same_words n at ws))
    (subst (λ (l : List ℕ). ValuesHold good n base l (slice_set vs id (after_restarting v))) (sym (set-get_or ws at 0))
    (restart_values good n base ws vs id v s.locks s.values me may.phase may.undone))
