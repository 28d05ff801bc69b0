-- What a call on values tells beside its step: that what its attempt did is legal behind all that was done, however that is
-- arranged.
use Rattle.word_table.proofs.Common.{◌<◌, ◌≤◌, ◌≢◌, if◌then◌else◌, ne_eqb, ◌≡◌, ℕ, Bool, true, inl, inr, List, [], ◌∷◌, ◌++◌, Option, Some, None, refl, sym, ap}
use Rattle.word_table.proofs.Common.{◌∙◌, subst, Entry, Read, View, is_attempt, IsIn, Knows, Trace, number, put_here, Action, words_after, views_after}
use Rattle.word_table.proofs.Common.{found_by, own_number, Knew, begin_call_action, entry_of, load_value_action, store_value_action, known_value, MayBeginCall}
use Rattle.word_table.proofs.Common.{MayLoadValue, in_second, item_of_entry, entry_from, place, MayLoadCauseStamp, load_cause_stamp_action, after_waiting}
use Rattle.word_table.proofs.Common.{after_restarting, Step, BeginCall, LoadValue, LoadCauseStamp, action_of, May, TakenIn, IsSound}
use Rattle.values_rule.proofs.Common.{value_after, knew_of}
use Rattle.std.proofs.Common.{unwrap_or}
use Rattle.history_model.proofs.Traces.EndEvents.{last_read_same}
use Rattle.values_rule.proofs.Phases.{attempt_open}
use Rattle.values_rule.specs.History.{items_of_attempts}
use Rattle.values_rule.proofs.Told.ItemsIn.{items_into, attempt_from}
use Rattle.values_rule.proofs.Told.Knowing.{knew_at, last_least}
use Rattle.values_rule.proofs.Whole.Legality.{leaves_good, attempts_legal}
use Rattle.word_table.specs.Calls.{ReadsArranged}
use Rattle.word_table.proofs.Kept.KeptKinds.{sound_kept}

-- the state that a step leads to is sound, and the seat then knows the new view
pub reads_after : (good : List ℕ → Type 0) (n : ℕ) (base : List ℕ) (st : Step) (old new : View) (found : ℕ)
    → TakenIn (IsSound good n base) (action_of st old) old found new → May good st old
    → is_attempt new.phase ≡ true → ReadsArranged good n base new
reads_after good n base st old new found t may busy =
    let next : View = (action_of st old).view (found_by (action_of st old) t.words) in
    let is : new ≡ next = t.view ∙ ap (λ (x : ℕ). (action_of st old).view x) (sym t.found_is) in
    let vs : List View = views_after (action_of st old) t.place t.words t.views in
    let after = sound_kept good n base st t.words t.views t.place old t.holds t.knows may in
    let me : Knows vs t.place next = put_here t.views t.place old next t.knows in
    subst (λ (x : View). ReadsArranged good n base x) (sym is) (record {
      words = words_after (action_of st old) t.words;
      views = vs;
      place = t.place;
      seat = next;
      holds = after;
      knows = me;
      in_call = record { who = refl; call = refl; seen = refl; abandoned = refl };
      seen = λ e i. items_into vs (item_of_entry e) (inl (record {
        entry = e;
        recorded = record { id = t.place; view = next; knows = me; seen = i };
        is = entry_from e (item_of_entry e)
            (in_second (items_of_attempts e.who e.call e.knew 0 e.abandoned) (item_of_entry e ∷ []) (item_of_entry e) (0, refl));
      }));
      attempts = λ x i. items_into vs x (inr (record {
        id = t.place;
        view = next;
        knows = me;
        is_open = attempt_open next.phase (subst (λ (x : View). is_attempt x.phase ≡ true) is busy);
        is = attempt_from (number next) next.call (knew_of next.seats next.seen) next.abandoned x i;
      }));
      order = after.values.items.order;
      arranged = after.values.items.arranged;
      placed = λ order a p x at. place good n base _ vs after.locks after.values order a p x at;
      left_good = λ order a. leaves_good good n base _ vs after.locks after.values order a;
      fits = λ order a. attempts_legal good n base _ vs after.locks after.values order a t.place next me
          (subst (λ (x : View). is_attempt x.phase ≡ true) is busy);
    })

pub load_reads : (good : List ℕ → Type 0) (n : ℕ) (base : List ℕ) (a : ℕ) (v w : View) (found : ℕ)
    → TakenIn (IsSound good n base) (load_value_action (number v) a v) v found w → MayLoadValue (number v) a v
    → ReadsArranged good n base w
load_reads good n base a v w found t may =
    reads_after good n base (LoadValue (number v) a) v w found t may (ap (λ (x : View). is_attempt x.phase) t.view ∙ ap is_attempt may.phase)

pub begin_reads : (good : List ℕ → Type 0) (n : ℕ) (base : List ℕ) (v w : View) (found : ℕ)
    → TakenIn (IsSound good n base) (begin_call_action (number v) v) v found w → MayBeginCall (number v) v → ReadsArranged good n base w
begin_reads good n base v w found t may = reads_after good n base (BeginCall (number v)) v w found t may (ap (λ (x : View). is_attempt x.phase) t.view)

-- a call whose cause is gone makes a new attempt
pub restart_reads : (good : List ℕ → Type 0) (n : ℕ) (base : List ℕ) (i stamp : ℕ) (v w : View) (found : ℕ)
    → TakenIn (IsSound good n base) (load_cause_stamp_action (number v) i stamp v) v found w → MayLoadCauseStamp (number v) i stamp v
    → found ≢ stamp → ReadsArranged good n base w
restart_reads good n base i stamp v w found t may ne = reads_after good n base (LoadCauseStamp (number v) i stamp) v w found t may
    (ap (λ (x : View). is_attempt x.phase) (t.view ∙ ap (λ (b : Bool). if b then after_waiting v else after_restarting v) (ne_eqb found stamp ne)))

-- what a store notes is the value that was read last
pub noted_old : (j a x : ℕ) (v w : View) (before : Trace) (old : ℕ) → w ≡ (store_value_action j a x v).view 0
    → v.trace ≡ before ++ Read a old ∷ [] → w.undo ≡ v.undo ++ (a, old) ∷ []
noted_old j a x v w before old e trace =
    let last : value_after v.trace a None ≡ Some old = ap (λ (t : Trace). value_after t a None) trace ∙ last_read_same before a old a refl in
    let is : known_value v a ≡ old = ap (λ (o : Option ℕ). unwrap_or o 0) last in
    ap (λ (y : View). y.undo) e ∙ ap (λ (o : ℕ). v.undo ++ (a, o) ∷ []) is

-- an entry knew what its pass had seen
pub knew_seen : (kept : Bool) (v : View) (x : Entry) → IsIn x v.seen → x.who < v.seats → Knew (entry_of kept v) x
knew_seen kept v x t below = subst (λ (m : ℕ). x.call ≤ m) (sym (knew_at v.seats x.who v.seen below)) (last_least x.who v.seen x t refl)

-- and so does the one that a call gets, in a state that is sound
pub commit_knew : (good : List ℕ → Type 0) (n : ℕ) (base : List ℕ) (action : Action) (kept : Bool) (v : View) (found : ℕ) (w : View) (j : ℕ)
    → TakenIn (IsSound good n base) action v found w → v.who ≡ j ∷ [] → (x : Entry) → IsIn x v.seen → Knew (entry_of kept v) x
commit_knew good n base action kept v found w j t single x had =
    let seats : v.seats ≡ n = t.holds.locks.seats_alike t.place j v (record { knows = t.knows; named = own_number v j single }) in
    knew_seen kept v x had (subst (λ (m : ℕ). x.who < m) (sym seats)
    (t.holds.values.records.by_seat x (record { id = t.place; view = v; knows = t.knows; seen = had })))
