-- The kinds of step on calls, values and entries keep the timestamp invariant: one begins a call, one ends it, and
-- the others leave timestamps and causes alone.
use Rattle.word_table.proofs.Common.{◌≡◌, ℕ, ◌+◌, Bool, true, false, List, slice_index, refl, sym, ap, ◌∙◌, arith, View, Phase, Idle, Running, Yielding}
use Rattle.word_table.proofs.Common.{Withdrawing, Releasing, is_attempt, is_open, Knows, calls_word, stamps_word, Action, found_by, words_after, views_after}
use Rattle.word_table.proofs.Common.{own, begin_call_action, load_value_action, store_value_action, undo_store_action, undoing_phase, clear_stamp_action}
use Rattle.word_table.proofs.Common.{MayBeginCall, MayLoadValue, commit_call_action, is_yielding, StampsHold, notes_same, IsSound}
use Rattle.values_rule.proofs.Common.{MayStoreValue, MayUndoStore, MayCommitCall, MayClearStamp}
use Rattle.stamps_rule.proofs.Common.{is_idle}
use Rattle.stamps_rule.proofs.Asides.{aside_keeps, opens_keeps, ends_keeps}

-- a step of a seat that may take it keeps the timestamp invariant of a sound table
abbrev pub StampsStay : (List ℕ → Type 0) → (View → Type 0) → (View → Action) → Type 0
StampsStay good may action =
    (n : ℕ) (base words : List ℕ) (views : List View) (id : ℕ) (v : View)
    → IsSound good n base words views → Knows views id v → may v
    → StampsHold n (words_after (action v) words) (views_after (action v) id words views)

pub begin_call_stamps : (good : List ℕ → Type 0) (j : ℕ) → StampsStay good ((MayBeginCall j)) (begin_call_action j)
begin_call_stamps good j n base ws vs id v s me may =
    let o = own n base ws vs id j v s.locks me may.who in
    let place : calls_word v.seats j ≡ calls_word n j = ap (λ (m : ℕ). calls_word m j) o.seats in
    let shown : slice_index ws (calls_word n j) ≡ v.call = s.values.calls.calls_shown id j v o.seat (s.values.calls.alone_unjoined id j v me may.who) in
    opens_keeps n base ws vs id j v (begin_call_action j v) s.locks s.stamps me
    record { place = place; more = ap (λ (c : ℕ). c + 1) (sym (ap (λ (i : ℕ). slice_index ws i) place ∙ shown)) }
    record {
      single = may.who;
      who = refl;
      joined = refl;
      was_idle = may.phase;
      runs = refl;
      stamp = refl;
      announced =
          refl;
      draws = refl;
      no_attempt = refl;
      none_met = refl;
    }

pub load_value_stamps : (good : List ℕ → Type 0) (j a : ℕ) → StampsStay good ((MayLoadValue j a)) (load_value_action j a)
load_value_stamps good j a n base ws vs id v s me may =
    let o = own n base ws vs id j v s.locks me may.who in
    let w : View = (load_value_action j a v).view (found_by (load_value_action j a v) ws) in
    aside_keeps n base ws vs id v (load_value_action j a v) s.locks s.stamps me (λ t. let high = t.1 in let seats = o.seats in omega arith)
    record {
      who = refl;
      joined = refl;
      stamp = refl;
      announced = refl;
      draws = refl;
      abandoned = refl;
      idle = refl;
      yielding = refl;
      notes = notes_same v w refl refl;
    }

pub store_value_stamps : (good : List ℕ → Type 0) (j a x : ℕ) → StampsStay good ((MayStoreValue j a)) (store_value_action j a x)
store_value_stamps good j a x n base ws vs id v s me may =
    let o = own n base ws vs id j v s.locks me may.who in
    let w : View = (store_value_action j a x v).view (found_by (store_value_action j a x v) ws) in
    aside_keeps n base ws vs id v (store_value_action j a x v) s.locks s.stamps me (λ t. let high = t.1 in let seats = o.seats in omega arith)
    record {
      who = refl;
      joined = refl;
      stamp = refl;
      announced = refl;
      draws = refl;
      abandoned = refl;
      idle = refl;
      yielding = refl;
      notes = notes_same v w refl refl;
    }

undoing : (p : Phase) → is_open p ≡ true → (is_idle (undoing_phase p) ≡ is_idle p) × (is_yielding (undoing_phase p) ≡ is_yielding p)
undoing Idle e = absurd (cc)
undoing Running e = (refl, refl)
undoing Yielding e = (refl, refl)
undoing Withdrawing e = (refl, refl)
undoing Releasing e = absurd (cc)

pub undo_store_stamps : (good : List ℕ → Type 0) (j a old : ℕ) → StampsStay good ((MayUndoStore j a old)) (undo_store_action j a old)
undo_store_stamps good j a old n base ws vs id v s me may =
    let o = own n base ws vs id j v s.locks me may.who in
    let w : View = (undo_store_action j a old v).view (found_by (undo_store_action j a old v) ws) in
    let p = undoing v.phase may.phase in
    aside_keeps n base ws vs id v (undo_store_action j a old v) s.locks s.stamps me (λ t. let high = t.1 in let seats = o.seats in omega arith)
    record {
      who = refl;
      joined = refl;
      stamp = refl;
      announced = refl;
      draws = refl;
      abandoned = refl;
      idle = p.0;
      yielding = p.1;
      notes = notes_same v w refl refl;
    }

attempting : (p : Phase) → is_attempt p ≡ true → (false ≡ is_idle p) × (false ≡ is_yielding p)
attempting Idle e = absurd (cc)
attempting Running e = (refl, refl)
attempting Yielding e = absurd (cc)
attempting Withdrawing e = (refl, refl)
attempting Releasing e = absurd (cc)

pub commit_call_stamps : (good : List ℕ → Type 0) (j : ℕ) (kept : Bool) → StampsStay good ((MayCommitCall good j kept)) (commit_call_action j kept)
commit_call_stamps good j kept n base ws vs id v s me may =
    let w : View = (commit_call_action j kept v).view (found_by (commit_call_action j kept v) ws) in
    let p = attempting v.phase may.phase in
    aside_keeps n base ws vs id v (commit_call_action j kept v) s.locks s.stamps me
    (λ t. let high = t.1 in let seats = (own n base ws vs id j v s.locks me may.who).seats in omega arith)
    record {
      who = refl;
      joined = refl;
      stamp = refl;
      announced = refl;
      draws = refl;
      abandoned = refl;
      idle = p.0;
      yielding = p.1;
      notes = notes_same v w refl refl;
    }

pub clear_stamp_stamps : (good : List ℕ → Type 0) (j : ℕ) → StampsStay good ((MayClearStamp j)) (clear_stamp_action j)
clear_stamp_stamps good j n base ws vs id v s me may =
    let o = own n base ws vs id j v s.locks me may.who in
    let w : View = (clear_stamp_action j v).view (found_by (clear_stamp_action j v) ws) in
    ends_keeps n base ws vs id j v (clear_stamp_action j v) s.locks s.stamps me
    record { place = ap (λ (m : ℕ). stamps_word m j) o.seats; none = refl }
    record {
      single = may.who;
      who = refl;
      joined = refl;
      rests = refl;
      stamp = refl;
      announced = refl;
      draws =
          refl;
      abandoned = refl;
      notes = notes_same v w refl refl;
    }
