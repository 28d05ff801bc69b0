-- The cut of a view in two keeps the value invariant: both have seen what the view had seen, and are between calls.
use Rattle.values_rule.proofs.Common.{◌≡◌, ℕ, ◌≤◌, true, false, ◌⊎◌, inl, inr, ⊎_elim, List, [], ◌∷◌, ◌++◌, Some, None, slice_get, slice_index, slice_set, refl}
use Rattle.values_rule.proofs.Common.{sym, ap, ◌∙◌, subst, arith, dite, ℕ_discrete, Entry, View, Idle, Releasing, Drops, is_attempt, is_open, IsIn, has, flag}
use Rattle.values_rule.proofs.Common.{Knows, Notes, number, Change, same_view, put_here, differ, has-nil, has-one, has-without, has-join_same, has-join_old}
use Rattle.values_rule.proofs.Common.{LocksHold, IsSeat, oldest, UndoRestores, TraceCurrent, last_call, items_of, owed_by, next_version, now_of, IsRecorded}
use Rattle.values_rule.proofs.Common.{RecordsClosed, CallsCounted, ValuesHold}
use Rattle.history_model.proofs.Views.Changes.{StepTouches, NewByCut, change_cut}
use Rattle.history_model.proofs.Views.Places.{added_there}
use Rattle.locks_rule.specs.Joins.{MayTakeNote, left_by_note, note_of}
use Rattle.locks_rule.specs.Splits.{MaySplitSeat, left_by_split, given_by_split}
use Rattle.values_rule.proofs.Members.{none_in}
use Rattle.values_rule.proofs.Notes.{oldest-nil}
use Rattle.values_rule.specs.Keeping.{KeepsValueRuleSplit}
use Rattle.values_rule.proofs.Parts.Frames.{records_move, items_kept, now_kept}
use Rattle.values_rule.proofs.Told.ItemsIn.{OfEntry, OfOpen, items_from, items_into}
use Rattle.values_rule.proofs.Told.Owing.{owed_same}

-- a part of a view that is cut
pub record IsPart (v u : View) : Type 0 where
  pub seen : u.seen ≡ v.seen
  pub numbers : (x : ℕ) → has x u.who ≡ true → has x v.who ≡ true
  pub phase : u.phase ≡ Idle
  pub undo : u.undo ≡ []
  pub owes : (k : ℕ) → has k u.owed ≡ true → ⊥
  pub once : (k x y : ℕ) → IsIn (k, x) u.uses → IsIn (k, y) u.uses → x ≡ y
  pub calls : (j : ℕ) → has j u.who ≡ true → u.joined ≡ false → (v.joined ≡ false) × (u.call ≡ v.call)
  pub alone : (j : ℕ) → u.who ≡ j ∷ [] → u.joined ≡ false

module _ (good : List ℕ → Type 0) (n : ℕ) (base ws : List ℕ) (vs : List View) (id : ℕ) (v left given : View)
    (h : LocksHold n base ws vs) (q : ValuesHold good n base ws vs) (me : Knows vs id v) (rests : v.phase ≡ Idle)
    (a : IsPart v left) (b : IsPart v given) where
  abbrev vs' : List View
  vs' = slice_set vs id left ++ given ∷ []

  change : Change vs vs' (StepTouches id) (NewByCut vs id left given)
  change = change_cut vs id left given

  -- a view is a part, or stands as it was
  case : (other : ℕ) (z : View) → Knows vs' other z → IsPart v z ⊎ Knows vs other z
  case other z k = ⊎_elim (λ t. inl (⊎_elim (λ s. subst (λ (y : View). IsPart v y) s.1 b) (λ s. subst (λ (y : View). IsPart v y) s.1 a) t))
      (λ t. inr t.1) (change.cases other z k)

  here : Knows vs' id left
  here = added_there (slice_set vs id left) given left id (put_here vs id v left me)

  touched : (other : ℕ) → StepTouches id other ⊎ (¬ StepTouches id other)
  touched other = dite (ℕ_discrete other id) (λ e. inl e) (λ e. inr e)

  mine : (j : ℕ) (z : View) → IsPart v z → has j z.who ≡ true → IsSeat vs id v j
  mine j z p t = record { knows = me; named = p.numbers j t }

  was : (e : Entry) (z : View) → IsPart v z → IsIn e z.seen → IsIn e v.seen
  was e z p t = subst (λ (l : List Entry). IsIn e l) p.seen t

  is : (e : Entry) (z : View) → IsPart v z → IsIn e v.seen → IsIn e z.seen
  is e z p t = subst (λ (l : List Entry). IsIn e l) (sym p.seen) t

  recorded_to : (e : Entry) → IsRecorded vs' e → IsRecorded vs e
  recorded_to e r = ⊎_elim (λ p. record {
    id = id;
    view = v;
    knows = me;
    seen = was e r.view p r.seen;
  }) (λ k. record { id = r.id; view = r.view; knows = k; seen = r.seen }) (case r.id r.view r.knows)

  recorded_from : (e : Entry) → IsRecorded vs e → IsRecorded vs' e
  recorded_from e r = ⊎_elim
      (λ t. record {
        id = id;
        view = left;
        knows = here;
        seen = is e left a (subst (λ (y : View). IsIn e y.seen) (same_view vs id r.id v r.view me r.knows t) r.seen);
      })
      (λ t. record { id = r.id; view = r.view; knows = change.kept r.id r.view t r.knows; seen = r.seen }) (touched r.id)

  records_part : RecordsClosed n vs'
  records_part = records_move n vs vs' q.records recorded_to recorded_from
      (λ other j z e s r own. ⊎_elim (λ p. is e z p (q.records.own_seen id j v e (mine j z p s.named) r own))
      (λ k. q.records.own_seen other j z e (record { knows = k; named = s.named }) r own) (case other z s.knows))
      (λ other z e x k i r knew. ⊎_elim (λ p. is x z p (q.records.known_seen id v e x me (was e z p i) r knew))
      (λ t. q.records.known_seen other z e x t i r knew) (case other z k))
      (λ other z k i j x at more. ⊎_elim
      (λ p. q.records.apart id v me i j x (subst (λ (l : List Entry). slice_get l i ≡ Some x) p.seen at)
      (subst (λ (l : List Entry). slice_get l j ≡ Some x) p.seen more))
      (λ t. q.records.apart other z t i j x at more) (case other z k))

  not_open : {A : Type 0} (z : View) → z.phase ≡ Idle → is_open z.phase ≡ true → A
  not_open z e t = absurd (let f : true ≡ false = sym t ∙ ap is_open e in cc)

  not_attempt : {A : Type 0} (z : View) → z.phase ≡ Idle → is_attempt z.phase ≡ true → A
  not_attempt z e t = absurd (let f : true ≡ false = sym t ∙ ap is_attempt e in cc)

  calls_part : CallsCounted n ws vs'
  calls_part = record {
    callers_alone = λ other z k busy. ⊎_elim (λ p. absurd (busy p.phase)) (λ t. q.calls.callers_alone other z t busy) (case other z k);
    alone_unjoined = λ other j z k single. ⊎_elim (λ p. p.alone j single) (λ t. q.calls.alone_unjoined other j z t single) (case other z k);
    dealers_fresh = λ other i j z s r apart un. ⊎_elim
        (λ p. let c = p.calls i s.named un in c.1 ∙ q.calls.dealers_fresh id i j v (mine i z p s.named) (mine j z p r.named) apart c.0)
        (λ t. q.calls.dealers_fresh other i j z (record { knows = t; named = s.named }) (record { knows = t; named = r.named }) apart un)
        (case other z s.knows);
    calls_shown = λ other j z s un. ⊎_elim
        (λ p. let c = p.calls j s.named un in q.calls.calls_shown id j v (mine j z p s.named) c.0 ∙ sym c.1)
        (λ t. q.calls.calls_shown other j z (record { knows = t; named = s.named }) un) (case other z s.knows);
    calls_fit = q.calls.calls_fit;
    commits_shown = λ other j z s un. ⊎_elim
        (λ p. let c = p.calls j s.named un in q.calls.commits_shown id j v (mine j z p s.named) c.0 ∙ ap (λ (l : List Entry). last_call j l) (sym p.seen))
        (λ t. q.calls.commits_shown other j z (record { knows = t; named = s.named }) un) (case other z s.knows);
    numbered = λ other j z e s un r own. ⊎_elim
        (λ p. let c = p.calls j s.named un in
        subst (λ (m : ℕ). e.call ≤ m) (sym c.1) (q.calls.numbered id j v e (mine j z p s.named) c.0 (recorded_to e r) own))
        (λ t. q.calls.numbered other j z e (record { knows = t; named = s.named }) un (recorded_to e r) own) (case other z s.knows);
    open_numbered = λ other j z e s un busy r own. ⊎_elim (λ p. not_open z p.phase busy)
        (λ t. q.calls.open_numbered other j z e (record { knows = t; named = s.named }) un busy (recorded_to e r) own) (case other z s.knows);
    begun = λ other z k busy. ⊎_elim (λ p. absurd (busy p.phase)) (λ t. q.calls.begun other z t busy) (case other z k);
  }

  idle_v : (other : ℕ) (z : View) → Knows vs other z → StepTouches id other → z.phase ≡ Idle
  idle_v other z k t = ap (λ (y : View). y.phase) (same_view vs id other v z me k t) ∙ rests

  drops : Drops (λ z. true) (items_of vs) (items_of vs')
  drops x = (
    (λ m. (
      items_into vs x (⊎_elim
          (λ (o : OfEntry vs' x). inl (record { entry = o.entry; recorded = recorded_to o.entry o.recorded; is = o.is }))
          (λ (o : OfOpen vs' x). inr (⊎_elim (λ p. not_open o.view p.phase o.is_open) (λ k. record {
            id = o.id;
            view = o.view;
            knows = k;
            is_open = o.is_open;
            is = o.is;
          }) (case o.id o.view o.knows)))
          (items_from vs' x m)),
      refl,
    )),
    (λ m. items_into vs' x (⊎_elim
        (λ (o : OfEntry vs x). inl (record { entry = o.entry; recorded = recorded_from o.entry o.recorded; is = o.is }))
        (λ (o : OfOpen vs x). inr (⊎_elim (λ t. not_open o.view (idle_v o.id o.view o.knows t) o.is_open)
        (λ t. record { id = o.id; view = o.view; knows = change.kept o.id o.view t o.knows; is_open = o.is_open; is = o.is }) (touched o.id)))
        (items_from vs x m.0))),
  )

  owed_is : (k : ℕ) → owed_by k vs' ≡ owed_by k vs
  owed_is k = owed_same k vs vs'
      (λ o. ⊎_elim (λ t. absurd (let f : Idle ≡ Releasing = sym (idle_v o.id o.view o.knows t) ∙ (q.owed.held o.id k o.view o.knows o.owes).0 in cc))
      (λ t. record { id = o.id; view = o.view; knows = change.kept o.id o.view t o.knows; owes = o.owes }) (touched o.id))
      (λ o. ⊎_elim (λ p. absurd (p.owes k o.owes)) (λ t. record { id = o.id; view = o.view; knows = t; owes = o.owes }) (case o.id o.view o.knows))

  current_is : (k : ℕ) → next_version n ws vs' k ≡ next_version n ws vs k
  current_is k = let same : flag (owed_by k vs') ≡ flag (owed_by k vs) = ap flag (owed_is k) in omega arith

  now_is : now_of n base ws vs' ≡ now_of n base ws vs
  now_is = now_kept good n base ws ws vs vs' (λ z. true) (λ z m e. refl) drops current_is q.items

  undo_at : UndoRestores n base (now_of n base ws vs) ws vs'
  undo_at = record {
    noted = λ other c o z k t. ⊎_elim
        (λ p. absurd (let f : None ≡ Some o = sym (oldest-nil c) ∙ (ap (λ (l : Notes). oldest c l) (sym p.undo) ∙ t) in cc))
        (λ s. q.undo.noted other c o z s t) (case other z k);
    unnoted = λ c lt free. q.undo.unnoted c lt (λ other z k. ⊎_elim
        (λ t. ap (λ (l : Notes). oldest c l) (q.trace.rested other z k (inl (idle_v other z k t))) ∙ oldest-nil c)
        (λ t. free other z (change.kept other z t k)) (touched other));
  }

  stands : (other : ℕ) (z : View) → Knows vs' other z → is_attempt z.phase ≡ true → Knows vs other z
  stands other z k busy = ⊎_elim (λ p. not_attempt z p.phase busy) (λ t. t) (case other z k)

  trace_at : TraceCurrent n base (now_of n base ws vs) ws vs'
  trace_at = record {
    granted = λ other c z k busy t. q.trace.granted other c z (stands other z k busy) busy t;
    legal = λ other z k busy. q.trace.legal other z (stands other z k busy) busy;
    undo_written = λ other c o z k busy t. q.trace.undo_written other c o z (stands other z k busy) busy t;
    written_noted = λ other c z k runs t. q.trace.written_noted other c z (stands other z k (ap is_attempt runs)) runs t;
    last_stands = λ other c x z k runs t. q.trace.last_stands other c x z (stands other z k (ap is_attempt runs)) runs t;
    rested = λ other z k t. ⊎_elim (λ p. p.undo) (λ s. q.trace.rested other z s t) (case other z k);
  }

  pub cuts : ValuesHold good n base ws vs'
  cuts = record {
    serial = q.serial;
    records = records_part;
    calls = calls_part;
    items = items_kept good n base ws ws vs vs' (λ z. true) (λ z m e. refl) drops current_is q.items;
    owed = record { held = λ other k z known t. ⊎_elim (λ p. absurd (p.owes k t)) (λ s. q.owed.held other k z s t) (case other z known) };
    uses = record {
      granted = λ other k x z known busy t. let g = q.uses.granted other k x z (stands other z known busy) busy t in (g.0, g.1 ∙ sym (current_is k));
      once = λ other k x y z known s t. ⊎_elim (λ p. p.once k x y s t) (λ m. q.uses.once other k x y z m s t) (case other z known);
      covered = λ other c z known busy t. q.uses.covered other c z (stands other z known busy) busy t;
    };
    undo = subst (λ (l : List ℕ). UndoRestores n base l ws vs') (sym now_is) undo_at;
    trace = subst (λ (l : List ℕ). TraceCurrent n base l ws vs') (sym now_is) trace_at;
    floor = record {
      floor = λ other z known busy. ⊎_elim (λ p. not_open z p.phase busy) (λ t. q.floor.floor other z t busy) (case other z known);
      causes = λ other i z known one busy. ⊎_elim (λ p. absurd (busy p.phase)) (λ t. q.floor.causes other i z t one busy) (case other z known);
    };
  }

module _ (good : List ℕ → Type 0) (n : ℕ) (base ws : List ℕ) (vs : List View) (id : ℕ) (v : View) (q : ValuesHold good n base ws vs) (me : Knows vs id v)
    (rests : v.phase ≡ Idle) where
  owes_none : (k : ℕ) → has k v.owed ≡ true → ⊥
  owes_none k t = let f : Idle ≡ Releasing = sym rests ∙ (q.owed.held id k v me t).0 in cc

  note_left : IsPart v (left_by_note v)
  note_left = record {
    seen = refl;
    numbers = λ x t. t;
    phase = rests;
    undo = q.trace.rested id v me (inl rests);
    owes = owes_none;
    once = λ k x y s t. q.uses.once id k x y v me s t;
    calls = λ j t un. (un, refl);
    alone = λ j single. q.calls.alone_unjoined id j v me single;
  }

  note_given : IsPart v (note_of v)
  note_given = record {
    seen = refl;
    numbers = λ x t. absurd (differ (has x []) t (has-nil x));
    phase = refl;
    undo = refl;
    owes = λ k t. differ (has k []) t (has-nil k);
    once = λ k x y s t. absurd (none_in (k, x) s);
    calls = λ j t un. absurd (differ (has j []) t (has-nil j));
    alone = λ j single. refl;
  }

  module _ (j : ℕ) (may : MaySplitSeat j v) where
    is_first : number v ≡ j
    is_first = ap (λ (l : List ℕ). slice_index l 0) may.who.2

    first : has j v.who ≡ true
    first = subst (λ (l : List ℕ). has j l ≡ true) (sym may.who.2) (has-join_same j (may.who.0 ∷ may.who.1))

    second : has may.who.0 v.who ≡ true
    second = subst (λ (l : List ℕ). has may.who.0 l ≡ true) (sym may.who.2)
        (has-join_old may.who.0 j (may.who.0 ∷ may.who.1) (has-join_same may.who.0 may.who.1))

    no_call : v.call ≡ 0
    no_call = q.calls.dealers_fresh id may.who.0 j v (record { knows = me; named = second }) (record { knows = me; named = first }) may.who.3 may.unjoined

    seat_left : IsPart v (left_by_split v)
    seat_left = record {
      seen = refl;
      numbers = λ x t. (has-without x (number v) v.who t).1;
      phase = rests;
      undo = q.trace.rested id v me (inl rests);
      owes = owes_none;
      once = λ k x y s t. q.uses.once id k x y v me s t;
      calls = λ i t un. (may.unjoined, refl);
      alone = λ i single. may.unjoined;
    }

    seat_given : IsPart v (given_by_split v)
    seat_given = record {
      seen = refl;
      numbers = λ x t. subst (λ (y : ℕ). has y v.who ≡ true) (sym (has-one x (number v) t ∙ is_first)) first;
      phase = refl;
      undo = refl;
      owes = λ k t. differ (has k []) t (has-nil k);
      once = λ k x y s t. absurd (none_in (k, x) s);
      calls = λ i t un. (may.unjoined, sym no_call);
      alone = λ i single. refl;
    }

pub take_note_values : (good : List ℕ → Type 0) → KeepsValueRuleSplit good MayTakeNote left_by_note note_of
take_note_values good n base ws vs id v h q me may = cuts good n base ws vs id v (left_by_note v) (note_of v) h q me may.phase
    (note_left good n base ws vs id v q me may.phase) (note_given good n base ws vs id v q me may.phase)

pub split_seat_values : (good : List ℕ → Type 0) (j : ℕ) → KeepsValueRuleSplit good (MaySplitSeat j) left_by_split given_by_split
split_seat_values good j n base ws vs id v h q me may = cuts good n base ws vs id v (left_by_split v) (given_by_split v) h q me may.phase
    (seat_left good n base ws vs id v q me may.phase j may) (seat_given good n base ws vs id v q me may.phase j may)
