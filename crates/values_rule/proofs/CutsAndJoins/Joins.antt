-- The join of two views keeps the value invariant: what both have seen is what they have seen together.
use Rattle.values_rule.proofs.Common.{◌≡◌, ◌≢◌, ℕ, ◌≤◌, true, false, ◌⊎◌, inl, inr, ⊎_elim, List, [], ◌∷◌, Some, None, slice_get, slice_set, refl, sym, ap, ◌∙◌}
use Rattle.values_rule.proofs.Common.{subst, arith, dite, ℕ_discrete, Entry, View, Idle, Releasing, Drops, is_attempt, is_open, IsIn, has, flag, Knows, Notes}
use Rattle.values_rule.proofs.Common.{Change, same_view, put_here, put_there, differ, has-nil, LocksHold, IsSeat, oldest, UndoRestores, TraceCurrent, last_call}
use Rattle.values_rule.proofs.Common.{items_of, owed_by, next_version, now_of, gains, IsRecorded, RecordsClosed, CallsCounted, ValuesHold}
use Rattle.history_model.proofs.Views.Changes.{JoinTouches, NewByJoin, change_join}
use Rattle.locks_rule.specs.Joins.{MayMeetNote, MayJoinSeats, spent_view, lacking, after_note, after_joining}
use Rattle.locks_rule.proofs.Joining.{not_one, has-append}
use Rattle.values_rule.proofs.Members.{none_in}
use Rattle.values_rule.proofs.Notes.{oldest-nil}
use Rattle.values_rule.specs.Keeping.{KeepsValueRuleJoin}
use Rattle.values_rule.proofs.Parts.Frames.{records_move, items_kept, now_kept}
use Rattle.values_rule.proofs.CutsAndJoins.Gains.{gains_cases, gains_first, gains_second, gains_apart, last_append, in_lacking, there_entry}
use Rattle.values_rule.proofs.Told.ItemsIn.{OfEntry, OfOpen, items_from, items_into}
use Rattle.values_rule.proofs.Told.Owing.{owed_same}

-- a view that took in another
pub record IsUnion (v w y : View) : Type 0 where
  pub seen : y.seen ≡ gains v.seen w.seen
  pub numbers : (x : ℕ) → has x y.who ≡ true → (has x v.who ≡ true) ⊎ (has x w.who ≡ true)
  pub phase : y.phase ≡ Idle
  pub undo : y.undo ≡ v.undo
  pub owed : y.owed ≡ v.owed
  pub uses : y.uses ≡ v.uses
  -- it took in no number
  pub unjoined : y.joined ≡ false → (v.joined ≡ false) × (y.call ≡ v.call) × ((x : ℕ) → has x y.who ≡ true → has x v.who ≡ true)
  pub alone : (j : ℕ) → y.who ≡ j ∷ [] → y.joined ≡ false

module _ (good : List ℕ → Type 0) (n : ℕ) (base ws : List ℕ) (vs : List View) (id joined : ℕ) (v w y : View)
    (h : LocksHold n base ws vs) (q : ValuesHold good n base ws vs) (ne : joined ≢ id) (me : Knows vs id v) (it : Knows vs joined w)
    (rests : v.phase ≡ Idle) (other_rests : w.phase ≡ Idle) (u : IsUnion v w y) where
  abbrev vs' : List View
  vs' = slice_set (slice_set vs id y) joined spent_view

  change : Change vs vs' (JoinTouches id joined) (NewByJoin id y joined spent_view)
  change = change_join vs id joined y spent_view

  -- a view is the spent one, the joined one, or stands as it was
  case : (other : ℕ) (z : View) → Knows vs' other z → (spent_view ≡ z) ⊎ (((other ≡ id) × (y ≡ z)) ⊎ (Knows vs other z))
  case other z k = ⊎_elim (λ t. ⊎_elim (λ s. inl s.1) (λ s. inr (inl s)) t) (λ t. inr (inr t.1)) (change.cases other z k)

  here : Knows vs' id y
  here = put_there (slice_set vs id y) joined id spent_view y (λ e. ne (sym e)) (put_here vs id v y me)

  mine_recorded : (e : Entry) → IsIn e v.seen → IsRecorded vs e
  mine_recorded e t = record { id = id; view = v; knows = me; seen = t }

  their_recorded : (e : Entry) → IsIn e w.seen → IsRecorded vs e
  their_recorded e t = record { id = joined; view = w; knows = it; seen = t }

  into_first : (e : Entry) → IsIn e v.seen → IsIn e y.seen
  into_first e t = subst (λ (l : List Entry). IsIn e l) (sym u.seen) (gains_first v.seen w.seen e t)

  into_second : (e : Entry) → IsIn e w.seen → IsIn e y.seen
  into_second e t = subst (λ (l : List Entry). IsIn e l) (sym u.seen)
      (gains_second v.seen w.seen e t)

  from_both : (e : Entry) → IsIn e y.seen → IsIn e v.seen ⊎ IsIn e w.seen
  from_both e t = gains_cases v.seen w.seen e (subst (λ (l : List Entry). IsIn e l) u.seen t)

  recorded_to : (e : Entry) → IsRecorded vs' e → IsRecorded vs e
  recorded_to e r = ⊎_elim (λ s. absurd (none_in e (subst (λ (z : View). IsIn e z.seen) (sym s) r.seen)))
      (λ t. ⊎_elim (λ s. ⊎_elim (mine_recorded e) (their_recorded e) (from_both e (subst (λ (z : View). IsIn e z.seen) (sym s.1) r.seen)))
      (λ s. record { id = r.id; view = r.view; knows = s; seen = r.seen }) t) (case r.id r.view r.knows)

  touched : (other : ℕ) → JoinTouches id joined other ⊎ (¬ JoinTouches id joined other)
  touched other = dite (ℕ_discrete other id) (λ e. inl (inl e)) (λ n. dite (ℕ_discrete other joined) (λ e. inl (inr e)) (λ m. inr (λ t. ⊎_elim n m t)))

  recorded_from : (e : Entry) → IsRecorded vs e → IsRecorded vs' e
  recorded_from e r = ⊎_elim
      (λ t. record {
        id = id;
        view = y;
        knows = here;
        seen = ⊎_elim
            (λ s. into_first e (subst (λ (z : View). IsIn e z.seen) (same_view vs id r.id v r.view me r.knows s) r.seen))
            (λ s. into_second e (subst (λ (z : View). IsIn e z.seen) (same_view vs joined r.id w r.view it r.knows s) r.seen)) t;
      })
      (λ away. record { id = r.id; view = r.view; knows = change.kept r.id r.view away r.knows; seen = r.seen }) (touched r.id)

  is_y : (e : Entry) (z : View) → y ≡ z → IsIn e y.seen → IsIn e z.seen
  is_y e z same t = subst (λ (s : View). IsIn e s.seen) same t

  unnumbered : {A : Type 0} (j : ℕ) (z : View) → spent_view ≡ z → has j z.who ≡ true → A
  unnumbered j z s t = absurd (differ (has j []) (subst (λ (r : View). has j r.who ≡ true) (sym s) t) (has-nil j))

  records_part : RecordsClosed n vs'
  records_part = records_move n vs vs' q.records recorded_to recorded_from
      (λ other j z e s r own. ⊎_elim (λ t. unnumbered j z t s.named) (λ t. ⊎_elim
      (λ c. is_y e z c.1 (⊎_elim
      (λ m. into_first e (q.records.own_seen id j v e (record { knows = me; named = m }) r own))
      (λ m. into_second e (q.records.own_seen joined j w e (record { knows = it; named = m }) r own))
      (u.numbers j (subst (λ (x : View). has j x.who ≡ true) (sym c.1) s.named))))
      (λ c. q.records.own_seen other j z e (record { knows = c; named = s.named }) r own) t) (case other z s.knows))
      (λ other z e x k i r knew. ⊎_elim (λ t. absurd (none_in e (subst (λ (s : View). IsIn e s.seen) (sym t) i))) (λ t. ⊎_elim
      (λ c. is_y x z c.1 (⊎_elim
      (λ m. into_first x (q.records.known_seen id v e x me m r knew))
      (λ m. into_second x (q.records.known_seen joined w e x it m r knew))
      (from_both e (subst (λ (s : View). IsIn e s.seen) (sym c.1) i))))
      (λ c. q.records.known_seen other z e x c i r knew) t) (case other z k))
      (λ other z k p r x at more. ⊎_elim
      (λ t. absurd (none_in x (p, subst (λ (s : View). slice_get s.seen p ≡ Some x) (sym t) at))) (λ t. ⊎_elim
      (λ c. let same : z.seen ≡ gains v.seen w.seen = ap (λ (s : View). s.seen) (sym c.1) ∙ u.seen in
      gains_apart v.seen w.seen (q.records.apart id v me) (q.records.apart joined w it) p r x
      (subst (λ (l : List Entry). slice_get l p ≡ Some x) same at) (subst (λ (l : List Entry). slice_get l r ≡ Some x) same more))
      (λ c. q.records.apart other z c p r x at more) t) (case other z k))

  busy_not : {A : Type 0} (z : View) → z.phase ≡ Idle → z.phase ≢ Idle → A
  busy_not z e away = absurd (away e)

  as_seat : (j : ℕ) (z : View) → y ≡ z → has j z.who ≡ true → z.joined ≡ false → IsSeat vs id v j
  as_seat j z same t un = record {
    knows = me;
    named = (u.unjoined (ap (λ (x : View). x.joined) same ∙ un)).2 j (subst (λ (x : View). has j x.who ≡ true) (sym same) t);
  }

  calls_as : (z : View) → y ≡ z → z.joined ≡ false → (v.joined ≡ false) × (z.call ≡ v.call)
  calls_as z same un = let t = u.unjoined (ap (λ (x : View). x.joined) same ∙ un) in (t.0, ap (λ (x : View). x.call) (sym same) ∙ t.1)

  idle_y : (z : View) → y ≡ z → z.phase ≡ Idle
  idle_y z same = ap (λ (x : View). x.phase) (sym same) ∙ u.phase

  idle_spent : (z : View) → spent_view ≡ z → z.phase ≡ Idle
  idle_spent z same = ap (λ (x : View). x.phase) (sym same)

  not_open : {A : Type 0} (z : View) → z.phase ≡ Idle → is_open z.phase ≡ true → A
  not_open z e t = absurd (let f : true ≡ false = sym t ∙ ap is_open e in cc)

  calls_part : CallsCounted n ws vs'
  calls_part = record {
    callers_alone = λ other z k busy. ⊎_elim (λ t. busy_not z (idle_spent z t) busy)
        (λ t. ⊎_elim (λ c. busy_not z (idle_y z c.1) busy) (λ c. q.calls.callers_alone other z c busy) t) (case other z k);
    alone_unjoined = λ other j z k single. ⊎_elim (λ t. ap (λ (x : View). x.joined) (sym t)) (λ t. ⊎_elim
        (λ c. ap (λ (x : View). x.joined) (sym c.1) ∙ u.alone j (ap (λ (x : View). x.who) c.1 ∙ single))
        (λ c. q.calls.alone_unjoined other j z c single) t) (case other z k);
    dealers_fresh = λ other i j z s r apart un. ⊎_elim (λ t. unnumbered i z t s.named) (λ t. ⊎_elim
        (λ c. let a = calls_as z c.1 un in a.1 ∙ q.calls.dealers_fresh id i j v (as_seat i z c.1 s.named un) (as_seat j z c.1 r.named un) apart a.0)
        (λ c. q.calls.dealers_fresh other i j z (record { knows = c; named = s.named }) (record { knows = c; named = r.named }) apart un) t)
        (case other z s.knows);
    calls_shown = λ other j z s un. ⊎_elim (λ t. unnumbered j z t s.named) (λ t. ⊎_elim
        (λ c. let a = calls_as z c.1 un in q.calls.calls_shown id j v (as_seat j z c.1 s.named un) a.0 ∙ sym a.1)
        (λ c. q.calls.calls_shown other j z (record { knows = c; named = s.named }) un) t) (case other z s.knows);
    calls_fit = q.calls.calls_fit;
    commits_shown = λ other j z s un. ⊎_elim (λ t. unnumbered j z t s.named) (λ t. ⊎_elim
        (λ c. let a = calls_as z c.1 un in let seat = as_seat j z c.1 s.named un in
        q.calls.commits_shown id j v seat a.0
        ∙ (sym (last_append j v.seen (lacking v.seen w.seen) (λ e i own. let l = in_lacking v.seen w.seen e i in
        differ (_) (there_entry e v.seen (q.records.own_seen id j v e seat (their_recorded e l.0) own)) l.1))
        ∙ ap (λ (l : List Entry). last_call j l) (sym (ap (λ (x : View). x.seen) (sym c.1) ∙ u.seen))))
        (λ c. q.calls.commits_shown other j z (record { knows = c; named = s.named }) un) t) (case other z s.knows);
    numbered = λ other j z e s un r own. ⊎_elim (λ t. unnumbered j z t s.named) (λ t. ⊎_elim
        (λ c. let a = calls_as z c.1 un in
        subst (λ (m : ℕ). e.call ≤ m) (sym a.1) (q.calls.numbered id j v e (as_seat j z c.1 s.named un) a.0 (recorded_to e r) own))
        (λ c. q.calls.numbered other j z e (record { knows = c; named = s.named }) un (recorded_to e r) own) t) (case other z s.knows);
    open_numbered = λ other j z e s un busy r own. ⊎_elim (λ t. unnumbered j z t s.named) (λ t. ⊎_elim
        (λ c. not_open z (idle_y z c.1) busy)
        (λ c. q.calls.open_numbered other j z e (record { knows = c; named = s.named }) un busy (recorded_to e r) own) t) (case other z s.knows);
    begun = λ other z k busy. ⊎_elim (λ t. busy_not z (idle_spent z t) busy)
        (λ t. ⊎_elim (λ c. busy_not z (idle_y z c.1) busy) (λ c. q.calls.begun other z c busy) t) (case other z k);
  }

  drops : Drops (λ z. true) (items_of vs) (items_of vs')
  drops x = (
    (λ m. (
      items_into vs x (⊎_elim
          (λ (o : OfEntry vs' x). inl (record { entry = o.entry; recorded = recorded_to o.entry o.recorded; is = o.is }))
          (λ (o : OfOpen vs' x). inr (⊎_elim (λ t. not_open o.view (idle_spent o.view t) o.is_open) (λ t. ⊎_elim
          (λ c. not_open o.view (idle_y o.view c.1) o.is_open)
          (λ c. record { id = o.id; view = o.view; knows = c; is_open = o.is_open; is = o.is }) t) (case o.id o.view o.knows)))
          (items_from vs' x m)),
      refl,
    )),
    (λ m. items_into vs' x (⊎_elim
        (λ (o : OfEntry vs x). inl (record { entry = o.entry; recorded = recorded_from o.entry o.recorded; is = o.is }))
        (λ (o : OfOpen vs x). inr (⊎_elim
        (λ t. not_open o.view (⊎_elim (λ s. ap (λ (z : View). z.phase) (same_view vs id o.id v o.view me o.knows s) ∙ rests)
        (λ s. ap (λ (z : View). z.phase) (same_view vs joined o.id w o.view it o.knows s) ∙ other_rests) t) o.is_open)
        (λ away. record { id = o.id; view = o.view; knows = change.kept o.id o.view away o.knows; is_open = o.is_open; is = o.is }) (touched o.id)))
        (items_from vs x m.0))),
  )

  -- a view between calls owes nothing
  owes_nothing : {A : Type 0} (other k : ℕ) (z : View) → Knows vs other z → z.phase ≡ Idle → has k z.owed ≡ true → A
  owes_nothing other k z known e t = absurd (let o = (q.owed.held other k z known t).0 in let f : Idle ≡ Releasing = sym e ∙ o in cc)

  owed_is : (k : ℕ) → owed_by k vs' ≡ owed_by k vs
  owed_is k = owed_same k vs vs'
      (λ o. ⊎_elim
      (λ t. owes_nothing o.id k o.view o.knows (⊎_elim (λ s. ap (λ (z : View). z.phase) (same_view vs id o.id v o.view me o.knows s) ∙ rests)
      (λ s. ap (λ (z : View). z.phase) (same_view vs joined o.id w o.view it o.knows s) ∙ other_rests) t) o.owes)
      (λ away. record { id = o.id; view = o.view; knows = change.kept o.id o.view away o.knows; owes = o.owes }) (touched o.id))
      (λ o. ⊎_elim
      (λ t. absurd (differ (has k []) (subst (λ (z : View). has k z.owed ≡ true) (sym t) o.owes) (has-nil k)))
      (λ t. ⊎_elim (λ c. owes_nothing id k v me rests
      (subst (λ (l : List ℕ). has k l ≡ true) u.owed (subst (λ (z : View). has k z.owed ≡ true) (sym c.1) o.owes)))
      (λ c. record { id = o.id; view = o.view; knows = c; owes = o.owes }) t) (case o.id o.view o.knows))

  current_is : (k : ℕ) → next_version n ws vs' k ≡ next_version n ws vs k
  current_is k = let same : flag (owed_by k vs') ≡ flag (owed_by k vs) = ap flag (owed_is k) in omega arith

  now_is : now_of n base ws vs' ≡ now_of n base ws vs
  now_is = now_kept good n base ws ws vs vs' (λ z. true) (λ z m e. refl) drops current_is q.items

  nothing : v.undo ≡ []
  nothing = q.trace.rested id v me (inl rests)

  nothing_noted : (a o : ℕ) (z : View) → z.undo ≡ [] → oldest a z.undo ≡ Some o → ⊥
  nothing_noted a o z e t = let f : None ≡ Some o = sym (oldest-nil a) ∙ (ap (λ (l : Notes). oldest a l) (sym e) ∙ t) in cc

  undo_y : (z : View) → y ≡ z → z.undo ≡ []
  undo_y z same = ap (λ (x : View). x.undo) (sym same) ∙ (u.undo ∙ nothing)

  undo_at : UndoRestores n base (now_of n base ws vs) ws vs'
  undo_at = record {
    noted = λ other a o z k t. ⊎_elim (λ s. absurd (nothing_noted a o z (ap (λ (x : View). x.undo) (sym s)) t)) (λ s. ⊎_elim
        (λ c. absurd (nothing_noted a o z (undo_y z c.1) t)) (λ c. q.undo.noted other a o z c t) s) (case other z k);
    unnoted = λ a lt free. q.undo.unnoted a lt (λ other z k. ⊎_elim
        (λ t. ap (λ (l : Notes). oldest a l)
        (q.trace.rested other z k (inl (⊎_elim (λ s. ap (λ (x : View). x.phase) (same_view vs id other v z me k s) ∙ rests)
        (λ s. ap (λ (x : View). x.phase) (same_view vs joined other w z it k s) ∙ other_rests) t))) ∙ oldest-nil a)
        (λ away. free other z (change.kept other z away k)) (touched other));
  }

  not_attempt : {A : Type 0} (z : View) → z.phase ≡ Idle → is_attempt z.phase ≡ true → A
  not_attempt z e t = absurd (let f : true ≡ false = sym t ∙ ap is_attempt e in cc)

  -- if the view is in an attempt, it stands as it was
  attempt_stands : (other : ℕ) (z : View) → Knows vs' other z → is_attempt z.phase ≡ true → Knows vs other z
  attempt_stands other z k busy = ⊎_elim (λ t. not_attempt z (idle_spent z t) busy)
      (λ t. ⊎_elim (λ c. not_attempt z (idle_y z c.1) busy) (λ c. c) t) (case other z k)

  trace_at : TraceCurrent n base (now_of n base ws vs) ws vs'
  trace_at = record {
    granted = λ other a z k busy t. q.trace.granted other a z (attempt_stands other z k busy) busy t;
    legal = λ other z k busy. q.trace.legal other z (attempt_stands other z k busy) busy;
    undo_written = λ other a o z k busy t. q.trace.undo_written other a o z (attempt_stands other z k busy) busy t;
    written_noted = λ other a z k runs t. q.trace.written_noted other a z (attempt_stands other z k (ap is_attempt runs)) runs t;
    last_stands = λ other a x z k runs t. q.trace.last_stands other a x z (attempt_stands other z k (ap is_attempt runs)) runs t;
    rested = λ other z k t. ⊎_elim (λ s. ap (λ (x : View). x.undo) (sym s))
        (λ s. ⊎_elim (λ c. undo_y z c.1) (λ c. q.trace.rested other z c t) s) (case other z k);
  }

  pub joins : ValuesHold good n base ws vs'
  joins = record {
    serial = q.serial;
    records = records_part;
    calls = calls_part;
    items = items_kept good n base ws ws vs vs' (λ z. true) (λ z m e. refl) drops current_is q.items;
    owed = record {
      held = λ other k z known t. ⊎_elim
          (λ s. absurd (differ (has k []) (subst (λ (x : View). has k x.owed ≡ true) (sym s) t) (has-nil k)))
          (λ s. ⊎_elim (λ c. owes_nothing id k v me rests
          (subst (λ (l : List ℕ). has k l ≡ true) u.owed (subst (λ (x : View). has k x.owed ≡ true) (sym c.1) t)))
          (λ c. q.owed.held other k z c t) s) (case other z known);
    };
    uses = record {
      granted = λ other k x z known busy t. let g = q.uses.granted other k x z (attempt_stands other z known busy) busy t in (g.0, g.1 ∙ sym (current_is k));
      once = λ other k x r z known s t. ⊎_elim
          (λ c. absurd (none_in (k, x) (subst (λ (m : View). IsIn (k, x) m.uses) (sym c) s)))
          (λ c. ⊎_elim
          (λ m. let same : z.uses ≡ v.uses = ap (λ (l : View). l.uses) (sym m.1) ∙ u.uses in
          q.uses.once id k x r v me (subst (λ (l : List (ℕ × ℕ)). IsIn (k, x) l) same s) (subst (λ (l : List (ℕ × ℕ)). IsIn (k, r) l) same t))
          (λ m. q.uses.once other k x r z m s t) c) (case other z known);
      covered = λ other a z known busy t. q.uses.covered other a z (attempt_stands other z known busy) busy t;
    };
    undo = subst (λ (l : List ℕ). UndoRestores n base l ws vs') (sym now_is) undo_at;
    trace = subst (λ (l : List ℕ). TraceCurrent n base l ws vs') (sym now_is) trace_at;
    floor = record {
      floor = λ other z known busy. ⊎_elim (λ t. not_open z (idle_spent z t) busy)
          (λ t. ⊎_elim (λ c. not_open z (idle_y z c.1) busy) (λ c. q.floor.floor other z c busy) t) (case other z known);
      causes = λ other i z known one busy. ⊎_elim (λ t. busy_not z (idle_spent z t) busy)
          (λ t. ⊎_elim (λ c. busy_not z (idle_y z c.1) busy) (λ c. q.floor.causes other i z c one busy) t) (case other z known);
    };
  }

pub meet_note_values : (good : List ℕ → Type 0) → KeepsValueRuleJoin good MayMeetNote after_note
meet_note_values good n base ws vs id other v w h q ne me it may =
    joins good n base ws vs id other v w (after_note v w) h q ne me it may.phase may.note_phase record {
      seen = refl;
      numbers = λ x t. inl t;
      phase = may.phase;
      undo = refl;
      owed = refl;
      uses = refl;
      unjoined = λ un. (un, refl, λ x t. t);
      alone = λ j single. q.calls.alone_unjoined id j v me single;
    }

pub join_seats_values : (good : List ℕ → Type 0) → KeepsValueRuleJoin good MayJoinSeats after_joining
join_seats_values good n base ws vs id other v w h q ne me it may =
    joins good n base ws vs id other v w (after_joining v w) h q ne me it may.phase may.other_phase record {
      seen = refl;
      numbers = λ x t. has-append x v.who w.who t;
      phase = may.phase;
      undo = refl;
      owed = refl;
      uses = refl;
      unjoined = λ un. absurd (let f : true ≡ false = un in cc);
      alone = λ j single. absurd (not_one v.who w.who may.named.0 may.other_named.0 j may.named.1 may.other_named.1 single);
    }
