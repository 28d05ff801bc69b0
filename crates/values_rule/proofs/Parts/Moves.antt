-- What a step owes that adds no item, part by part, and that it then keeps the value invariant. One seat goes from the view
-- v to w while the words go from ws to ws'.
use Rattle.values_rule.proofs.Common.{◌≡◌, ◌≢◌, ℕ, ◌<◌, true, ◌⊎◌, ⊎_elim, List, [], ◌∷◌, length, Option, Some, None, IsSome, slice_index, slice_set, refl, sym}
use Rattle.values_rule.proofs.Common.{ap, ◌∙◌, subst, arith, dite, ℕ_discrete, Item, View, Idle, Running, Releasing, Drops, is_attempt, is_open, IsIn}
use Rattle.values_rule.proofs.Common.{lock_of_word, has, flag, Knows, serial_word, IsLegalTrace, Writes, Touches, value_after, HasWriteGrant, IsGranted}
use Rattle.values_rule.proofs.Common.{same_view, put_here, put_there, put_cases, has-join_same, LocksHold, IsSeat, table_value, oldest, UndoRestores}
use Rattle.values_rule.proofs.Common.{TraceCurrent, version_at, items_of, owed_by, next_version, now_of, AreCauses, CallsCounted, ValuesHold}
use Rattle.history_model.proofs.Traces.LastEvents.{touched_by_last}
use Rattle.values_rule.proofs.Traces.{UndoMoves, TraceMoves}
use Rattle.values_rule.proofs.Phases.{attempt_runs}
use Rattle.values_rule.proofs.Stores.{shut_out}
use Rattle.values_rule.proofs.Parts.Asides.{OwnAttempt, aside_drops}
use Rattle.values_rule.proofs.Parts.Frames.{records_same, items_kept, now_kept}
use Rattle.values_rule.proofs.Told.Owing.{owed_same}

-- uses and what is owed, if these are the versions
pub record UsesMove (ws : List ℕ) (version : ℕ → ℕ) (v w : View) : Type 0 where
  pub owed : (k : ℕ) → has k w.owed ≡ has k v.owed
  pub held : (k y : ℕ) → has k w.owed ≡ true → (v.phase ≡ Releasing) × HasWriteGrant v k × IsIn (k, y) v.uses
      → (w.phase ≡ Releasing) × HasWriteGrant w k × IsIn (k, y) w.uses
  pub granted : (k y : ℕ) → is_attempt w.phase ≡ true → IsIn (k, y) w.uses → IsGranted w k × (y ≡ version k)
  pub once : (k y z : ℕ) → IsIn (k, y) w.uses → IsIn (k, z) w.uses → y ≡ z
  pub covered : (a : ℕ) → is_attempt w.phase ≡ true → Touches w.trace a → (y : ℕ) × IsIn (lock_of_word a, y) w.uses

-- what was seen, calls and attempts
pub record CallMoves (n : ℕ) (ws ws' : List ℕ) (vs : List View) (id : ℕ) (v w : View) : Type 0 where
  pub serial : slice_index ws' serial_word ≡ slice_index ws serial_word
  pub versions : (k : ℕ) → version_at n ws' k ≡ version_at n ws k
  pub who : w.who ≡ v.who
  pub seen : w.seen ≡ v.seen
  pub calls : CallsCounted n ws' (slice_set vs id w)
  pub attempts_to : (z : Item) → is_open w.phase ≡ true → OwnAttempt w z → (is_open v.phase ≡ true) × OwnAttempt v z
  pub attempts_from : (z : Item) → is_open v.phase ≡ true → OwnAttempt v z → (is_open w.phase ≡ true) × OwnAttempt w z
  pub floor : is_open w.phase ≡ true → w.floor ≡ length w.seen
  pub causes : (j : ℕ) → w.who ≡ j ∷ [] → w.phase ≢ Idle → AreCauses n j w.stamp w.floor w.abandoned

module _ (good : List ℕ → Type 0) (n : ℕ) (base ws ws' : List ℕ) (vs : List View) (id : ℕ) (v w : View)
    (h : LocksHold n base ws vs) (q : ValuesHold good n base ws vs) (me : Knows vs id v)
    (c : CallMoves n ws ws' vs id v w) (r : UsesMove ws (next_version n ws vs) v w) (undo : UndoMoves n base (now_of n base ws vs) ws ws' v w)
    (trace : TraceMoves n base (now_of n base ws vs) ws' w) where
  abbrev vs' : List View
  vs' = slice_set vs id w

  case : (other : ℕ) (u : View) → Knows vs' other u → ((other ≡ id) × (w ≡ u)) ⊎ ((other ≢ id) × Knows vs other u)
  case other u e = put_cases vs id other w u e

  owed_is : (k : ℕ) → owed_by k vs' ≡ owed_by k vs
  owed_is k = owed_same k vs vs'
      (λ o. dite (ℕ_discrete o.id id)
      (λ e. record {
        id = id;
        view = w;
        knows = put_here vs id v w me;
        owes = r.owed k ∙ subst (λ (u : View). has k u.owed ≡ true) (same_view vs id o.id v o.view me o.knows e) o.owes;
      })
      (λ ne. record { id = o.id; view = o.view; knows = put_there vs id o.id w o.view ne o.knows; owes = o.owes }))
      (λ o. ⊎_elim
      (λ t. record { id = id; view = v; knows = me; owes = sym (r.owed k) ∙ subst (λ (u : View). has k u.owed ≡ true) (sym t.1) o.owes })
      (λ t. record { id = o.id; view = o.view; knows = t.1; owes = o.owes }) (case o.id o.view o.knows))

  current_is : (k : ℕ) → next_version n ws' vs' k ≡ next_version n ws vs k
  current_is k = let same : flag (owed_by k vs') ≡ flag (owed_by k vs) = ap flag (owed_is k) in let word = c.versions k in omega arith

  drops : Drops (λ z. true) (items_of vs) (items_of vs')
  drops = aside_drops vs id v w me c.seen c.attempts_to c.attempts_from

  now_is : now_of n base ws' vs' ≡ now_of n base ws vs
  now_is = now_kept good n base ws ws' vs vs' (λ z. true) (λ z m e. refl) drops current_is q.items

  -- a word that no view notes now: no view noted it before, or the step left its value
  was_free : (a : ℕ) → oldest a v.undo ≡ None → ((other : ℕ) (u : View) → Knows (slice_set vs id w) other u → oldest a u.undo ≡ None)
      → (other : ℕ) (u : View) → Knows vs other u → oldest a u.undo ≡ None
  was_free a mine free other u e = dite (ℕ_discrete other id)
      (λ same. subst (λ (x : View). oldest a x.undo ≡ None) (sym (same_view vs id other v u me e same)) mine)
      (λ ne. free other u (put_there vs id other w u ne e))

  undo_at : UndoRestores n base (now_of n base ws vs) ws' vs'
  undo_at = record {
    noted = λ other a o u k t. ⊎_elim
        (λ z. let d = undo.noted a o (subst (λ (x : View). oldest a x.undo ≡ Some o) (sym z.1) t) in
        (d.0, subst (λ (x : View). HasWriteGrant x (lock_of_word a)) z.1 d.1, d.2))
        (λ z. q.undo.noted other a o u z.1 t) (case other u k);
    unnoted = λ a lt free. ⊎_elim
        (λ (z : (oldest a v.undo ≡ None) × (table_value n ws' a ≡ table_value n ws a)). q.undo.unnoted a lt (was_free a z.0 free)
        ∙ ap (λ (x : ℕ). Some x) (sym z.1))
        (λ z. z) (undo.unnoted a lt (free id w (put_here vs id v w me)));
  }

  -- a word of another running seat stays
  others_value : (other a x : ℕ) (u : View) → other ≢ id → Knows vs other u → u.phase ≡ Running
      → (a < length base) × IsGranted u (lock_of_word a) → table_value n ws a ≡ x → table_value n ws' a ≡ x
  others_value other a x u ne k runs g is =
      let single = q.calls.callers_alone other u k (λ idle. let z : Running ≡ Idle = sym runs ∙ idle in cc) in
      let seat : IsSeat vs other u single.0 = record {
        knows = k;
        named = subst (λ (l : List ℕ). has single.0 l ≡ true) (sym single.1) (has-join_same single.0 []);
      } in
      undo.foreign a g.0 (λ writer. shut_out n base ws vs id other single.0 (lock_of_word a) v u h ne me seat g.1 writer) ∙ is

  trace_at : TraceCurrent n base (now_of n base ws vs) ws' vs'
  trace_at = record {
    granted = λ other a u k busy t. ⊎_elim
        (λ z. let d = trace.granted a (subst (λ (x : View). is_attempt x.phase ≡ true) (sym z.1) busy)
        (subst (λ (x : View). Touches x.trace a) (sym z.1) t) in (d.0, subst (λ (x : View). IsGranted x (lock_of_word a)) z.1 d.1))
        (λ z. q.trace.granted other a u z.1 busy t) (case other u k);
    legal = λ other u k busy. ⊎_elim
        (λ z. subst (λ (x : View). IsLegalTrace x.trace (now_of n base ws vs)) z.1
        (trace.legal (subst (λ (x : View). is_attempt x.phase ≡ true) (sym z.1) busy)))
        (λ z. q.trace.legal other u z.1 busy) (case other u k);
    undo_written = λ other a o u k busy t. ⊎_elim
        (λ z. subst (λ (x : View). Writes x.trace a) z.1
        (trace.undo_written a o (subst (λ (x : View). is_attempt x.phase ≡ true) (sym z.1) busy)
        (subst (λ (x : View). oldest a x.undo ≡ Some o) (sym z.1) t)))
        (λ z. q.trace.undo_written other a o u z.1 busy t) (case other u k);
    written_noted = λ other a u k runs t. ⊎_elim
        (λ z. subst (λ (x : View). IsSome (oldest a x.undo)) z.1
        (trace.written_noted a (subst (λ (x : View). x.phase ≡ Running) (sym z.1) runs) (subst (λ (x : View). Writes x.trace a) (sym z.1) t)))
        (λ z. q.trace.written_noted other a u z.1 runs t) (case other u k);
    last_stands = λ other a x u k runs t. ⊎_elim
        (λ z. trace.last_stands a x (subst (λ (y : View). y.phase ≡ Running) (sym z.1) runs)
        (subst (λ (y : View). value_after y.trace a None ≡ Some x) (sym z.1) t))
        (λ z. others_value other a x u z.0 z.1 runs
        (q.trace.granted other a u z.1 (attempt_runs u runs) (touched_by_last u.trace a (subst (λ (o : Option ℕ). IsSome o) (sym t) refl)))
        (q.trace.last_stands other a x u z.1 runs t)) (case other u k);
    rested = λ other u k t. ⊎_elim
        (λ z. subst (λ (x : View). x.undo ≡ []) z.1 (trace.rested (subst (λ (x : View). (x.phase ≡ Idle) ⊎ (x.phase ≡ Releasing)) (sym z.1) t)))
        (λ z. q.trace.rested other u z.1 t) (case other u k);
  }

  pub moves : ValuesHold good n base ws' vs'
  moves = record {
    serial = c.serial ∙ q.serial;
    records = records_same vs id v w me c.seen n c.who q.records;
    calls = c.calls;
    items = items_kept good n base ws ws' vs vs' (λ z. true) (λ z m e. refl) drops current_is q.items;
    owed = record {
      held = λ other k u known t. ⊎_elim
          (λ z. let mine : has k w.owed ≡ true = subst (λ (y : View). has k y.owed ≡ true) (sym z.1) t in
          let o = q.owed.held id k v me (sym (r.owed k) ∙ mine) in
          let d = r.held k (version_at n ws k) mine o in
          subst (λ (y : View). (y.phase ≡ Releasing) × HasWriteGrant y k × IsIn (k, version_at n ws' k) y.uses) z.1
          (d.0, d.1, subst (λ (m : ℕ). IsIn (k, m) w.uses) (sym (c.versions k)) d.2))
          (λ z. let o = q.owed.held other k u z.1 t in (o.0, o.1, subst (λ (m : ℕ). IsIn (k, m) u.uses) (sym (c.versions k)) o.2)) (case other u known);
    };
    uses = record {
      granted = λ other k y u known b t. ⊎_elim
          (λ z. let g = r.granted k y (subst (λ (x : View). is_attempt x.phase ≡ true) (sym z.1) b) (subst (λ (x : View). IsIn (k, y) x.uses) (sym z.1) t) in
          (subst (λ (x : View). IsGranted x k) z.1 g.0, g.1 ∙ sym (current_is k)))
          (λ z. let g = q.uses.granted other k y u z.1 b t in (g.0, g.1 ∙ sym (current_is k))) (case other u known);
      once = λ other k y x u known s t. ⊎_elim
          (λ z. r.once k y x (subst (λ (l : View). IsIn (k, y) l.uses) (sym z.1) s) (subst (λ (l : View). IsIn (k, x) l.uses) (sym z.1) t))
          (λ z. q.uses.once other k y x u z.1 s t) (case other u known);
      covered = λ other a u known b t. ⊎_elim
          (λ z. subst (λ (x : View). (y : ℕ) × IsIn (lock_of_word a, y) x.uses) z.1
          (r.covered a (subst (λ (x : View). is_attempt x.phase ≡ true) (sym z.1) b) (subst (λ (x : View). Touches x.trace a) (sym z.1) t)))
          (λ z. q.uses.covered other a u z.1 b t) (case other u known);
    };
    undo = subst (λ (l : List ℕ). UndoRestores n base l ws' vs') (sym now_is) undo_at;
    trace = subst (λ (l : List ℕ). TraceCurrent n base l ws' vs') (sym now_is) trace_at;
    floor = record {
      floor = λ other u known b. ⊎_elim
          (λ z. subst (λ (x : View). x.floor ≡ length x.seen) z.1 (c.floor (subst (λ (x : View). is_open x.phase ≡ true) (sym z.1) b)))
          (λ z. q.floor.floor other u z.1 b) (case other u known);
      causes = λ other i u known one busy. ⊎_elim
          (λ z. subst (λ (x : View). AreCauses n i x.stamp x.floor x.abandoned) z.1
          (c.causes i (ap (λ (x : View). x.who) z.1 ∙ one) (subst (λ (x : View). x.phase ≢ Idle) (sym z.1) busy)))
          (λ z. q.floor.causes other i u z.1 one busy) (case other u known);
    };
  }
