-- A call that is given up keeps the value invariant: an arrangement without its attempts is one.
use Rattle.values_rule.proofs.Common.{◌≡◌, ◌≢◌, ℕ, true, false, ◌⊎◌, ⊎_elim, List, [], ◌∷◌, Some, None, slice_set, sym, ap, ◌∙◌, subst, arith, dite, ℕ_discrete}
use Rattle.values_rule.proofs.Common.{View, Idle, is_attempt, is_open, IsIn, has, flag, Knows, Notes, same_view, put_there, put_cases, LocksHold, oldest}
use Rattle.values_rule.proofs.Common.{UndoRestores, TraceCurrent, owed_by, next_version, now_of, SameValueWords, AreCauses, ValuesHold}
use Rattle.values_rule.proofs.Notes.{oldest-nil}
use Rattle.values_rule.specs.Keeping.{GivesUp, GivingUpKeeps}
use Rattle.values_rule.proofs.Parts.Asides.{is_kept, entries_stay, giving_up_drops}
use Rattle.values_rule.proofs.Told.Excludes.{not_released}
use Rattle.values_rule.proofs.Phases.{attempt_open, open_begun}
use Rattle.values_rule.proofs.Parts.Frames.{records_same, calls_same, items_kept, now_kept}
use Rattle.values_rule.proofs.Told.Owing.{owed_same}

module _ (good : List ℕ → Type 0) (n : ℕ) (base ws ws' : List ℕ) (vs : List View) (id j : ℕ) (v w : View)
    (h : LocksHold n base ws vs) (q : ValuesHold good n base ws vs) (me : Knows vs id v) (single : v.who ≡ j ∷ []) (opened : is_open v.phase ≡ true)
    (g : GivesUp v w) (s : SameValueWords n ws ws') where
  abbrev vs' : List View
  vs' = slice_set vs id w

  case : (other : ℕ) (u : View) → Knows vs' other u → ((other ≡ id) × (w ≡ u)) ⊎ ((other ≢ id) × Knows vs other u)
  case other u e = put_cases vs id other w u e

  owes_none : (k : ℕ) → has k v.owed ≡ true → ⊥
  owes_none k t = not_released v.phase opened (q.owed.held id k v me t).0

  owed_is : (k : ℕ) → owed_by k vs' ≡ owed_by k vs
  owed_is k = owed_same k vs vs'
      (λ o. dite (ℕ_discrete o.id id)
      (λ e. absurd (owes_none k (subst (λ (u : View). has k u.owed ≡ true) (same_view vs id o.id v o.view me o.knows e) o.owes)))
      (λ ne. record { id = o.id; view = o.view; knows = put_there vs id o.id w o.view ne o.knows; owes = o.owes }))
      (λ o. ⊎_elim
      (λ c. absurd (owes_none k (subst (λ (l : List ℕ). has k l ≡ true) (ap (λ (y : View). y.owed) (sym c.1) ∙ g.owed) o.owes)))
      (λ c. record { id = o.id; view = o.view; knows = c.1; owes = o.owes }) (case o.id o.view o.knows))

  current_is : (k : ℕ) → next_version n ws' vs' k ≡ next_version n ws vs k
  current_is k = let same : flag (owed_by k vs') ≡ flag (owed_by k vs) = ap flag (owed_is k) in let word = s.versions k in omega arith

  now_is : now_of n base ws' vs' ≡ now_of n base ws vs
  now_is = now_kept good n base ws ws' vs vs' (is_kept j v.call) (entries_stay good n base ws vs id j v w h q me single opened g.seen g.over)
      (giving_up_drops good n base ws vs id j v w h q me single opened g.seen g.over) current_is q.items

  no_note : (a o : ℕ) (u : View) → w ≡ u → oldest a u.undo ≡ Some o → ⊥
  no_note a o u same t = let z : None ≡ Some o = sym (oldest-nil a)
      ∙ (ap (λ (l : Notes). oldest a l) (sym (ap (λ (y : View). y.undo) (sym same) ∙ g.undone)) ∙ t) in cc

  no_attempt : {A : Type 0} (u : View) → w ≡ u → is_attempt u.phase ≡ true → A
  no_attempt u same t = absurd (let z : true ≡ false = sym (attempt_open u.phase t) ∙ (ap (λ (y : View). is_open y.phase) (sym same) ∙ g.over) in cc)

  undo_at : UndoRestores n base (now_of n base ws vs) ws' vs'
  undo_at = record {
    noted = λ other a o u k t. ⊎_elim (λ c. absurd (no_note a o u c.1 t)) (λ c. q.undo.noted other a o u c.1 t) (case other u k);
    unnoted = λ a lt free. q.undo.unnoted a lt (λ other u k. dite (ℕ_discrete other id)
        (λ e. ap (λ (y : View). oldest a y.undo) (same_view vs id other v u me k e) ∙ (ap (λ (l : Notes). oldest a l) g.was_undone ∙ oldest-nil a))
        (λ ne. free other u (put_there vs id other w u ne k))) ∙ ap (λ (m : ℕ). Some m) (sym (s.values a));
  }

  trace_at : TraceCurrent n base (now_of n base ws vs) ws' vs'
  trace_at = record {
    granted = λ other a u k busy t. ⊎_elim (λ c. no_attempt u c.1 busy) (λ c. q.trace.granted other a u c.1 busy t) (case other u k);
    legal = λ other u k busy. ⊎_elim (λ c. no_attempt u c.1 busy) (λ c. q.trace.legal other u c.1 busy) (case other u k);
    undo_written = λ other a o u k busy t. ⊎_elim (λ c. no_attempt u c.1 busy) (λ c. q.trace.undo_written other a o u c.1 busy t) (case other u k);
    written_noted = λ other a u k runs t. ⊎_elim (λ c. no_attempt u c.1 (ap is_attempt runs))
        (λ c. q.trace.written_noted other a u c.1 runs t) (case other u k);
    last_stands = λ other a x u k runs t. ⊎_elim (λ c. no_attempt u c.1 (ap is_attempt runs))
        (λ c. s.values a ∙ q.trace.last_stands other a x u c.1 runs t) (case other u k);
    rested = λ other u k t. ⊎_elim (λ c. ap (λ (y : View). y.undo) (sym c.1) ∙ g.undone) (λ c. q.trace.rested other u c.1 t) (case other u k);
  }

  pub given_up : ValuesHold good n base ws' vs'
  given_up = record {
    serial = s.serial ∙ q.serial;
    records = records_same vs id v w me g.seen n g.who q.records;
    calls = calls_same vs id v w me g.seen n ws ws' g.who g.joined g.call (λ b. open_begun v.phase opened)
        (λ b. opened) s.calls s.commits (λ i u other t. h.numbers_below other i u t) q.calls;
    items = items_kept good n base ws ws' vs vs' (is_kept j v.call) (entries_stay good n base ws vs id j v w h q me single opened g.seen g.over)
        (giving_up_drops good n base ws vs id j v w h q me single opened g.seen g.over) current_is q.items;
    owed = record {
      held = λ other k u known t. ⊎_elim
          (λ c. absurd (owes_none k (subst (λ (l : List ℕ). has k l ≡ true) (ap (λ (y : View). y.owed) (sym c.1) ∙ g.owed) t)))
          (λ c. let o = q.owed.held other k u c.1 t in (o.0, o.1, subst (λ (m : ℕ). IsIn (k, m) u.uses) (sym (s.versions k)) o.2)) (case other u known);
    };
    uses = record {
      granted = λ other k y u known b t. ⊎_elim (λ c. no_attempt u c.1 b)
          (λ c. let r = q.uses.granted other k y u c.1 b t in (r.0, r.1 ∙ sym (current_is k))) (case other u known);
      once = λ other k y z u known a b. ⊎_elim
          (λ c. let same : u.uses ≡ v.uses = ap (λ (m : View). m.uses) (sym c.1) ∙ g.uses in
          q.uses.once id k y z v me (subst (λ (l : List (ℕ × ℕ)). IsIn (k, y) l) same a) (subst (λ (l : List (ℕ × ℕ)). IsIn (k, z) l) same b))
          (λ c. q.uses.once other k y z u c.1 a b) (case other u known);
      covered = λ other a u known b t. ⊎_elim (λ c. no_attempt u c.1 b) (λ c. q.uses.covered other a u c.1 b t) (case other u known);
    };
    undo = subst (λ (l : List ℕ). UndoRestores n base l ws' vs') (sym now_is) undo_at;
    trace = subst (λ (l : List ℕ). TraceCurrent n base l ws' vs') (sym now_is) trace_at;
    floor = record {
      floor = λ other u known b. ⊎_elim (λ c. absurd (let z : true ≡ false = sym b ∙ (ap (λ (y : View). is_open y.phase) (sym c.1) ∙ g.over) in cc))
          (λ c. q.floor.floor other u c.1 b) (case other u known);
      causes = λ other i u known one busy. ⊎_elim
          (λ c. subst (λ (y : View). AreCauses n i y.stamp y.floor y.abandoned) c.1
          (as_before i (sym g.who ∙ (ap (λ (y : View). y.who) c.1 ∙ one)) (subst (λ (y : View). y.phase ≢ Idle) (sym c.1) busy)))
          (λ c. q.floor.causes other i u c.1 one busy) (case other u known);
    };
  }
    where
      as_before : (i : ℕ) → v.who ≡ i ∷ [] → w.phase ≢ Idle → AreCauses n i w.stamp w.floor w.abandoned
      as_before i one busy =
          let c = q.floor.causes id i v me one (open_begun v.phase opened) in
          subst (λ (m : ℕ). AreCauses n i m w.floor w.abandoned) (sym (g.stamp busy))
          (subst (λ (m : ℕ). AreCauses n i v.stamp m w.abandoned) (sym g.floor)
          (subst (λ (l : _). AreCauses n i v.stamp v.floor l) (sym g.abandoned) c))

pub giving_up_values : (good : List ℕ → Type 0) → GivingUpKeeps good
giving_up_values good n base ws ws' vs id j v w h q me single opened g s = given_up good n base ws ws' vs id j v w h q me single opened g s
