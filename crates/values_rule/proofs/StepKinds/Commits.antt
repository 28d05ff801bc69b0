-- A commit, kept or not, keeps the value invariant: an arrangement with the new entry at its end is one, and what the items
-- leave is what the words are with the other seats' notes written back.
use Rattle.values_rule.proofs.Common.{◌≡◌, ◌≢◌, ℕ, ◌<◌, Bool, true, false, ◌&&◌, ◌⊎◌, inl, inr, ⊎_elim, List, [], ◌∷◌, ◌++◌, length, Some, None, slice_get}
use Rattle.values_rule.proofs.Common.{slice_set, refl, sym, ap, ◌∙◌, subst, arith, get_or-set_other, if◌then◌else◌, and_parts, dite, ℕ_discrete, Entry, Item}
use Rattle.values_rule.proofs.Common.{View, Idle, Running, Releasing, MayStandLast, Adds, RaisesVersions, is_attempt, is_open, Uses, IsIn, lock_of_word, has}
use Rattle.values_rule.proofs.Common.{flag, Knows, serial_word, commits_word, IsLegalTrace, Writes, after, value_after, Notes, number, HasWriteGrant, IsGranted}
use Rattle.values_rule.proofs.Common.{last_event, touched_if_written, ends_agree, ends_arranged, ends_moved, get-after-value_after, last_from_touched}
use Rattle.values_rule.proofs.Common.{same_view, put_here, put_there, put_cases, differ, has-join_same, has-nil, legal_agree, LocksHold, IsSeat, table_value}
use Rattle.values_rule.proofs.Common.{oldest, UndoRestores, TraceCurrent, writes_lock, locks_of, knew_of, item_of_entry, items_of, version_at, owed_by}
use Rattle.values_rule.proofs.Common.{next_version, now_of, KeepsValueRule, IsRecorded, AreCauses, RecordsClosed, CallsCounted, MayCommitCall, entry_of}
use Rattle.values_rule.proofs.Common.{after_commit, commit_call_action, ItemsArranged, ValuesHold}
use Rattle.history_model.proofs.Items.ItemValues.{wrote_some}
use Rattle.history_model.proofs.Traces.LastEvents.{unwritten_stays}
use Rattle.values_rule.proofs.Notes.{oldest-nil, option_cases, is_missing}
use Rattle.values_rule.proofs.Stores.{shut_out}
use Rattle.values_rule.specs.Records.{FloorAndAbandoned}
use Rattle.values_rule.specs.Versions.{OwedHeld, UsesCurrent}
use Rattle.values_rule.proofs.Told.Excludes.{not_released}
use Rattle.values_rule.proofs.Phases.{attempt_open, open_begun}
use Rattle.values_rule.proofs.Told.ItemsIn.{IsAttemptOf, OfEntry, OfOpen, items_from, items_into}
use Rattle.values_rule.proofs.Told.Newest.{newest_moved, length-newest}
use Rattle.values_rule.proofs.Told.Owing.{Owes, owed_into, owed_same}
use Rattle.values_rule.proofs.Told.Seeing.{is_j, earlier, nobody_owes, legal_on_values, comes_last}
use Rattle.values_rule.proofs.Told.Uses.{lock_written, written_lock, use_found, found_use, item_formed, noted_lock, lock_noted}
use Rattle.values_rule.proofs.StepKinds.Recording as Recording

module _ (good : List ℕ → Type 0) (n : ℕ) (base ws : List ℕ) (vs : List View) (id j : ℕ) (kept : Bool) (v : View)
    (h : LocksHold n base ws vs) (q : ValuesHold good n base ws vs) (me : Knows vs id v) (may : MayCommitCall good j kept v) where
  abbrev e : Entry
  e = entry_of kept v

  abbrev x : Item
  x = item_of_entry (entry_of kept v)

  abbrev w : View
  w = after_commit kept v

  abbrev ws' : List ℕ
  ws' = slice_set ws (commits_word v.seats j) v.call

  abbrev vs' : List View
  vs' = slice_set vs id (after_commit kept v)

  named : number v ≡ j
  named = is_j good n base ws vs id j v h q me may.who

  busy_open : is_open v.phase ≡ true
  busy_open = attempt_open v.phase may.phase

  busy_begun : v.phase ≢ Idle
  busy_begun = open_begun v.phase busy_open

  before : (y : Entry) → IsRecorded vs y → y.who ≡ j → y.call < v.call
  before = earlier good n base ws vs id j v h q me may.who busy_open

  case : (other : ℕ) (u : View) → Knows vs' other u → ((other ≡ id) × (w ≡ u)) ⊎ ((other ≢ id) × Knows vs other u)
  case other u k = put_cases vs id other w u k

  here : Knows vs' id w
  here = put_here vs id v w me

  value_stays : (a : ℕ) → table_value n ws' a ≡ table_value n ws a
  value_stays = Recording.value_stays good n base ws vs id j kept v h q me may

  version_stays : (k : ℕ) → version_at n ws' k ≡ version_at n ws k
  version_stays = Recording.version_stays good n base ws vs id j kept v h q me may

  record_cases : (y : Entry) → IsRecorded vs' y → IsRecorded vs y ⊎ (e ≡ y)
  record_cases = Recording.record_cases good n base ws vs id j kept v h q me may

  record_old : (y : Entry) → IsRecorded vs y → IsRecorded vs' y
  record_old = Recording.record_old good n base ws vs id j kept v h q me may

  record_new : IsRecorded vs' e
  record_new = Recording.record_new good n base ws vs id j kept v h q me may

  records_part : RecordsClosed n vs'
  records_part = Recording.records_part good n base ws vs id j kept v h q me may

  calls_part : CallsCounted n ws' vs'
  calls_part = Recording.calls_part good n base ws vs id j kept v h q me may

  -- items: the old ones, and the new entry
  items_to : (z : Item) → IsIn z (items_of vs') → IsIn z (items_of vs) ⊎ (z ≡ x)
  items_to z m = ⊎_elim
      (λ (o : OfEntry vs' z). ⊎_elim
      (λ old. inl (items_into vs z (inl (record { entry = o.entry; recorded = old; is = o.is }))))
      (λ same. ⊎_elim
      (λ t. inr (sym t ∙ ap item_of_entry (sym same)))
      (λ t. inl (items_into vs z (inr (record {
        id = id;
        view = v;
        knows = me;
        is_open = busy_open;
        is = subst (λ (y : Entry). IsAttemptOf y.who y.call y.knew y.abandoned z) (sym same) t;
      }))))
      o.is)
      (record_cases o.entry o.recorded))
      (λ (o : OfOpen vs' z). ⊎_elim
      (λ t. absurd (let f : false ≡ true = subst (λ (y : View). is_open y.phase ≡ true) (sym t.1) o.is_open in cc))
      (λ t. inl (items_into vs z (inr (record { id = o.id; view = o.view; knows = t.1; is_open = o.is_open; is = o.is }))))
      (case o.id o.view o.knows))
      (items_from vs' z m)

  items_old : (z : Item) → IsIn z (items_of vs) → IsIn z (items_of vs')
  items_old z m = ⊎_elim
      (λ (o : OfEntry vs z). items_into vs' z (inl (record { entry = o.entry; recorded = record_old o.entry o.recorded; is = o.is })))
      (λ (o : OfOpen vs z). dite (ℕ_discrete o.id id)
      (λ same. let view_is : o.view ≡ v = same_view vs id o.id v o.view me o.knows same in
      items_into vs' z (inl (record {
        entry = e;
        recorded = record_new;
        is = inr (subst (λ (u : View). IsAttemptOf (number u) u.call (knew_of u.seats u.seen) u.abandoned z) view_is o.is);
      })))
      (λ ne. items_into vs' z (inr (record { id = o.id; view = o.view; knows = put_there vs id o.id w o.view ne o.knows; is_open = o.is_open; is = o.is }))))
      (items_from vs z m)

  adds : Adds x (items_of vs) (items_of vs')
  adds z = (items_to z, λ m. ⊎_elim (items_old z) (λ same. items_into vs' z (inl (record { entry = e; recorded = record_new; is = inl (sym same) }))) m)

  -- what the call owes it wrote, and what it wrote it owes
  owes_wrote : (k : ℕ) → has k w.owed ≡ true → (y : ℕ) × Uses x k y true
  owes_wrote k t = by kept refl t
    where
      by : (b : Bool) → kept ≡ b → has k (if b then locks_of v.undo else []) ≡ true → (y : ℕ) × Uses x k y true
      by false s t = absurd (differ (has k []) t (has-nil k))
      by true s t =
          let l = lock_noted k v.undo t in
          let wrote = q.trace.undo_written id l.0 l.1 v me may.phase l.3 in
          let c = q.uses.covered id l.0 v me may.phase (touched_if_written v.trace l.0 wrote) in
          let f = found_use kept v.trace v.uses (lock_of_word l.0) c.0 c.1 in
          let both : (kept && writes_lock (lock_of_word l.0) v.trace) ≡ true = rw (s, written_lock (lock_of_word l.0) l.0 v.trace refl wrote) refl in
          (c.0, subst (λ (m : ℕ). Uses x m c.0 true) l.2 (subst (λ (b : Bool). Uses x (lock_of_word l.0) c.0 b) both f))

  wrote_noted : (k y : ℕ) → Uses x k y true → (kept ≡ true) × ((a : ℕ) × (o : ℕ) × (lock_of_word a ≡ k) × (oldest a v.undo ≡ Some o))
  wrote_noted k y u =
      let f = use_found kept v.trace v.uses k y true u in
      let both = and_parts kept (writes_lock k v.trace) (sym f.1) in
      let l = lock_written k v.trace both.1 in (
        both.0,
        ⊎_elim
            (λ (none : oldest l.0 v.undo ≡ None). absurd (is_missing (oldest l.0 v.undo) none (q.trace.written_noted id l.0 v me (may.runs both.0) l.2)))
            (λ (some : (o : ℕ) × (oldest l.0 v.undo ≡ Some o)). (l.0, some.0, l.1, some.1))
            (option_cases (oldest l.0 v.undo)),
      )

  wrote_owes : (k y : ℕ) → Uses x k y true → has k w.owed ≡ true
  wrote_owes k y u = let t = wrote_noted k y u in
      subst (λ (b : Bool). has k (if b then locks_of v.undo else []) ≡ true) (sym t.0)
      (subst (λ (m : ℕ). has m (locks_of v.undo) ≡ true) t.1.2 (noted_lock t.1.0 t.1.1 v.undo t.1.3))

  wrote_granted : (k y : ℕ) → Uses x k y true → HasWriteGrant v k
  wrote_granted k y u = let t = wrote_noted k y u in subst (λ (m : ℕ). HasWriteGrant v m) t.1.2 (q.undo.noted id t.1.0 t.1.1 v me t.1.3).1

  moves : RaisesVersions x (next_version n ws vs) (next_version n ws' vs')
  moves k = ⊎_elim
      (λ (u : (y : ℕ) × Uses x k y true).
      let none : flag (owed_by k vs) ≡ 0 = ap flag (nobody_owes good n base ws vs id j v h q me may.who may.phase k (inr (wrote_granted k u.0 u.1))) in
      let some : flag (owed_by k vs') ≡ 1 = ap flag (owed_into k vs' id w here (wrote_owes k u.0 u.1)) in
      let same = version_stays k in
      inl (u, omega arith))
      (λ (no : (y : ℕ) → Uses x k y true → ⊥).
      let to : Owes k vs → Owes k vs' = λ o. dite (ℕ_discrete o.id id)
      (λ e. absurd (not_released v.phase busy_open
      (ap (λ (y : View). y.phase) (sym (same_view vs id o.id v o.view me o.knows e)) ∙ (q.owed.held o.id k o.view o.knows o.owes).0)))
      (λ ne. record { id = o.id; view = o.view; knows = put_there vs id o.id w o.view ne o.knows; owes = o.owes }) in
      let from : Owes k vs' → Owes k vs = λ o. ⊎_elim
      (λ t. absurd (let u = owes_wrote k (subst (λ (y : View). has k y.owed ≡ true) (sym t.1) o.owes) in no u.0 u.1))
      (λ t. record { id = o.id; view = o.view; knows = t.1; owes = o.owes }) (case o.id o.view o.knows) in
      let same_flag : flag (owed_by k vs') ≡ flag (owed_by k vs) = ap flag (owed_same k vs vs' to from) in
      let same = version_stays k in
      inr (no, omega arith))
      (wrote_some k x.uses)

  fit : MayStandLast good base (next_version n ws vs) (items_of vs) x
  fit = record {
    formed = item_formed v.uses x refl (λ t. refl) (λ k a b s t. q.uses.once id k a b v me s t) (λ a t. q.uses.covered id a v me may.phase t);
    last = comes_last good n base ws vs id j v h q me may.who may.phase x kept named refl refl refl;
    legal = legal_on_values good n base ws vs id j v h q me may.who may.phase x kept refl refl;
    stays_good = λ k s long fine legal. may.leaves_good k s fine legal;
  }

  items_part : ItemsArranged good n base ws' vs'
  items_part = record {
    agree = ends_agree good base (next_version n ws vs) (next_version n ws' vs')
        (items_of vs) (items_of vs') q.items.order x q.items.agree q.items.arranged fit adds moves;
    order = q.items.order ++ x ∷ [];
    arranged = ends_arranged good base (next_version n ws vs) (next_version n ws' vs')
        (items_of vs) (items_of vs') q.items.order x q.items.agree q.items.arranged fit adds moves;
  }

  abbrev now : List ℕ
  now = now_of n base ws vs

  abbrev left : List ℕ
  left = now_of n base ws' vs'

  -- what the new entry leaves
  then_is : left ≡ (if kept then after v.trace now else now)
  then_is = newest_moved base x (next_version n ws vs) (next_version n ws' vs') (items_of vs) (items_of vs')
      (ends_moved good base (next_version n ws vs) (next_version n ws' vs') (items_of vs)
      (items_of vs') q.items.order x q.items.agree q.items.arranged fit adds moves)

  legal_now : IsLegalTrace v.trace now
  legal_now = q.trace.legal id v me may.phase

  owed_part : OwedHeld n ws' vs'
  owed_part = record {
    held = λ other k u known t. ⊎_elim
        (λ c. subst (λ (y : View). (y.phase ≡ Releasing) × HasWriteGrant y k × IsIn (k, version_at n ws' k) y.uses) c.1
        (let s = owes_wrote k (subst (λ (y : View). has k y.owed ≡ true) (sym c.1) t) in
        let f = (use_found kept v.trace v.uses k s.0 true s.1).0 in
        let grant = wrote_granted k s.0 s.1 in
        let is = (q.uses.granted id k s.0 v me may.phase f).1 in
        let none : flag (owed_by k vs) ≡ 0 = ap flag (nobody_owes good n base ws vs id j v h q me may.who may.phase k (inr grant)) in
        let stays = version_stays k in
        let same : s.0 ≡ version_at n ws' k = omega arith in
        (refl, grant, subst (λ (m : ℕ). IsIn (k, m) v.uses) same f)))
        (λ c. let o = q.owed.held other k u c.1 t in (o.0, o.1, subst (λ (m : ℕ). IsIn (k, m) u.uses) (sym (version_stays k)) o.2))
        (case other u known);
  }

  -- a seat of a view with locks
  seat_of : (other : ℕ) (u : View) → Knows vs other u → u.phase ≢ Idle → (i : ℕ) × IsSeat vs other u i
  seat_of other u k busy = let c = q.calls.callers_alone other u k busy in (
    c.0,
    record {
      knows = k;
      named = subst (λ (l : List ℕ). has c.0 l ≡ true) (sym c.1) (has-join_same c.0 []);
    },
  )

  uses_part : UsesCurrent n ws' vs'
  uses_part = record {
    granted = λ other k y u known busy t. ⊎_elim
        (λ c. absurd (let z : false ≡ true = subst (λ (s : View). is_attempt s.phase ≡ true) (sym c.1) busy in cc))
        (λ c. let g = q.uses.granted other k y u c.1 busy t in
        let s = seat_of other u c.1 (open_begun u.phase (attempt_open u.phase busy)) in (
          g.0,
          g.1 ∙ ⊎_elim
              (λ m. absurd (shut_out n base ws vs id other s.0 k v u h c.0 me s.1 g.0 (wrote_granted k m.0.0 m.0.1)))
              (λ m. sym m.1) (moves k),
        ))
        (case other u known);
    once = λ other k y z u known s t. ⊎_elim
        (λ c. q.uses.once id k y z v me (subst (λ (r : View). IsIn (k, y) r.uses) (sym c.1) s) (subst (λ (r : View). IsIn (k, z) r.uses) (sym c.1) t))
        (λ c. q.uses.once other k y z u c.1 s t) (case other u known);
    covered = λ other a u known busy t. ⊎_elim
        (λ c. absurd (let z : false ≡ true = subst (λ (s : View). is_attempt s.phase ≡ true) (sym c.1) busy in cc))
        (λ c. q.uses.covered other a u c.1 busy t) (case other u known);
  }

  -- another seat may use the word: a kept call did not write it
  unwritten : (other i a : ℕ) (u : View) → other ≢ id → IsSeat vs other u i → IsGranted u (lock_of_word a) → kept ≡ true → ¬ Writes v.trace a
  unwritten other i a u ne s g k wrote =
      let runs = may.runs k in
      ⊎_elim
      (λ (none : oldest a v.undo ≡ None). is_missing (oldest a v.undo) none (q.trace.written_noted id a v me runs wrote))
      (λ (some : (o : ℕ) × (oldest a v.undo ≡ Some o)). shut_out n base ws vs id other i
      (lock_of_word a) v u h ne me s g (q.undo.noted id a some.0 v me some.1).1)
      (option_cases (oldest a v.undo))

  stands_by : (b : Bool) (a : ℕ) → kept ≡ b → (b ≡ true → ¬ Writes v.trace a) → slice_get (if b then after v.trace now else now) a ≡ slice_get now a
  stands_by true a k free = unwritten_stays v.trace now a (free refl)
  stands_by false a k free = refl

  -- a word that a kept call did not write has its value as before
  stands : (a : ℕ) → (kept ≡ true → ¬ Writes v.trace a) → slice_get left a ≡ slice_get now a
  stands a free = ap (λ (l : List ℕ). slice_get l a) then_is ∙ stands_by kept a refl (λ k. free k)

  noting : (other a o : ℕ) (u : View) → Knows vs other u → oldest a u.undo ≡ Some o → u.phase ≢ Idle
  noting other a o u k t idle = let z : None ≡ Some o = sym (oldest-nil a)
      ∙ (ap (λ (l : Notes). oldest a l) (sym (q.trace.rested other u k (inl idle))) ∙ t) in cc

  unnoted_by : (b : Bool) (a : ℕ) → kept ≡ b → a < length base → ((other : ℕ) (u : View) → Knows vs' other u → oldest a u.undo ≡ None)
      → slice_get (if b then after v.trace now else now) a ≡ Some (table_value n ws a)
  unnoted_by false a k lt free = q.undo.unnoted a lt (λ other u z. dite (ℕ_discrete other id)
      (λ same. subst (λ (x : View). oldest a x.undo ≡ None) (sym (same_view vs id other v u me z same))
      (ap (λ (l : Notes). oldest a l) (may.undone k) ∙ oldest-nil a))
      (λ ne. free other u (put_there vs id other w u ne z)))
  unnoted_by true a k lt free = ⊎_elim
      (λ (none : oldest a v.undo ≡ None). unwritten_stays v.trace now a
      (λ wrote. is_missing (oldest a v.undo) none (q.trace.written_noted id a v me (may.runs k) wrote))
      ∙ q.undo.unnoted a lt (λ other u z. dite (ℕ_discrete other id)
      (λ same. subst (λ (x : View). oldest a x.undo ≡ None) (sym (same_view vs id other v u me z same)) none)
      (λ ne. free other u (put_there vs id other w u ne z))))
      (λ (some : (o : ℕ) × (oldest a v.undo ≡ Some o)).
      let wrote = q.trace.undo_written id a some.0 v me may.phase some.1 in
      let within : a < length now = omega (arith, length-newest base (items_of vs) (next_version n ws vs)) in
      ⊎_elim
      (λ (none : value_after v.trace a None ≡ None). absurd
      (is_missing (value_after v.trace a None) none (last_from_touched v.trace a None (inr (touched_if_written v.trace a wrote)))))
      (λ (last : (x : ℕ) × (value_after v.trace a None ≡ Some x)). get-after-value_after v.trace now a legal_now within
      ∙ (last_event v.trace a last.0 (slice_get now a) last.1
      ∙ ap (λ (x : ℕ). Some x) (sym (q.trace.last_stands id a last.0 v me (may.runs k) last.1))))
      (option_cases (value_after v.trace a None)))
      (option_cases (oldest a v.undo))

  undo_at : UndoRestores n base left ws' vs'
  undo_at = record {
    noted = λ other a o u k t. ⊎_elim
        (λ z. absurd (let y : None ≡ Some o = sym (oldest-nil a) ∙ subst (λ (x : View). oldest a x.undo ≡ Some o) (sym z.1) t in cc))
        (λ z. let c = q.undo.noted other a o u z.1 t in let s = seat_of other u z.1 (noting other a o u z.1 t) in
        (c.0, c.1, stands a (unwritten other s.0 a u z.0 s.1 (inr c.1)) ∙ c.2)) (case other u k);
    unnoted = λ a lt free. ap (λ (l : List ℕ). slice_get l a) then_is ∙ (unnoted_by kept a refl lt free ∙ ap (λ (x : ℕ). Some x) (sym (value_stays a)));
  }

  then_long : length now ≡ length left
  then_long = length-newest base (items_of vs) (next_version n ws vs) ∙ sym (length-newest base (items_of vs') (next_version n ws' vs'))

  trace_at : TraceCurrent n base left ws' vs'
  trace_at = record {
    granted = λ other a u k busy t. ⊎_elim
        (λ z. absurd (let y : false ≡ true = subst (λ (x : View). is_attempt x.phase ≡ true) (sym z.1) busy in cc))
        (λ z. q.trace.granted other a u z.1 busy t) (case other u k);
    legal = λ other u k busy. ⊎_elim
        (λ z. absurd (let y : false ≡ true = subst (λ (x : View). is_attempt x.phase ≡ true) (sym z.1) busy in cc))
        (λ z. let s = seat_of other u z.1 (open_begun u.phase (attempt_open u.phase busy)) in
        legal_agree u.trace now left then_long
        (λ a t. sym (stands a (unwritten other s.0 a u z.0 s.1 (q.trace.granted other a u z.1 busy t).1))) (q.trace.legal other u z.1 busy))
        (case other u k);
    undo_written = λ other a o u k busy t. ⊎_elim
        (λ z. absurd (let y : false ≡ true = subst (λ (x : View). is_attempt x.phase ≡ true) (sym z.1) busy in cc))
        (λ z. q.trace.undo_written other a o u z.1 busy t) (case other u k);
    written_noted = λ other a u k runs t. ⊎_elim
        (λ z. absurd (let y : Releasing ≡ Running = subst (λ (x : View). x.phase ≡ Running) (sym z.1) runs in cc))
        (λ z. q.trace.written_noted other a u z.1 runs t) (case other u k);
    last_stands = λ other a x u k runs t. value_stays a ∙ ⊎_elim
        (λ z. absurd (let y : Releasing ≡ Running = subst (λ (y : View). y.phase ≡ Running) (sym z.1) runs in cc))
        (λ z. q.trace.last_stands other a x u z.1 runs t) (case other u k);
    rested = λ other u k t. ⊎_elim (λ z. ap (λ (x : View). x.undo) (sym z.1)) (λ z. q.trace.rested other u z.1 t) (case other u k);
  }

  floor_part : FloorAndAbandoned n vs'
  floor_part = record {
    floor = λ other u k busy. ⊎_elim
        (λ t. absurd (let z : false ≡ true = subst (λ (y : View). is_open y.phase ≡ true) (sym t.1) busy in cc))
        (λ t. q.floor.floor other u t.1 busy) (case other u k);
    causes = λ other i u k single busy. ⊎_elim
        (λ t. subst (λ (y : View). AreCauses n i y.stamp y.floor y.abandoned) t.1 (q.floor.causes id i v me (ap (λ (y : View). y.who) t.1 ∙ single) busy_begun))
        (λ t. q.floor.causes other i u t.1 single busy) (case other u k);
  }

  pub commits : ValuesHold good n base ws' vs'
  commits = record {
    serial = get_or-set_other ws (commits_word v.seats j) serial_word v.call 0 (λ z. omega arith) ∙ q.serial;
    records = records_part;
    calls = calls_part;
    items = items_part;
    owed = owed_part;
    uses = uses_part;
    undo = undo_at;
    trace = trace_at;
    floor = floor_part;
  }

pub commit_call_values : (good : List ℕ → Type 0) (j : ℕ) (kept : Bool) → KeepsValueRule good (MayCommitCall good j kept) (commit_call_action j kept)
commit_call_values good j kept n base ws vs id v h q me may = commits good n base ws vs id j kept v h q me may
