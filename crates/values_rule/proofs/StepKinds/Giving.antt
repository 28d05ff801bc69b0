-- An attempt that gives way keeps the value invariant: it is one item more, which wrote nothing.
use Rattle.values_rule.proofs.Common.{◌≡◌, ◌≢◌, ℕ, ◌<◌, true, false, ◌⊎◌, inl, inr, ⊎_elim, List, [], ◌∷◌, ◌++◌, length, slice_index, slice_set, refl, sym, ap}
use Rattle.values_rule.proofs.Common.{◌∙◌, subst, arith, slice_get_within, dite, ℕ_discrete, Abandoned, Item, View, Running, MayStandLast, Adds, RaisesVersions}
use Rattle.values_rule.proofs.Common.{is_attempt, is_open, Uses, IsIn, has, flag, Knows, number, get_cases, get_last, ends_agree, ends_arranged, ends_moved}
use Rattle.values_rule.proofs.Common.{same_view, put_here, put_there, put_cases, differ, has-join_same, LocksHold, UndoRestores, TraceCurrent, knew_of}
use Rattle.values_rule.proofs.Common.{item_of_attempt, items_of, owed_by, next_version, now_of, AreCauses, ValuesHold}
use Rattle.history_model.specs.declared.event.Cause.{Cause}
use Rattle.history_model.proofs.ListPlaces.{get_first}
use Rattle.values_rule.specs.Keeping.{IsNewCause, GivingWayKeeps}
use Rattle.values_rule.proofs.Members.{in_join, none_in}
use Rattle.values_rule.specs.Steps.{attempt_of, after_giving_way}
use Rattle.values_rule.proofs.Told.Excludes.{not_released}
use Rattle.values_rule.proofs.Phases.{open_begun}
use Rattle.values_rule.proofs.Parts.Frames.{records_same, calls_same, memory_same, recorded_to, recorded_from}
use Rattle.values_rule.proofs.Told.ItemsIn.{IsAttemptOf, OfEntry, OfOpen, items_from, items_into, in_parts}
use Rattle.values_rule.proofs.Told.Newest.{newest_moved}
use Rattle.values_rule.proofs.Told.Owing.{owed_same}
use Rattle.values_rule.proofs.Told.Seeing.{is_j, legal_on_values, comes_last}
use Rattle.values_rule.proofs.Told.Uses.{use_found, item_formed}

module _ (good : List ℕ → Type 0) (n : ℕ) (base ws : List ℕ) (vs : List View) (id j : ℕ) (v : View) (cause : Cause) (met : List ℕ)
    (h : LocksHold n base ws vs) (q : ValuesHold good n base ws vs) (me : Knows vs id v) (single : v.who ≡ j ∷ []) (runs : v.phase ≡ Running)
    (new : IsNewCause n v cause) where
  abbrev t : Abandoned
  t = attempt_of cause v

  abbrev w : View
  w = after_giving_way cause met v

  abbrev vs' : List View
  vs' = slice_set vs id (after_giving_way cause met v)

  abbrev x : Item
  x = item_of_attempt (number v) v.call (knew_of v.seats v.seen) (length v.abandoned) (attempt_of cause v)

  busy : is_attempt v.phase ≡ true
  busy = ap is_attempt runs

  opened : is_open v.phase ≡ true
  opened = ap is_open runs

  here : Knows vs' id w
  here = put_here vs id v w me

  case : (other : ℕ) (u : View) → Knows vs' other u → ((other ≡ id) × (w ≡ u)) ⊎ ((other ≢ id) × Knows vs other u)
  case other u k = put_cases vs id other w u k

  attempt_old : (z : Item) → IsAttemptOf (number v) v.call (knew_of v.seats v.seen) v.abandoned z
      → IsAttemptOf (number v) v.call (knew_of v.seats v.seen) w.abandoned z
  attempt_old z s = record {
    turn = s.turn;
    attempt = s.attempt;
    at = get_first v.abandoned (t ∷ []) s.turn (slice_get_within v.abandoned s.turn s.attempt s.at) ∙ s.at;
    is = s.is;
  }

  attempt_cases : (z : Item) → IsAttemptOf (number v) v.call (knew_of v.seats v.seen) w.abandoned z
      → IsAttemptOf (number v) v.call (knew_of v.seats v.seen) v.abandoned z ⊎ (z ≡ x)
  attempt_cases z s = ⊎_elim
      (λ o. inl (record { turn = s.turn; attempt = s.attempt; at = o.1; is = s.is }))
      (λ o. inr (sym s.is ∙ (ap (λ (m : ℕ). item_of_attempt (number v) v.call (knew_of v.seats v.seen) m s.attempt) o.0
      ∙ ap (λ (a : Abandoned). item_of_attempt (number v) v.call (knew_of v.seats v.seen) (length v.abandoned) a) (sym o.1))))
      (get_cases v.abandoned t s.attempt s.turn s.at)

  adds : Adds x (items_of vs) (items_of vs')
  adds z = (
    (λ m. ⊎_elim
        (λ (o : OfEntry vs' z). inl (items_into vs z (inl (record {
          entry = o.entry;
          recorded = recorded_to vs id v w me refl o.entry o.recorded;
          is = o.is;
        }))))
        (λ (o : OfOpen vs' z). ⊎_elim
        (λ c. ⊎_elim
        (λ old. inl (items_into vs z (inr (record { id = id; view = v; knows = me; is_open = opened; is = old })))) inr
        (attempt_cases z (subst (λ (u : View). IsAttemptOf (number u) u.call (knew_of u.seats u.seen) u.abandoned z) (sym c.1) o.is)))
        (λ c. inl (items_into vs z (inr (record { id = o.id; view = o.view; knows = c.1; is_open = o.is_open; is = o.is }))))
        (case o.id o.view o.knows))
        (items_from vs' z m)),
    (λ m. ⊎_elim
        (λ i. ⊎_elim
        (λ (o : OfEntry vs z). items_into vs' z (inl (record { entry = o.entry; recorded = recorded_from vs id v w me refl o.entry o.recorded; is = o.is })))
        (λ (o : OfOpen vs z). dite (ℕ_discrete o.id id)
        (λ e. items_into vs' z (inr (record {
          id = id;
          view = w;
          knows = here;
          is_open = refl;
          is = attempt_old z (subst (λ (u : View). IsAttemptOf (number u) u.call (knew_of u.seats u.seen) u.abandoned z)
              (same_view vs id o.id v o.view me o.knows e) o.is);
        })))
        (λ ne. items_into vs' z (inr (record { id = o.id; view = o.view; knows = put_there vs id o.id w o.view ne o.knows; is_open = o.is_open; is = o.is }))))
        (items_from vs z i))
        (λ same. items_into vs' z (inr (record {
          id = id;
          view = w;
          knows = here;
          is_open = refl;
          is = record { turn = length v.abandoned; attempt = t; at = get_last v.abandoned t; is = sym same };
        })))
        m),
  )

  owed_is : (k : ℕ) → owed_by k vs' ≡ owed_by k vs
  owed_is k = owed_same k vs vs'
      (λ o. dite (ℕ_discrete o.id id)
      (λ e. record { id = id; view = w; knows = here; owes = subst (λ (u : View). has k u.owed ≡ true) (same_view vs id o.id v o.view me o.knows e) o.owes })
      (λ ne. record { id = o.id; view = o.view; knows = put_there vs id o.id w o.view ne o.knows; owes = o.owes }))
      (λ o. ⊎_elim
      (λ c. record { id = id; view = v; knows = me; owes = subst (λ (u : View). has k u.owed ≡ true) (sym c.1) o.owes })
      (λ c. record { id = o.id; view = o.view; knows = c.1; owes = o.owes }) (case o.id o.view o.knows))

  wrote_none : (k y : ℕ) → Uses x k y true → ⊥
  wrote_none k y u = let f = use_found false v.trace v.uses k y true u in let z : true ≡ false = f.1 in cc

  current_is : (k : ℕ) → next_version n ws vs' k ≡ next_version n ws vs k
  current_is k = let same : flag (owed_by k vs') ≡ flag (owed_by k vs) = ap flag (owed_is k) in omega arith

  moves : RaisesVersions x (next_version n ws vs) (next_version n ws vs')
  moves k = inr ((λ y u. wrote_none k y u), current_is k)

  named : number v ≡ j
  named = is_j good n base ws vs id j v h q me single

  fit : MayStandLast good base (next_version n ws vs) (items_of vs) x
  fit = record {
    formed = item_formed v.uses x refl (λ k. cc) (λ k a b s r. q.uses.once id k a b v me s r) (λ a r. q.uses.covered id a v me busy r);
    last = comes_last good n base ws vs id j v h q me single busy x false named refl refl refl;
    legal = legal_on_values good n base ws vs id j v h q me single busy x false refl refl;
    stays_good = λ k. cc;
  }

  now_is : now_of n base ws vs' ≡ now_of n base ws vs
  now_is = newest_moved base x (next_version n ws vs) (next_version n ws vs') (items_of vs) (items_of vs')
      (ends_moved good base (next_version n ws vs) (next_version n ws vs') (items_of vs)
      (items_of vs') q.items.order x q.items.agree q.items.arranged fit adds moves)

  memory : UndoRestores n base (now_of n base ws vs) ws vs' × TraceCurrent n base (now_of n base ws vs) ws vs'
  memory = memory_same vs id v w me refl n base (now_of n base ws vs) ws ws (λ a. refl) refl refl (λ b. absurd (cc b))
      (λ b. absurd (cc b)) (λ b. absurd (⊎_elim (λ z. cc) (λ z. cc) b)) (λ k g. g) (λ k g. g) q.undo q.trace

  causes_more : AreCauses n j v.stamp v.floor v.abandoned → AreCauses n j v.stamp v.floor w.abandoned
  causes_more c = record {
    fronts = λ y i. ⊎_elim (λ s. c.fronts y s) (λ s. ap (λ (a : Abandoned). a.front) (sym s) ∙ sym (q.floor.floor id v me opened)) (in_more y i);
    bounded = λ y i. ⊎_elim (λ s. c.bounded y s)
        (λ s. subst (λ (a : Abandoned). (a.cause.seat < n) × (a.cause.seat ≢ j) × (0 < a.cause.stamp) × (a.cause.stamp < v.stamp)) s (
          new.elsewhere.0,
          (λ e. differ (has cause.seat v.who)
              (subst (λ (l : List ℕ). has cause.seat l ≡ true) (sym single)
              (subst (λ (k : ℕ). has cause.seat (k ∷ []) ≡ true) e (has-join_same cause.seat []))) new.elsewhere.1),
          new.earlier.0,
          new.earlier.1,
        )) (in_more y i);
    differ = λ i k y z at more same. ⊎_elim
        (λ o. ⊎_elim (λ p. c.differ i k y z o.1 p.1 same)
        (λ p. absurd (new.first_there y (i, o.1) (same ∙ ap (λ (a : Abandoned). a.cause.seat) (sym p.1)))) (get_cases v.abandoned t z k more))
        (λ o. ⊎_elim (λ p. absurd (new.first_there z (k, p.1) (sym same ∙ ap (λ (a : Abandoned). a.cause.seat) (sym o.1))))
        (λ p. o.0 ∙ sym p.0) (get_cases v.abandoned t z k more))
        (get_cases v.abandoned t y i at);
  }
    where
      in_more : (y : Abandoned) → IsIn y w.abandoned → IsIn y v.abandoned ⊎ (t ≡ y)
      in_more y i = ⊎_elim inl (λ s. ⊎_elim inr (λ z. absurd (none_in y z)) (in_join t [] y s)) (in_parts v.abandoned (t ∷ []) y i)

  pub gives_way : ValuesHold good n base ws vs'
  gives_way = record {
    serial = q.serial;
    records = records_same vs id v w me refl n refl q.records;
    calls = calls_same vs id v w me refl n ws ws refl refl refl (λ b. open_begun v.phase opened)
        (λ b. opened) (λ i lt. refl) (λ i lt. refl) (λ i u other s. h.numbers_below other i u s) q.calls;
    items = record {
      agree = ends_agree good base (next_version n ws vs) (next_version n ws vs') (items_of vs)
          (items_of vs') q.items.order x q.items.agree q.items.arranged fit adds moves;
      order = q.items.order ++ x ∷ [];
      arranged = ends_arranged good base (next_version n ws vs) (next_version n ws vs')
          (items_of vs) (items_of vs') q.items.order x q.items.agree q.items.arranged fit adds moves;
    };
    owed = record {
      held = λ other k u known o. ⊎_elim
          (λ c. absurd (not_released v.phase opened (q.owed.held id k v me (subst (λ (y : View). has k y.owed ≡ true) (sym c.1) o)).0))
          (λ c. q.owed.held other k u c.1 o) (case other u known);
    };
    uses = record {
      granted = λ other k y u known b i. ⊎_elim
          (λ c. absurd (let z : false ≡ true = subst (λ (s : View). is_attempt s.phase ≡ true) (sym c.1) b in cc))
          (λ c. let g = q.uses.granted other k y u c.1 b i in (g.0, g.1 ∙ sym (current_is k))) (case other u known);
      once = λ other k y z u known s i. ⊎_elim
          (λ c. q.uses.once id k y z v me (subst (λ (r : View). IsIn (k, y) r.uses) (sym c.1) s) (subst (λ (r : View). IsIn (k, z) r.uses) (sym c.1) i))
          (λ c. q.uses.once other k y z u c.1 s i) (case other u known);
      covered = λ other a u known b i. ⊎_elim
          (λ c. absurd (let z : false ≡ true = subst (λ (s : View). is_attempt s.phase ≡ true) (sym c.1) b in cc))
          (λ c. q.uses.covered other a u c.1 b i) (case other u known);
    };
    undo = subst (λ (l : List ℕ). UndoRestores n base l ws vs') (sym now_is) memory.0;
    trace = subst (λ (l : List ℕ). TraceCurrent n base l ws vs') (sym now_is) memory.1;
    floor = record {
      floor = λ other u k b. ⊎_elim (λ c. subst (λ (y : View). y.floor ≡ length y.seen) c.1 (q.floor.floor id v me opened))
          (λ c. q.floor.floor other u c.1 b) (case other u k);
      causes = λ other i u k one b. ⊎_elim
          (λ c. let is_j : i ≡ j = ap (λ (l : List ℕ). slice_index l 0) (sym (ap (λ (y : View). y.who) c.1 ∙ one) ∙ single) in
          subst (λ (m : ℕ). AreCauses n m u.stamp u.floor u.abandoned) (sym is_j)
          (subst (λ (y : View). AreCauses n j y.stamp y.floor y.abandoned) c.1
          (causes_more (q.floor.causes id j v me single (open_begun v.phase opened)))))
          (λ c. q.floor.causes other i u c.1 one b) (case other u k);
    };
  }

pub giving_way_values : (good : List ℕ → Type 0) → GivingWayKeeps good
giving_way_values good n base ws vs id j v cause met h q me single runs new = gives_way good n base ws vs id j v cause met h q me single runs new
