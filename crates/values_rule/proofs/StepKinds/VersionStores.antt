-- A store of a lock's version keeps the value invariant.
use Rattle.values_rule.proofs.Common.{◌≡◌, ◌≢◌, ℕ, ◌+◌, ◌<◌, true, false, ◌⊎◌, inr, ⊎_elim, List, slice_index, slice_set, refl, sym, ap, ◌∙◌, subst, arith}
use Rattle.values_rule.proofs.Common.{get_or-set_other, get_or-set_same, dite, ℕ_discrete, LOCKS, View, Idle, Releasing, Drops, is_attempt, is_open, IsIn, has}
use Rattle.values_rule.proofs.Common.{flag, Knows, serial_word, calls_word, commits_word, version_word, value_word, HasWriteGrant, same_view, put_here}
use Rattle.values_rule.proofs.Common.{put_there, put_cases, differ, has-without_other, has-without, LocksHold, Own, table_value, UndoRestores, TraceCurrent}
use Rattle.values_rule.proofs.Common.{AreCauses, version_at, items_of, owed_by, next_version, now_of, KeepsValueRule, MayStoreVersion, store_version_action}
use Rattle.values_rule.proofs.Common.{ValuesHold}
use Rattle.locks_rule.proofs.Common.{without}
use Rattle.history_model.proofs.SetLemmas.{has-without_same}
use Rattle.values_rule.proofs.Stores.{shut_out}
use Rattle.values_rule.proofs.Parts.Asides.{aside_drops}
use Rattle.values_rule.proofs.Parts.Frames.{records_same, calls_same, memory_same, items_kept, now_kept}
use Rattle.values_rule.proofs.Told.Owing.{owed_same, owed_into, not_owed, version_is, version_apart}
use Rattle.values_rule.proofs.Told.Seeing.{mine}

module _ (good : List ℕ → Type 0) (n : ℕ) (base ws : List ℕ) (vs : List View) (id j k x : ℕ) (v : View)
    (h : LocksHold n base ws vs) (q : ValuesHold good n base ws vs) (me : Knows vs id v) (may : MayStoreVersion j k x v) where
  abbrev w : View
  w = record v { owed = without k v.owed }

  abbrev vs' : List View
  vs' = slice_set vs id (record v { owed = without k v.owed })

  abbrev ws' : List ℕ
  ws' = slice_set ws (version_word v.seats k) (x + 1)

  case : (other : ℕ) (u : View) → Knows vs' other u → ((other ≡ id) × (w ≡ u)) ⊎ ((other ≢ id) × Knows vs other u)
  case other u e = put_cases vs id other w u e

  own_ : Own n vs id j v
  own_ = mine good n base ws vs id j v h q me may.who

  near : k < LOCKS
  near = (h.claims_show_in_writers id k v me (q.owed.held id k v me may.owed).1.0).2

  found_is : x ≡ version_at n ws k
  found_is = q.uses.once id k x (version_at n ws k) v me may.found (q.owed.held id k v me may.owed).2

  here_word : slice_index ws' (version_word n k) ≡ x + 1
  here_word = let same : version_word v.seats k ≡ version_word n k = ap (λ (m : ℕ). version_word m k) own_.seats in
      let low = near in
      ap (λ (i : ℕ). slice_index (slice_set ws i (x + 1)) (version_word n k)) same
      ∙ get_or-set_same ws (version_word n k) (x + 1) 0 (omega (arith, h.word_count))

  here : version_at n ws' k ≡ x + 1
  here = version_is n ws' k near ∙ here_word

  there : (l : ℕ) → l ≢ k → version_at n ws' l ≡ version_at n ws l
  there l ne = version_apart n ws ws' l (get_or-set_other ws (version_word v.seats k) (version_word n l) (x + 1) 0 (λ z. ne (omega (arith, own_.seats))))

  -- nobody else owes the lock
  alone_owes : (other : ℕ) (u : View) → other ≢ id → Knows vs other u → has k u.owed ≡ true → ⊥
  alone_owes other u ne known t = let o = q.owed.held other k u known t in
      shut_out n base ws vs other id j k u v h (λ e. ne (sym e)) known own_.seat (inr (q.owed.held id k v me may.owed).1) o.1

  current_is : (l : ℕ) → next_version n ws' vs' l ≡ next_version n ws vs l
  current_is l = dite (ℕ_discrete l k)
      (λ e. subst (λ (m : ℕ). next_version n ws' vs' m ≡ next_version n ws vs m) (sym e)
      (let was : flag (owed_by k vs) ≡ 1 = ap flag (owed_into k vs id v me may.owed) in
      let is : flag (owed_by k vs') ≡ 0 = ap flag (not_owed k vs' (λ other u known t. ⊎_elim
      (λ c. differ (has k (without k v.owed)) (subst (λ (y : View). has k y.owed ≡ true) (sym c.1) t) (has-without_same k v.owed))
      (λ c. alone_owes other u c.0 c.1 t) (case other u known))) in
      let a = here in let b = found_is in omega arith))
      (λ ne. let same : flag (owed_by l vs') ≡ flag (owed_by l vs) = ap flag (owed_same l vs vs'
      (λ o. dite (ℕ_discrete o.id id)
      (λ e. record {
        id = id;
        view = w;
        knows = put_here vs id v w me;
        owes = has-without_other l k v.owed ne ∙ subst (λ (u : View). has l u.owed ≡ true) (same_view vs id o.id v o.view me o.knows e) o.owes;
      })
      (λ away. record { id = o.id; view = o.view; knows = put_there vs id o.id w o.view away o.knows; owes = o.owes }))
      (λ o. ⊎_elim
      (λ c. record { id = id; view = v; knows = me; owes = (has-without l k v.owed (subst (λ (u : View). has l u.owed ≡ true) (sym c.1) o.owes)).1 })
      (λ c. record { id = o.id; view = o.view; knows = c.1; owes = o.owes }) (case o.id o.view o.knows))) in
      let a = there l ne in omega arith)

  drops : Drops (λ z. true) (items_of vs) (items_of vs')
  drops = aside_drops vs id v w me refl (λ z o t. (o, t)) (λ z o t. (o, t))

  now_is : now_of n base ws' vs' ≡ now_of n base ws vs
  now_is = now_kept good n base ws ws' vs vs' (λ z. true) (λ z m e. refl) drops current_is q.items

  value_stays : (a : ℕ) → table_value n ws' a ≡ table_value n ws a
  value_stays a = let low = near in get_or-set_other ws (version_word v.seats k) (value_word n a) (x + 1) 0 (λ z. omega (arith, own_.seats))

  memory : UndoRestores n base (now_of n base ws vs) ws' vs' × TraceCurrent n base (now_of n base ws vs) ws' vs'
  memory = memory_same vs id v w me refl n base (now_of n base ws vs) ws ws' value_stays refl refl
      (λ b. b) (λ b. b) (λ b. q.trace.rested id v me b) (λ l g. g) (λ l g. g) q.undo q.trace

  pub stores : ValuesHold good n base ws' vs'
  stores = record {
    serial = get_or-set_other ws (version_word v.seats k) serial_word (x + 1) 0 (λ z. omega arith) ∙ q.serial;
    records = records_same vs id v w me refl n refl q.records;
    calls = calls_same vs id v w me refl n ws ws' refl refl refl (λ b. b) (λ b. b)
        (λ i lt. get_or-set_other ws (version_word v.seats k) (calls_word n i) (x + 1) 0 (λ z. omega (arith, own_.seats)))
        (λ i lt. get_or-set_other ws (version_word v.seats k) (commits_word n i) (x + 1) 0 (λ z. omega (arith, own_.seats)))
        (λ i u other s. h.numbers_below other i u s) q.calls;
    items = items_kept good n base ws ws' vs vs' (λ z. true) (λ z m e. refl) drops current_is q.items;
    owed = record {
      held = λ other l u known o. ⊎_elim
          (λ c. let both = has-without l k v.owed (subst (λ (y : View). has l y.owed ≡ true) (sym c.1) o) in
          let d = q.owed.held id l v me both.1 in
          subst (λ (y : View). (y.phase ≡ Releasing) × HasWriteGrant y l × IsIn (l, version_at n ws' l) y.uses) c.1
          (d.0, d.1, subst (λ (m : ℕ). IsIn (l, m) v.uses) (sym (there l both.0)) d.2))
          (λ c. let d = q.owed.held other l u c.1 o in (
            d.0,
            d.1,
            subst (λ (m : ℕ). IsIn (l, m) u.uses)
                (sym (there l (λ e. alone_owes other u c.0 c.1 (subst (λ (m : ℕ). has m u.owed ≡ true) e o)))) d.2,
          )) (case other u known);
    };
    uses = record {
      granted = λ other l y u known b i. ⊎_elim
          (λ c. absurd (let z : true ≡ false = sym (subst (λ (s : View). is_attempt s.phase ≡ true) (sym c.1) b) ∙ ap is_attempt may.phase in cc))
          (λ c. let g = q.uses.granted other l y u c.1 b i in (g.0, g.1 ∙ sym (current_is l))) (case other u known);
      once = λ other l y z u known s i. ⊎_elim
          (λ c. q.uses.once id l y z v me (subst (λ (r : View). IsIn (l, y) r.uses) (sym c.1) s) (subst (λ (r : View). IsIn (l, z) r.uses) (sym c.1) i))
          (λ c. q.uses.once other l y z u c.1 s i) (case other u known);
      covered = λ other a u known b i. ⊎_elim
          (λ c. absurd (let z : true ≡ false = sym (subst (λ (s : View). is_attempt s.phase ≡ true) (sym c.1) b) ∙ ap is_attempt may.phase in cc))
          (λ c. q.uses.covered other a u c.1 b i) (case other u known);
    };
    undo = subst (λ (l : List ℕ). UndoRestores n base l ws' vs') (sym now_is) memory.0;
    trace = subst (λ (l : List ℕ). TraceCurrent n base l ws' vs') (sym now_is) memory.1;
    floor = record {
      floor = λ other u known b. ⊎_elim
          (λ c. absurd (let z : true ≡ false = sym (subst (λ (s : View). is_open s.phase ≡ true) (sym c.1) b) ∙ ap is_open may.phase in cc))
          (λ c. q.floor.floor other u c.1 b) (case other u known);
      causes = λ other i u known one b. ⊎_elim
          (λ c. subst (λ (y : View). AreCauses n i y.stamp y.floor y.abandoned) c.1
          (q.floor.causes id i v me (ap (λ (y : View). y.who) c.1 ∙ one) (λ e. let z : Releasing ≡ Idle = sym may.phase ∙ e in cc)))
          (λ c. q.floor.causes other i u c.1 one b) (case other u known);
    };
  }

pub store_version_values : (good : List ℕ → Type 0) (j k x : ℕ) → KeepsValueRule good (MayStoreVersion j k x) (store_version_action j k x)
store_version_values good j k x n base ws vs id v h q me may = stores good n base ws vs id j k x v h q me may
