-- A load of a lock's version keeps the value invariant.
use Rattle.values_rule.proofs.Common.{◌≡◌, ◌≢◌, ℕ, true, ◌⊎◌, inl, inr, ⊎_elim, List, [], ◌∷◌, ◌++◌, length, slice_index, slice_set, refl, sym, ap, ◌∙◌, subst}
use Rattle.values_rule.proofs.Common.{arith, dite, ℕ_discrete, View, Idle, Running, Drops, is_attempt, is_open, IsIn, has, flag, Knows, version_word, IsGranted}
use Rattle.values_rule.proofs.Common.{lock_of_word, Touches, same_view, put_here, put_there, put_cases, LocksHold, UndoRestores, TraceCurrent, AreCauses}
use Rattle.values_rule.proofs.Common.{items_of, owed_by, next_version, now_of, KeepsValueRule, MayLoadVersion, load_version_action, ValuesHold}
use Rattle.std.proofs.lemmas.List.{set-get_or}
use Rattle.locks_rule.proofs.Own.{granted_near}
use Rattle.values_rule.proofs.Members.{in_join, none_in, in_first}
use Rattle.values_rule.proofs.Parts.Asides.{aside_drops}
use Rattle.values_rule.proofs.Told.Excludes.{not_released}
use Rattle.values_rule.proofs.Parts.Frames.{records_same, calls_same, memory_same, items_kept, now_kept}
use Rattle.values_rule.proofs.Told.ItemsIn.{in_parts}
use Rattle.values_rule.proofs.Told.Owing.{owed_same, version_is}
use Rattle.values_rule.proofs.Told.Seeing.{mine, nobody_owes}

module _ (good : List ℕ → Type 0) (n : ℕ) (base ws : List ℕ) (vs : List View) (id j k : ℕ) (v : View)
    (h : LocksHold n base ws vs) (q : ValuesHold good n base ws vs) (me : Knows vs id v) (may : MayLoadVersion j k v) where
  abbrev found : ℕ
  found = slice_index ws (version_word v.seats k)

  abbrev w : View
  w = record v { uses = v.uses ++ (k, slice_index ws (version_word v.seats k)) ∷ [] }

  abbrev vs' : List View
  vs' = slice_set vs id (record v { uses = v.uses ++ (k, slice_index ws (version_word v.seats k)) ∷ [] })

  case : (other : ℕ) (u : View) → Knows vs' other u → ((other ≡ id) × (w ≡ u)) ⊎ ((other ≢ id) × Knows vs other u)
  case other u e = put_cases vs id other w u e

  busy : is_attempt v.phase ≡ true
  busy = ap is_attempt may.phase

  owed_is : (l : ℕ) → owed_by l vs' ≡ owed_by l vs
  owed_is l = owed_same l vs vs'
      (λ o. dite (ℕ_discrete o.id id)
      (λ e. record {
        id = id;
        view = w;
        knows = put_here vs id v w me;
        owes = subst (λ (u : View). has l u.owed ≡ true) (same_view vs id o.id v o.view me o.knows e) o.owes;
      })
      (λ ne. record { id = o.id; view = o.view; knows = put_there vs id o.id w o.view ne o.knows; owes = o.owes }))
      (λ o. ⊎_elim
      (λ c. record { id = id; view = v; knows = me; owes = subst (λ (u : View). has l u.owed ≡ true) (sym c.1) o.owes })
      (λ c. record { id = o.id; view = o.view; knows = c.1; owes = o.owes }) (case o.id o.view o.knows))

  current_is : (l : ℕ) → next_version n ws vs' l ≡ next_version n ws vs l
  current_is l = let same : flag (owed_by l vs') ≡ flag (owed_by l vs) = ap flag (owed_is l) in omega arith

  drops : Drops (λ z. true) (items_of vs) (items_of vs')
  drops = aside_drops vs id v w me refl (λ z o t. (o, t)) (λ z o t. (o, t))

  now_is : now_of n base ws vs' ≡ now_of n base ws vs
  now_is = now_kept good n base ws ws vs vs' (λ z. true) (λ z m e. refl) drops current_is q.items

  memory : UndoRestores n base (now_of n base ws vs) ws vs' × TraceCurrent n base (now_of n base ws vs) ws vs'
  memory = memory_same vs id v w me refl n base (now_of n base ws vs) ws ws (λ a. refl) refl refl
      (λ b. b) (λ b. b) (λ b. q.trace.rested id v me b) (λ l g. g) (λ l g. g) q.undo q.trace

  found_is : found ≡ next_version n ws vs k
  found_is =
      let none : flag (owed_by k vs) ≡ 0 = ap flag (nobody_owes good n base ws vs id j v h q me may.who busy k may.granted) in
      let same : found ≡ slice_index ws (version_word n k) = ap
      (λ (m : ℕ). slice_index ws (version_word m k)) (mine good n base ws vs id j v h q me may.who).seats in
      let is = version_is n ws k (granted_near n base ws vs id k v h me may.granted) in omega arith

  use_cases : (l y : ℕ) (u : View) → w ≡ u → IsIn (l, y) u.uses → IsIn (l, y) v.uses ⊎ ((k ≡ l) × (found ≡ y))
  use_cases l y u same t = ⊎_elim inl
      (λ s. ⊎_elim (λ e. inr (ap (λ (p : ℕ × ℕ). p.0) e, ap (λ (p : ℕ × ℕ). p.1) e)) (λ z. absurd (none_in (l, y) z)) (in_join (k, found) [] (l, y) s))
      (in_parts v.uses ((k, found) ∷ []) (l, y) (subst (λ (s : View). IsIn (l, y) s.uses) (sym same) t))

  pub loads : ValuesHold good n base ws vs'
  loads = record {
    serial = q.serial;
    records = records_same vs id v w me refl n refl q.records;
    calls = calls_same vs id v w me refl n ws ws refl refl refl (λ b. b) (λ b. b)
        (λ i lt. refl) (λ i lt. refl) (λ i u other s. h.numbers_below other i u s) q.calls;
    items = items_kept good n base ws ws vs vs' (λ z. true) (λ z m e. refl) drops current_is q.items;
    owed = record {
      held = λ other l u known o. ⊎_elim
          (λ c. absurd (not_released v.phase (ap is_open may.phase) (q.owed.held id l v me (subst (λ (y : View). has l y.owed ≡ true) (sym c.1) o)).0))
          (λ c. q.owed.held other l u c.1 o) (case other u known);
    };
    uses = record {
      granted = λ other l y u known b i. ⊎_elim
          (λ c. subst (λ (s : View). IsGranted s l × (y ≡ next_version n ws vs' l)) c.1 (⊎_elim
          (λ old. let g = q.uses.granted id l y v me busy old in (g.0, g.1 ∙ sym (current_is l)))
          (λ fresh. subst (λ (m : ℕ). IsGranted v m × (y ≡ next_version n ws vs' m)) fresh.0 (may.granted, sym fresh.1 ∙ (found_is ∙ sym (current_is k))))
          (use_cases l y u c.1 i)))
          (λ c. let g = q.uses.granted other l y u c.1 b i in (g.0, g.1 ∙ sym (current_is l))) (case other u known);
      once = λ other l y z u known s i. ⊎_elim
          (λ c. ⊎_elim
          (λ old. ⊎_elim (λ older. q.uses.once id l y z v me old older)
          (λ fresh. absurd (may.unused y (subst (λ (m : ℕ). IsIn (m, y) v.uses) (sym fresh.0) old))) (use_cases l z u c.1 i))
          (λ fresh. ⊎_elim (λ older. absurd (may.unused z (subst (λ (m : ℕ). IsIn (m, z) v.uses) (sym fresh.0) older)))
          (λ too. sym fresh.1 ∙ too.1) (use_cases l z u c.1 i))
          (use_cases l y u c.1 s))
          (λ c. q.uses.once other l y z u c.1 s i) (case other u known);
      covered = λ other a u known b i. ⊎_elim
          (λ c. subst (λ (s : View). (x : ℕ) × IsIn (lock_of_word a, x) s.uses) c.1
          (let o = q.uses.covered id a v me busy (subst (λ (s : View). Touches s.trace a) (sym c.1) i) in
          (o.0, in_first v.uses ((k, found) ∷ []) (lock_of_word a, o.0) o.1)))
          (λ c. q.uses.covered other a u c.1 b i) (case other u known);
    };
    undo = subst (λ (l : List ℕ). UndoRestores n base l ws vs') (sym now_is) memory.0;
    trace = subst (λ (l : List ℕ). TraceCurrent n base l ws vs') (sym now_is) memory.1;
    floor = record {
      floor = λ other u known b. ⊎_elim (λ c. subst (λ (y : View). y.floor ≡ length y.seen) c.1 (q.floor.floor id v me (ap is_open may.phase)))
          (λ c. q.floor.floor other u c.1 b) (case other u known);
      causes = λ other i u known one b. ⊎_elim
          (λ c. subst (λ (y : View). AreCauses n i y.stamp y.floor y.abandoned) c.1
          (q.floor.causes id i v me (ap (λ (y : View). y.who) c.1 ∙ one) (λ e. let z : Running ≡ Idle = sym may.phase ∙ e in cc)))
          (λ c. q.floor.causes other i u c.1 one b) (case other u known);
    };
  }

pub load_version_values : (good : List ℕ → Type 0) (j k : ℕ) → KeepsValueRule good (MayLoadVersion j k) (load_version_action j k)
load_version_values good j k n base ws vs id v h q me may =
    subst (λ (l : List ℕ). ValuesHold good n base l (slice_set vs id (record v { uses = v.uses ++ (k, slice_index ws (version_word v.seats k)) ∷ [] })))
    (sym (set-get_or ws (version_word v.seats k) 0)) (loads good n base ws vs id j k v h q me may)
