-- A view between calls that has all numbers has seen all entries, and the memory is what they leave.
use Rattle.values_rule.proofs.Common.{◌≡◌, ◌≢◌, ℕ, ◌<◌, true, inl, ⊎_elim, List, [], length, Some, None, slice_get, refl, sym, ap, ◌∙◌, subst, arith, flat_map}
use Rattle.values_rule.proofs.Common.{Entry, Item, View, Idle, Releasing, IsArrangement, Drops, passing, AgreeWithVersions, replay_items, IsIn, lock_of_word}
use Rattle.values_rule.proofs.Common.{has, flag, Knows, Notes, drops_agree, drops_arranged, drops_values, arranged, is_newest, same_view, has-join_same}
use Rattle.values_rule.proofs.Common.{LocksHold, IsSeat, table_value, oldest, version_at, items_of_entry, items_of, owed_by, next_version, IsRecorded}
use Rattle.values_rule.proofs.Common.{ValuesHold}
use Rattle.values_rule.proofs.Notes.{oldest-nil, option_cases}
use Rattle.values_rule.proofs.Phases.{open_begun}
use Rattle.values_rule.proofs.Parts.Frames.{agree_by}
use Rattle.values_rule.proofs.Told.ItemsIn.{OfEntry, OfOpen, items_from, items_into, entry_from, entry_into, flat_map_in, in_flat_map}
use Rattle.values_rule.proofs.Told.Newest.{newest-at}
use Rattle.values_rule.proofs.Told.Owing.{not_owed}

module _ (good : List ℕ → Type 0) (n : ℕ) (base ws : List ℕ) (vs : List View) (id : ℕ) (v : View)
    (h : LocksHold n base ws vs) (q : ValuesHold good n base ws vs) (me : Knows vs id v) (rests : v.phase ≡ Idle)
    (all : (j : ℕ) → j < n → has j v.who ≡ true) where
  -- a view in a call would have a number, and would be this one
  none_busy : {A : Type 0} (other : ℕ) (u : View) → Knows vs other u → u.phase ≢ Idle → A
  none_busy other u k busy =
      let c = q.calls.callers_alone other u k busy in
      let it : IsSeat vs other u c.0 = record { knows = k; named = subst (λ (l : List ℕ). has c.0 l ≡ true) (sym c.1) (has-join_same c.0 []) } in
      let same = h.numbers_unique other id c.0 u v it (record { knows = me; named = all c.0 (h.numbers_below other c.0 u it) }) in
      absurd (busy (ap (λ (y : View). y.phase) (same_view vs id other v u me k same) ∙ rests))

  pub seen_all : (e : Entry) → IsRecorded vs e → IsIn e v.seen
  seen_all e r = let lt = q.records.by_seat e r in q.records.own_seen id e.who v e (record { knows = me; named = all e.who lt }) r refl

  pub drops : Drops (λ z. true) (items_of vs) (flat_map items_of_entry v.seen)
  drops z = (
    (λ m. let r = in_flat_map items_of_entry v.seen z m in
        (items_into vs z (inl (record { entry = r.0; recorded = record { id = id; view = v; knows = me; seen = r.1 }; is = entry_from r.0 z r.2 })), refl)),
    (λ m. ⊎_elim
        (λ (o : OfEntry vs z). flat_map_in items_of_entry v.seen z o.entry (seen_all o.entry o.recorded) (entry_into o.entry z o.is))
        (λ (o : OfOpen vs z). none_busy o.id o.view o.knows (open_begun o.view.phase o.is_open))
        (items_from vs z m.0)),
  )

  -- an arrangement of what it has seen is one of all that was done
  pub of_all : (order : List Item) → IsArrangement (flat_map items_of_entry v.seen) order → IsArrangement (items_of vs) order
  of_all order a = record {
    same = λ z. (λ t. ((drops z).0 ((a.same z).0 t)).0, λ t. (a.same z).1 ((drops z).1 (t, refl)));
    no_repeat = a.no_repeat;
    in_order = a.in_order;
  }

  abbrev next : ℕ → ℕ
  next = version_at n ws

  next_is : (k : ℕ) → version_at n ws k ≡ next_version n ws vs k
  next_is k = let none : flag (owed_by k vs) ≡ 0 =
      ap flag (not_owed k vs (λ other u known t. none_busy other u known
      (λ e. let o = (q.owed.held other k u known t).0 in let f : Idle ≡ Releasing = sym e ∙ o in cc))) in omega arith

  agree : AgreeWithVersions good base (next_version n ws vs) (flat_map items_of_entry v.seen)
  agree = drops_agree good base (next_version n ws vs) (items_of vs) (flat_map items_of_entry v.seen) q.items.order
      (λ z. true) q.items.agree q.items.arranged (λ z m e. refl) drops

  nobody_noted : (a : ℕ) (other : ℕ) (u : View) → Knows vs other u → oldest a u.undo ≡ None
  nobody_noted a other u k = ⊎_elim (λ t. t)
      (λ (t : (o : ℕ) × (oldest a u.undo ≡ Some o)). none_busy other u k (λ e.
      let z : None ≡ Some t.0 = sym (oldest-nil a) ∙ (ap (λ (l : Notes). oldest a l) (sym (q.trace.rested other u k (inl e))) ∙ t.1) in cc))
      (option_cases (oldest a u.undo))

  pub agree_with_table : AgreeWithVersions good base next (flat_map items_of_entry v.seen)
  agree_with_table = agree_by good base (next_version n ws vs) next (flat_map items_of_entry v.seen) next_is agree

  pub has_arrangement : (order : List Item) × IsArrangement (flat_map items_of_entry v.seen) order
  has_arrangement = (
    passing (λ z. true) q.items.order,
    drops_arranged good base (next_version n ws vs) (items_of vs) (flat_map items_of_entry v.seen) q.items.order
        (λ z. true) q.items.agree q.items.arranged (λ z m e. refl) drops,
  )

  pub memory_is_left : (order : List Item) → IsArrangement (flat_map items_of_entry v.seen) order
      → (a : ℕ) → a < length base → slice_get (replay_items base order) a ≡ Some (table_value n ws a)
  memory_is_left order arrangement a lt =
      is_newest good base (next_version n ws vs) (flat_map items_of_entry v.seen) order agree
      (arranged (flat_map items_of_entry v.seen) order arrangement) a lt
      ∙ (ap (λ (m : ℕ). Some m) (drops_values good base (next_version n ws vs) (items_of vs) (flat_map items_of_entry v.seen) q.items.order
      (λ z. true) q.items.agree q.items.arranged (λ z m e. refl) drops a (next_version n ws vs (lock_of_word a)) (omega arith))
      ∙ (sym (newest-at base (items_of vs) (next_version n ws vs) a lt) ∙ q.undo.unnoted a lt (nobody_noted a)))
