-- Every arrangement is a legal history.
use Rattle.values_rule.proofs.Common.{◌≡◌, ℕ, ◌<◌, ◌≤◌, true, false, inl, inr, ⊎_elim, List, [], ◌∷◌, length, Some, slice_get, slice_index, refl, sym, ap, ◌∙◌}
use Rattle.values_rule.proofs.Common.{subst, arith, slice_get_within, dite, ℕ_discrete, dec_lt, Entry, Item, View, IsArrangement, is_attempt, is_open}
use Rattle.values_rule.proofs.Common.{replay_items, IsIn, has, Knows, IsLegalTrace, number, arranged, is_newest, has-join_same, LocksHold, IsSeat}
use Rattle.values_rule.proofs.Common.{item_of_entry, items_of, next_version, now_of, IsRecorded, ValuesHold}
use Rattle.history_model.specs.Arrangements.{ComesBefore}
use Rattle.history_model.proofs.Items.ItemOrders.{is_legal, end_good, length-replay_items}
use Rattle.values_rule.specs.Closing.{IsPlaced}
use Rattle.values_rule.proofs.Phases.{open_begun}
use Rattle.values_rule.proofs.Told.ItemsIn.{IsAttemptOf, OfEntry, OfOpen, items_from}
use Rattle.values_rule.proofs.Told.Knowing.{last_least, knew_at}
use Rattle.values_rule.proofs.Told.Newest.{newest_is}

module _ (good : List ℕ → Type 0) (n : ℕ) (base ws : List ℕ) (vs : List View) (h : LocksHold n base ws vs) (q : ValuesHold good n base ws vs) where
  -- the seat of a view in an open call
  caller : (id : ℕ) (v : View) → Knows vs id v → is_open v.phase ≡ true → IsSeat vs id v (number v)
  caller id v k busy = let c = q.calls.callers_alone id v k (open_begun v.phase busy) in
      let is : number v ≡ c.0 = ap (λ (l : List ℕ). slice_index l 0) c.1 in
      record {
        knows = k;
        named = subst (λ (l : List ℕ). has (number v) l ≡ true) (sym c.1) (subst (λ (i : ℕ). has i (c.0 ∷ []) ≡ true) (sym is) (has-join_same c.0 []));
      }

  unjoined : (id : ℕ) (v : View) → Knows vs id v → is_open v.phase ≡ true → v.joined ≡ false
  unjoined id v k busy = let c = q.calls.callers_alone id v k (open_begun v.phase busy) in q.calls.alone_unjoined id c.0 v k c.1

  -- an item that is an entry is that of an entry that was seen
  entry_of_item : (x : Item) → IsIn x (items_of vs) → x.entry ≡ true → (e : Entry) × IsRecorded vs e × (item_of_entry e ≡ x)
  entry_of_item x m t = ⊎_elim
      (λ (o : OfEntry vs x). ⊎_elim (λ s. (o.entry, o.recorded, s))
      (λ (s : IsAttemptOf o.entry.who o.entry.call o.entry.knew o.entry.abandoned x). absurd
      (let f : false ≡ true = ap (λ (y : Item). y.entry) s.is ∙ t in cc)) o.is)
      (λ (o : OfOpen vs x). absurd (let f : false ≡ true = ap (λ (y : Item). y.entry) o.is.is ∙ t in cc))
      (items_from vs x m)

  -- what an item says of its call, as its entry or its view has it
  item_seat : (x : Item) → IsIn x (items_of vs) → x.who < n
  item_seat x m = ⊎_elim
      (λ (o : OfEntry vs x). let who : o.entry.who ≡ x.who = ⊎_elim (λ s. ap (λ (y : Item). y.who) s)
      (λ (s : IsAttemptOf o.entry.who o.entry.call o.entry.knew o.entry.abandoned x). ap (λ (y : Item). y.who) s.is) o.is in
      let lt = q.records.by_seat o.entry o.recorded in omega arith)
      (λ (o : OfOpen vs x). let who : number o.view ≡ x.who = ap (λ (y : Item). y.who) o.is.is in
      let lt = h.numbers_below o.id (number o.view) o.view (caller o.id o.view o.knows o.is_open) in omega arith)
      (items_from vs x m)

  one_entry : (x y : Item) → IsIn x (items_of vs) → IsIn y (items_of vs) → x.entry ≡ true → y.entry ≡ true → x.who ≡ y.who → x.call ≡ y.call → x ≡ y
  one_entry x y m o t s who call =
      let a = entry_of_item x m t in let b = entry_of_item y o s in
      let same = q.records.one a.0 b.0 a.1 b.1 (ap (λ (z : Item). z.who) a.2 ∙ who ∙ ap (λ (z : Item). z.who) (sym b.2))
      (ap (λ (z : Item). z.call) a.2 ∙ call ∙ ap (λ (z : Item). z.call) (sym b.2)) in
      sym a.2 ∙ (ap item_of_entry same ∙ b.2)

  -- an item's pass had seen its caller's earlier entries
  knew_own : (x y : Item) → IsIn x (items_of vs) → IsIn y (items_of vs) → x.entry ≡ true → x.who ≡ y.who → x.call < y.call → x.call ≤ slice_index y.knew x.who
  knew_own x y m o t who less =
      let a = entry_of_item x m t in
      let a_who : a.0.who ≡ x.who = ap (λ (z : Item). z.who) a.2 in
      let a_call : a.0.call ≡ x.call = ap (λ (z : Item). z.call) a.2 in
      ⊎_elim
      (λ (p : OfEntry vs y).
      let all : (p.entry.who ≡ y.who) × (p.entry.call ≡ y.call) × (p.entry.knew ≡ y.knew) = ⊎_elim
      (λ s. (ap (λ (z : Item). z.who) s, ap (λ (z : Item). z.call) s, ap (λ (z : Item). z.knew) s))
      (λ (s : IsAttemptOf p.entry.who p.entry.call p.entry.knew p.entry.abandoned y).
      (ap (λ (z : Item). z.who) s.is, ap (λ (z : Item). z.call) s.is, ap (λ (z : Item). z.knew) s.is)) p.is in
      let lt : a.0.call < p.entry.call = (let c = all.1 in omega arith) in
      let k = q.records.knew_own p.entry a.0 p.recorded a.1 (a_who ∙ who ∙ sym all.0) lt in
      subst (λ (i : ℕ). x.call ≤ slice_index y.knew i) a_who
      (subst (λ (l : List ℕ). x.call ≤ slice_index l a.0.who) all.2 (subst (λ (c : ℕ). c ≤ slice_index p.entry.knew a.0.who) a_call k)))
      (λ (p : OfOpen vs y).
      let seat = caller p.id p.view p.knows p.is_open in
      let y_who : number p.view ≡ y.who = ap (λ (z : Item). z.who) p.is.is in
      let mine : a.0.who ≡ number p.view = a_who ∙ who ∙ sym y_who in
      let seen = q.records.own_seen p.id (number p.view) p.view a.0 seat a.1 mine in
      let le = last_least a.0.who p.view.seen a.0 seen refl in
      let seats = h.seats_alike p.id (number p.view) p.view seat in
      let low = q.records.by_seat a.0 a.1 in
      let at = knew_at p.view.seats a.0.who p.view.seen (omega arith) in
      subst (λ (i : ℕ). x.call ≤ slice_index y.knew i) a_who
      (subst (λ (l : List ℕ). x.call ≤ slice_index l a.0.who) (ap (λ (z : Item). z.knew) p.is.is) (omega arith)))
      (items_from vs y o)

  not_itself : (x : Item) → IsIn x (items_of vs) → x.entry ≡ true → slice_index x.knew x.who < x.call
  not_itself x m t = let a = entry_of_item x m t in subst (λ (y : Item). slice_index y.knew y.who < y.call) a.2 (q.records.not_itself a.0 a.1)

  -- an attempt comes before the entry of its call
  attempts_first : (x y : Item) → IsIn x (items_of vs) → IsIn y (items_of vs)
      → x.entry ≡ false → y.entry ≡ true → x.who ≡ y.who → x.call ≡ y.call → x.turn < y.turn
  attempts_first x y m o f t who call =
      let b = entry_of_item y o t in
      let b_who : b.0.who ≡ y.who = ap (λ (z : Item). z.who) b.2 in
      let b_call : b.0.call ≡ y.call = ap (λ (z : Item). z.call) b.2 in
      let b_turn : length b.0.abandoned ≡ y.turn = ap (λ (z : Item). z.turn) b.2 in
      ⊎_elim
      (λ (p : OfEntry vs x). ⊎_elim
      (λ s. absurd (let z : true ≡ false = ap (λ (z : Item). z.entry) s ∙ f in cc))
      (λ (s : IsAttemptOf p.entry.who p.entry.call p.entry.knew p.entry.abandoned x).
      let same = q.records.one p.entry b.0 p.recorded b.1 (ap (λ (z : Item). z.who) s.is
      ∙ who ∙ sym b_who) (ap (λ (z : Item). z.call) s.is ∙ call ∙ sym b_call) in
      let lt = slice_get_within p.entry.abandoned s.turn s.attempt s.at in
      let turn : s.turn ≡ x.turn = ap (λ (z : Item). z.turn) s.is in
      let long : length p.entry.abandoned ≡ length b.0.abandoned = ap (λ (e : Entry). length e.abandoned) same in omega arith)
      p.is)
      (λ (p : OfOpen vs x).
      let x_who : number p.view ≡ x.who = ap (λ (z : Item). z.who) p.is.is in
      let x_call : p.view.call ≡ x.call = ap (λ (z : Item). z.call) p.is.is in
      absurd (let lt = q.calls.open_numbered p.id (number p.view) p.view b.0 (caller p.id p.view p.knows p.is_open)
      (unjoined p.id p.view p.knows p.is_open) p.is_open b.1 (b_who ∙ sym who ∙ sym x_who) in omega arith))
      (items_from vs x m)

  module _ (order : List Item) (arrangement : IsArrangement (items_of vs) order) where
    -- an item that has to come before another stands before it
    stands_before : (p r : ℕ) (x y : Item) → slice_get order p ≡ Some x → slice_get order r ≡ Some y → (y ≡ x → ⊥) → ComesBefore y x → r < p
    stands_before p r x y e f ne b = dite (dec_lt r p) (λ l. l) (λ g. dite (ℕ_discrete r p)
        (λ z. let s : Some y ≡ Some x = sym f ∙ (ap (λ (i : ℕ). slice_get order i) z ∙ e) in let t : y ≡ x = cc in absurd (ne t))
        (λ z. absurd (arrangement.in_order p r x y e f (omega arith) b)))

    pub place : (p : ℕ) (x : Item) → slice_get order p ≡ Some x → IsPlaced good n base order p x
    place p x e =
        let l = is_legal good base (next_version n ws vs) (items_of vs) order q.items.agree (arranged (items_of vs) order arrangement) p x e in
        let mx : IsIn x (items_of vs) = (arrangement.same x).0 (p, e) in
        record {
          legal = l.0;
          leaves_good = l.1;
          by_seat = item_seat x mx;
          after_own = λ t r y lt f u w.
              let my : IsIn y (items_of vs) = (arrangement.same y).0 (r, f) in
              dite (dec_lt y.call x.call) (λ s. s) (λ g. dite (ℕ_discrete x.call y.call)
              (λ c. let s = one_entry x y mx my t u (sym w) c in
              let k : slice_get order r ≡ Some x = f ∙ ap (λ (z : Item). Some z) (sym s) in
              let z = arrangement.no_repeat r p x k e in absurd (omega arith))
              (λ c. let k = knew_own x y mx my t (sym w) (omega arith) in absurd (arrangement.in_order r p y x f e lt (inr (inr (t, k))))));
          after_seen = λ y m b.
              let my : IsIn y (items_of vs) = (arrangement.same y).0 m in
              let ne : y ≡ x → ⊥ = λ s. let c = not_itself y my b.0 in
              let k = subst (λ (z : Item). y.call ≤ slice_index z.knew y.who) (sym s) b.1 in omega arith in
              (m.0, stands_before p m.0 x y e m.1 ne (inr (inr b)), m.1);
          before_own = λ t y m u w c.
              let my : IsIn y (items_of vs) = (arrangement.same y).0 m in
              let ne : x ≡ y → ⊥ = λ s. let z : false ≡ true = sym t ∙ (ap (λ (i : Item). i.entry) s ∙ u) in cc in
              (m.0, stands_before m.0 p y x m.1 e ne (inr (inl (sym w, sym c, attempts_first x y mx my t u (sym w) (sym c)))), m.1);
        }

    -- the replay has the newest values
    pub now_is : now_of n base ws vs ≡ replay_items base order
    now_is = newest_is base (items_of vs) (next_version n ws vs) (replay_items base order) (length-replay_items base order)
        (λ a lt. is_newest good base (next_version n ws vs) (items_of vs) order q.items.agree (arranged (items_of vs) order arrangement) a lt)

    pub leaves_good : good (replay_items base order)
    leaves_good = end_good good base (next_version n ws vs) (items_of vs) order q.items.agree (arranged (items_of vs) order arrangement)

    pub attempts_legal : (id : ℕ) (v : View) → Knows vs id v → is_attempt v.phase ≡ true → IsLegalTrace v.trace (replay_items base order)
    attempts_legal id v k busy = subst (λ (l : List ℕ). IsLegalTrace v.trace l) now_is (q.trace.legal id v k busy)
