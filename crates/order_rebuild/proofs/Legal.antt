-- The entries in the order of their calls are in the order of their uses.
use Rattle.order_rebuild.proofs.Common.{◌≡◌, ℕ, inl, List, slice_get, get_or, Some, sym, ap, ◌∙◌, arith, ◌<◌, inr, ⊎_elim, length, dite, ℕ_discrete, dec_lt}
use Rattle.order_rebuild.proofs.Common.{LockUse, UsedBefore, slice_get_within, slice_get-get_or, at_map, below_get, Spot, IsOrder, Orderable, entries_at}
use Rattle.history_model.proofs.Common.{KeepsUses, IsArrangement}
use Rattle.history_model.specs.declared.item.Item.{Item}
use Rattle.history_model.specs.Arrangements.{WasSeenBefore}
use Rattle.history_model.proofs.ListPlaces.{map_at}
use Rattle.order_rebuild.specs.Legal.{SameUses, AreEntries}
use Rattle.order_rebuild.proofs.Stuck.{order_once, order_keeps}

-- who comes before by some uses does so by others with the same members
pub before_same : (us vs ws xs : List LockUse) → SameUses us ws → SameUses vs xs → UsedBefore us vs → UsedBefore ws xs
before_same us vs ws xs e f b = record {
  lock = b.lock;
  found = b.found;
  other = b.other;
  wrote = b.wrote;
  other_wrote = b.other_wrote;
  uses = (e b.lock b.found b.wrote).0 b.uses;
  other_uses = (f b.lock b.other b.other_wrote).0 b.other_uses;
  earlier = b.earlier;
}

same_back : (us vs : List LockUse) → SameUses us vs → SameUses vs us
same_back us vs e k v b = ((e k v b).1, (e k v b).0)

module _ (list : List Spot) (items entries : List Item) (out : List ℕ) (d : Item) (rows : AreEntries list items entries) (order : IsOrder list out) where
  -- the place and the call of an entry in the order
  at_place : (i : ℕ) (x : Item) → slice_get (entries_at d entries out) i ≡ Some x → (p : ℕ) × (s : Spot)
      × (slice_get out i ≡ Some p) × (slice_get list p ≡ Some s) × (slice_get entries p ≡ Some x)
  at_place i x e =
      let m = map_at (λ p. get_or entries p d) out i x e in
      let n = order.each i m.0 m.1 in
      let l = slice_get_within list m.0 n.spot n.may.at in
      let c = rows.count in
      (m.0, n.spot, m.1, n.may.at, slice_get-get_or entries m.0 d (omega arith) ∙ ap Some m.2)

  one_place : (i j p : ℕ) → slice_get out i ≡ Some p → slice_get out j ≡ Some p → i ≡ j
  one_place i j p e f = dite (ℕ_discrete i j) (λ q. q)
      (λ ne. dite (dec_lt i j) (λ l. absurd (order_once list out order i j p e f l)) (λ n. absurd (order_once list out order j i p f e (omega arith))))

  pub entries_ordered : KeepsUses items (entries_at d entries out)
  entries_ordered = record {
    of_items = λ x m. let a = at_place m.0 x m.1 in rows.is_entry a.0 x a.4;
    has_entries = λ x m e.
        let k = rows.all x m e in
        let b = slice_get_within entries k.0 x k.1 in
        let c = rows.count in
        let w = order.whole k.0 (omega arith) in
        let s : Some (get_or entries k.0 d) ≡ Some x = sym (slice_get-get_or entries k.0 d b) ∙ k.1 in
        (w.0, at_map (λ p. get_or entries p d) out w.0 k.0 w.1 ∙ s);
    no_repeat = λ i j x e f.
        let a = at_place i x e in let b = at_place j x f in
        let q : a.0 ≡ b.0 = rows.apart a.0 b.0 x a.4 b.4 in
        one_place i j a.0 a.2 (b.2 ∙ ap Some (sym q));
    in_order = λ i j x y e f l u.
        let a = at_place i x e in let b = at_place j y f in
        let ux = rows.uses a.0 a.1 x a.3 a.4 in let uy = rows.uses b.0 b.1 y b.3 b.4 in
        order_keeps list out order i j a.0 b.0 a.1 b.1 a.2 b.2 a.3 b.3 l (inl (before_same y.uses x.uses b.1.uses a.1.uses uy ux u));
  }

-- a number that is given if A holds
pick : {A : Type 0} → Dec A → (A → ℕ) → ℕ
pick (yes a) f = f a
pick (no n) f = 0

pick_is : {A : Type 0} (P : ℕ → Type 0) (d : Dec A) (f : A → ℕ) → A → ((a : A) → P (f a)) → P (pick d f)
unfolding pick
pick_is P (yes a) f b h = h a
pick_is P (no n) f b h = absurd (n b)

-- the number of a call is the place of its entry in the arrangement
pub orderable : (items entries order : List Item) (list : List Spot) → IsArrangement items order → AreEntries list items entries
    → ((p q : ℕ) (x y : Spot) → slice_get list p ≡ Some x → slice_get list q ≡ Some y → x.caller ≡ y.caller → x.index ≡ y.index → p ≡ q)
    → ((p q : ℕ) (x y : Spot) (i j : Item) → slice_get list p ≡ Some x → slice_get list q ≡ Some y
    → slice_get entries p ≡ Some i → slice_get entries q ≡ Some j → x.caller ≡ y.caller → x.index < y.index → WasSeenBefore i j)
    → Orderable list
orderable items entries order list arrangement rows apart saw = record {
  apart = apart;
  number = number;
  own = λ p q l m e. let a = entry p l in let b = entry q m in
      let s : Some a.0 ≡ Some b.0 = sym (placed p l) ∙ (ap (λ (i : ℕ). slice_get order i) e ∙ placed q m) in
      let same : a.0 ≡ b.0 = cc in
      rows.apart p q a.0 a.1 (b.1 ∙ ap Some (sym same));
  in_order = λ p q x y e f l before.
      let lp = slice_get_within list p x e in let lq = slice_get_within list q y f in
      let a = entry p lp in let b = entry q lq in
      arrangement.in_order (number p) (number q) a.0 b.0 (placed p lp) (placed q lq) l (⊎_elim
      (λ u. inl (before_same y.uses x.uses b.0.uses a.0.uses (same_back b.0.uses y.uses (rows.uses q y b.0 f b.1))
      (same_back a.0.uses x.uses (rows.uses p x a.0 e a.1)) u))
      (λ c. inr (inr (saw q p y x b.0 a.0 f e b.1 a.1 c.0 c.1)))
      before);
}
  where
    entry : (p : ℕ) → p < length list → (x : Item) × (slice_get entries p ≡ Some x)
    entry p l = let c = rows.count in below_get p entries (omega arith)

    place : (p : ℕ) (l : p < length list) → (i : ℕ) × (slice_get order i ≡ Some (entry p l).0)
    place p l = let a = entry p l in (arrangement.same a.0).1 (rows.is_entry p a.0 a.1)

    number : ℕ → ℕ
    number p = pick (dec_lt p (length list)) (λ l. (place p l).0)

    placed : (p : ℕ) (l : p < length list) → slice_get order (number p) ≡ Some (entry p l).0
    placed p l = pick_is (λ (i : ℕ). slice_get order i ≡ Some (entry p l).0) (dec_lt p (length list))
        (λ l. (place p l).0) l (λ m. (place p m).1 ∙ (sym (entry p m).1 ∙ (entry p l).1))
