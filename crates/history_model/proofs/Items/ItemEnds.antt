-- An item at the end of an arrangement.
use Rattle.history_model.proofs.Common.{◌≡◌, ℕ, zero, suc, ◌<◌, ◌≤◌, Bool, true, inl, inr, ⊎_elim, List, [], ◌∷◌, ◌++◌, length, Some, refl, sym, ap, ◌∙◌, subst}
use Rattle.history_model.proofs.Common.{arith, dite, dec_lt, Item, Uses, IsItem, LegalOnValues, writer_at, AgreeWithVersions, KeepsUses, IsArrangement}
use Rattle.history_model.proofs.Common.{KeepsValues, cases_Bool, slice_get_within, lock_of_word, IsIn}
use Rattle.history_model.specs.Items.{StaysGood, value_at}
use Rattle.history_model.specs.Arrangements.{MayStandLast, Adds, RaisesVersions, WritesNewest, ComesBefore}
use Rattle.history_model.proofs.ListPlaces.{get_first, get_last, get_cases}
use Rattle.history_model.proofs.Traces.LastEvents.{last_written-unwritten}
use Rattle.history_model.proofs.Items.ItemValues.{writer_is, value_at-next}
use Rattle.history_model.proofs.Items.ItemOrders.{kept_wrote, wrote_all}

pub arranged : (items order : List Item) → IsArrangement items order → KeepsUses items order
arranged items order h = record {
  of_items = λ x. (h.same x).0;
  has_entries = λ x m e. (h.same x).1 m;
  no_repeat = h.no_repeat;
  in_order = λ i j x y e f l u. h.in_order i j x y e f l (inl u);
}

-- values are equal if the writers below are
pub values_agree : (base : List ℕ) (one two : List Item) (a n : ℕ)
    → ((w : ℕ) → w < n → writer_at (lock_of_word a) w one ≡ writer_at (lock_of_word a) w two) → value_at base one a n ≡ value_at base two a n
unfolding value_at
values_agree base one two a zero h = refl
values_agree base one two a (suc n) h = rw (h n (omega arith), values_agree base one two a n (λ w l. h w (omega arith))) refl

-- an item in both lists that is the only writer in each
pub writers_agree : (k w : ℕ) (one two : List Item) (x : Item) → IsIn x one → IsIn x two → Uses x k w true
    → ((y : Item) → IsIn y one → Uses y k w true → y ≡ x) → ((y : Item) → IsIn y two → Uses y k w true → y ≡ x) → writer_at k w one ≡ writer_at k w two
writers_agree k w one two x m n u p q = writer_is k w one x m u p ∙ sym (writer_is k w two x n u q)

-- an item of both lists reads the same values
pub legal_still : (base : List ℕ) (next : ℕ → ℕ) (items others : List Item) (x : Item)
    → KeepsValues base next items others → ((k v : ℕ) (b : Bool) → Uses x k v b → v ≤ next k) → LegalOnValues base items x → LegalOnValues base others x
legal_still base next items others x same most legal s long h = legal s long (λ a v b lt u. h a v b lt u ∙ ap Some (same a v (most (lock_of_word a) v b u)))

module _ (good : List ℕ → Type 0) (base : List ℕ) (next raised : ℕ → ℕ) (items more order : List Item) (x : Item)
    (held : AgreeWithVersions good base next items) (arrangement : IsArrangement items order)
    (may : MayStandLast good base next items x) (adds : Adds x items more) (raises : RaisesVersions x next raised) where
  is_new : IsIn x items → ⊥
  is_new m = let l = may.last.newest x m refl refl in omega arith

  none_after : (y : Item) → IsIn y items → ComesBefore x y → ⊥
  none_after y m (inl u) =
      let c = may.last.current u.lock u.found u.wrote u.uses in
      let d = held.at_most y u.lock u.other u.other_wrote m u.other_uses in
      ⊎_elim (λ l. omega arith)
      (λ t. let b = held.below y u.lock u.other m (subst (λ (b : Bool). Uses y u.lock u.other b) t.2 u.other_uses) in let e = t.0 in omega arith) u.earlier
  none_after y m (inr (inl t)) = let l = may.last.newest y m (sym t.0) (sym t.1) in let k = t.2 in omega arith
  none_after y m (inr (inr s)) = let l = may.last.unseen y m s.0 in let k = s.1 in omega arith

  pub ends_arranged : IsArrangement more (order ++ x ∷ [])
  ends_arranged = record {
    same = λ z. (
      (λ m. (adds z).1 (⊎_elim (λ e. inl ((arrangement.same z).0 (m.0, e.1))) (λ t. inr (sym t.1)) (get_cases order x z m.0 m.1))),
      (λ m. ⊎_elim (λ o. let n = (arrangement.same z).1 o in
          (n.0, get_first order (x ∷ []) n.0 (slice_get_within order n.0 z n.1) ∙ n.1))
          (λ e. (length order, get_last order x ∙ ap Some (sym e))) ((adds z).0 m)),
    );
    no_repeat = λ i j z e f. ⊎_elim
        (λ p. ⊎_elim (λ q. arrangement.no_repeat i j z p.1 q.1)
        (λ q. absurd (is_new ((arrangement.same x).0 (i, p.1 ∙ ap Some (sym q.1))))) (get_cases order x z j f))
        (λ p. ⊎_elim (λ q. absurd (is_new ((arrangement.same x).0 (j, q.1 ∙ ap Some (sym p.1))))) (λ q. p.0 ∙ sym q.0) (get_cases order x z j f))
        (get_cases order x z i e);
    in_order = λ i j y z e f l. ⊎_elim
        (λ p. ⊎_elim (λ q. arrangement.in_order i j y z p.1 q.1 l)
        (λ q b. none_after y ((arrangement.same y).0 (i, p.1)) (subst (λ (w : Item). ComesBefore w y) (sym q.1) b)) (get_cases order x z j f))
        (λ p b. ⊎_elim (λ q. let n = q.0 in let o = p.0 in absurd (omega arith)) (λ q. let n = q.0 in let o = p.0 in
        absurd (omega arith)) (get_cases order x z j f))
        (get_cases order x y i e);
  }

  -- whoever wrote a version that was there is an old item
  only_old : (k w : ℕ) (y z : Item) → IsIn y items → Uses y k w true → IsIn z more → Uses z k w true → z ≡ y
  only_old k w y z m u n t = ⊎_elim (λ o. held.once z y k w o m t u)
      (λ e. let l = held.below y k w m u in let c =
      may.last.current k w true (subst (λ (q : Item). Uses q k w true) e t) in absurd (omega arith)) ((adds z).0 n)

  pub ends_values : KeepsValues base next items more
  ends_values a v l = values_agree base more items a v (λ w lt. let y = held.whole (lock_of_word a) w (omega arith) in
      writers_agree (lock_of_word a) w more items y.0 ((adds y.0).1 (inl y.1)) y.1 y.2
      (λ z n t. only_old (lock_of_word a) w y.0 z y.1 y.2 n t) (λ z n t. held.once z y.0 (lock_of_word a) w n y.1 t y.2))

  only_new : (k w : ℕ) (z : Item) → Uses x k w true → IsIn z more → Uses z k w true → z ≡ x
  only_new k w z u n t = ⊎_elim (λ o. let l = held.below z k w o t in let c = may.last.current k w true u in absurd (omega arith)) (λ e. e) ((adds z).0 n)

  pub ends_moved : WritesNewest base x next raised items more
  ends_moved a = ⊎_elim
      (λ m. let v = m.0.0 in let u = m.0.1 in
      let c : v ≡ next (lock_of_word a) = may.last.current (lock_of_word a) v true u in
      let n : Uses x (lock_of_word a) (next (lock_of_word a)) true = subst (λ (w : ℕ). Uses x (lock_of_word a) w true) c u in
      let k : x.kept ≡ true = (kept_wrote x (lock_of_word a) v may.formed u).0 in
      let is : writer_at (lock_of_word a) (next (lock_of_word a)) more ≡ Some x =
      writer_is (lock_of_word a) (next (lock_of_word a)) more x ((adds x).1 (inr refl)) n
      (λ z i t. only_new (lock_of_word a) (next (lock_of_word a)) z n i t) in
      rw (m.1, k, value_at-next base more a (next (lock_of_word a)) x is, ends_values a (next (lock_of_word a)) (omega arith)) refl)
      (λ m. let none = m.0 in rw (m.1, ends_values a (next (lock_of_word a)) (omega arith)) (⊎_elim
      (λ k. rw k (sym (last_written-unwritten x.trace a (value_at base items a (next (lock_of_word a))) (λ w. let u =
      wrote_all x a may.formed k w in none u.0 u.1))))
      (λ k. rw k refl)
      (cases_Bool x.kept)))
      (raises (lock_of_word a))

  pub ends_agree : AgreeWithVersions good base raised more
  ends_agree = record {
    base_good = held.base_good;
    formed = λ z m. ⊎_elim (λ o. held.formed z o) (λ e. subst IsItem (sym e) may.formed) ((adds z).0 m);
    below = λ z k v m u. ⊎_elim
        (λ o. let l = held.below z k v o u in let s = up k in omega arith)
        (λ e. let t : Uses x k v true = subst (λ (q : Item). Uses q k v true) e u in let c = may.last.current k v true t in
        ⊎_elim (λ s. let q = s.1 in omega arith) (λ s. absurd (s.0 v t)) (raises k)) ((adds z).0 m);
    whole = λ k v l. dite (dec_lt v (next k))
        (λ lt. let y = held.whole k v lt in (y.0, (adds y.0).1 (inl y.1), y.2))
        (λ n. ⊎_elim
        (λ s. let q = s.1 in let c = may.last.current k s.0.0 true s.0.1 in let e : s.0.0 ≡ v = omega arith in
        (x, (adds x).1 (inr refl), subst (λ (w : ℕ). Uses x k w true) e s.0.1))
        (λ s. let q = s.1 in absurd (omega arith)) (raises k));
    once = λ y z k v m n u t. ⊎_elim
        (λ o. sym (only_old k v y z o u n t))
        (λ e. let ux : Uses x k v true = subst (λ (q : Item). Uses q k v true) e u in e ∙ sym (only_new k v z ux n t)) ((adds y).0 m);
    at_most = λ z k v b m u. ⊎_elim
        (λ o. let l = held.at_most z k v b o u in let s = up k in omega arith)
        (λ e. let c = may.last.current k v b (subst (λ (q : Item). Uses q k v b) e u) in let s = up k in omega arith) ((adds z).0 m);
    legal = λ z m. ⊎_elim
        (λ o. legal_still base next items more z ends_values (λ k v b u. held.at_most z k v b o u) (held.legal z o))
        (λ e. subst (λ (q : Item). LegalOnValues base more q) (sym e)
        (legal_still base next items more x ends_values (λ k v b u. let c = may.last.current k v b u in omega arith) may.legal)) ((adds z).0 m);
    stays_good = λ z m. ⊎_elim (λ o. held.stays_good z o) (λ e. subst (λ (q : Item). StaysGood good base q) (sym e) may.stays_good) ((adds z).0 m);
  }
    where
      up : (k : ℕ) → next k ≤ raised k
      up k = ⊎_elim (λ s. let q = s.1 in omega arith) (λ s. let q = s.1 in omega arith) (raises k)
