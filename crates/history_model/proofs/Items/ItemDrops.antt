-- Items that wrote nothing go out of an arrangement.
use Rattle.history_model.proofs.Common.{◌≡◌, ℕ, zero, suc, ◌<◌, Bool, true, ⊎_elim, List, [], ◌∷◌, slice_get, Some, arith, Item, Uses, AgreeWithVersions}
use Rattle.history_model.proofs.Common.{IsArrangement, KeepsValues, cases_Bool, lock_of_word, IsIn}
use Rattle.std.specs.Prelude.{if◌then◌else◌}
use Rattle.history_model.specs.Arrangements.{Drops, passing}
use Rattle.history_model.proofs.Items.ItemOrders.{kept_wrote}
use Rattle.history_model.proofs.Items.ItemEnds.{values_agree, writers_agree, legal_still}

-- the place in the whole list of an element of those that pass
place : (Item → Bool) → List Item → ℕ → ℕ
place keep [] i = i
place keep (x ∷ xs) zero = if keep x then zero else suc (place keep xs zero)
place keep (x ∷ xs) (suc i) = if keep x then suc (place keep xs i) else suc (place keep xs (suc i))

passing-at : (keep : Item → Bool) (xs : List Item) (i : ℕ) (z : Item) → slice_get (passing keep xs) i ≡ Some z
    → (slice_get xs (place keep xs i) ≡ Some z) × (keep z ≡ true)
unfolding passing place
passing-at keep [] i z e = cc
passing-at keep (x ∷ xs) zero z e = ⊎_elim
    (λ k. let f : Some x ≡ Some z = rw k at e in let q : x ≡ z = cc in (rw k f, rw (← q) k))
    (λ k. let r = passing-at keep xs zero z (rw k at e) in (rw k r.0, r.1))
    (cases_Bool (keep x))
passing-at keep (x ∷ xs) (suc i) z e = ⊎_elim
    (λ k. let r = passing-at keep xs i z (rw k at e) in (rw k r.0, r.1))
    (λ k. let r = passing-at keep xs (suc i) z (rw k at e) in (rw k r.0, r.1))
    (cases_Bool (keep x))

place-up : (keep : Item → Bool) (xs : List Item) (i j : ℕ) → i < j → place keep xs i < place keep xs j
unfolding place
place-up keep [] i j l = l
place-up keep (x ∷ xs) i zero l = absurd (omega arith)
place-up keep (x ∷ xs) zero (suc j) l = ⊎_elim
    (λ k. rw k (omega arith))
    (λ k. let h = place-up keep xs zero (suc j) l in rw k (omega arith))
    (cases_Bool (keep x))
place-up keep (x ∷ xs) (suc i) (suc j) l = ⊎_elim
    (λ k. let h = place-up keep xs i j (omega arith) in rw k (omega arith))
    (λ k. let h = place-up keep xs (suc i) (suc j) l in rw k (omega arith))
    (cases_Bool (keep x))

in-passing : (keep : Item → Bool) (xs : List Item) (z : Item) → IsIn z xs → keep z ≡ true → IsIn z (passing keep xs)
unfolding passing
in-passing keep [] z m k = let e = m.1 in cc
in-passing keep (x ∷ xs) z m k = go (λ i e. in-passing keep xs z (i, e) k) (m.0) (m.1)
  where
    go : ((i : ℕ) → slice_get xs i ≡ Some z → IsIn z (passing keep xs)) → (i : ℕ) → slice_get (x ∷ xs) i ≡ Some z
        → IsIn z (if keep x then x ∷ passing keep xs else passing keep xs)
    go rest zero e = let q : x ≡ z = cc in let t : keep x ≡ true = rw q k in rw t (zero, e)
    go rest (suc i) e = let r = rest i e in ⊎_elim (λ t. rw t (suc r.0, r.1)) (λ t. rw t r) (cases_Bool (keep x))

module _ (good : List ℕ → Type 0) (base : List ℕ) (next : ℕ → ℕ) (items less order : List Item) (keep : Item → Bool)
    (held : AgreeWithVersions good base next items) (arrangement : IsArrangement items order) (entries : (z : Item)
    → IsIn z items → z.entry ≡ true → keep z ≡ true) (drops : Drops keep items less) where
  pub drops_arranged : IsArrangement less (passing keep order)
  drops_arranged = record {
    same = λ z. (
      (λ m. let r = passing-at keep order m.0 z m.1 in (drops z).1 ((arrangement.same z).0 (place keep order m.0, r.0), r.1)),
      (λ m. let d = (drops z).0 m in in-passing keep order z ((arrangement.same z).1 d.0) d.1),
    );
    no_repeat = λ i j z e f.
        let q = arrangement.no_repeat (place keep order i) (place keep order j) z (passing-at keep order i z e).0 (passing-at keep order j z f).0 in
        same_place i j q;
    in_order = λ i j y z e f l. arrangement.in_order (place keep order i) (place keep order j) y z
        (passing-at keep order i y e).0 (passing-at keep order j z f).0 (place-up keep order i j l);
  }
    where
      same_place : (i j : ℕ) → place keep order i ≡ place keep order j → i ≡ j
      same_place i j q = tri i j (λ l. let u = place-up keep order i j l in absurd (omega arith)) (λ l. let u =
          place-up keep order j i l in absurd (omega arith))
        where
          tri : (i j : ℕ) → (i < j → ⊥) → (j < i → ⊥) → i ≡ j
          tri i j a b = grind arith

  old : (z : Item) → IsIn z less → IsIn z items
  old z m = ((drops z).0 m).0

  stays : (z : Item) (k v : ℕ) → IsIn z items → Uses z k v true → IsIn z less
  stays z k v m u = (drops z).1 (m, entries z m (kept_wrote z k v (held.formed z m) u).1)

  pub drops_values : KeepsValues base next items less
  drops_values a v l = values_agree base less items a v (λ w lt. let y = held.whole (lock_of_word a) w (omega arith) in
      writers_agree (lock_of_word a) w less items y.0 (stays y.0 (lock_of_word a) w y.1 y.2) y.1 y.2
      (λ z n t. held.once z y.0 (lock_of_word a) w (old z n) y.1 t y.2) (λ z n t. held.once z y.0 (lock_of_word a) w n y.1 t y.2))

  pub drops_agree : AgreeWithVersions good base next less
  drops_agree = record {
    base_good = held.base_good;
    formed = λ z m. held.formed z (old z m);
    below = λ z k v m u. held.below z k v (old z m) u;
    whole = λ k v l. let y = held.whole k v l in (y.0, stays y.0 k v y.1 y.2, y.2);
    once = λ y z k v m n u t. held.once y z k v (old y m) (old z n) u t;
    at_most = λ z k v b m u. held.at_most z k v b (old z m) u;
    legal = λ z m. legal_still base next items less z drops_values (λ k v b u. held.at_most z k v b (old z m) u) (held.legal z (old z m));
    stays_good = λ z m. held.stays_good z (old z m);
  }
