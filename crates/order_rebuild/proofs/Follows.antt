-- The locks go on by one use more.
use Rattle.order_rebuild.proofs.Common.{◌≡◌, ◌≢◌, ℕ, ◌+◌, ◌<◌, true, false, List, map, slice_get, slice_index, slice_set, get_or, take, Some, sym, ap, ◌∙◌}
use Rattle.order_rebuild.proofs.Common.{subst, arith, Vec, Global, get_or-set_same, get_or-set_other, dite, ℕ_discrete, slice_get_within, get_or_from_slice_get}
use Rattle.order_rebuild.proofs.Common.{at_map, get-front, front-get, LockUse, MayUse, IsStep, no_tally, row_at, version_at, left_at, Tally}
use Rattle.order_rebuild.proofs.Codes.{same_there}

module _ (us : List LockUse) (i : ℕ) (rows : ℕ → ℕ → ℕ) (version readers v r : ℕ → ℕ) (u : LockUse) (at : slice_get us i ≡ Some u)
    (above : (j : ℕ) (w : LockUse) → j < i → slice_get us j ≡ Some w → w.lock < u.lock)
    (step : IsStep (take i us) rows version readers v r) where
  -- what a use of the first i + 1 is: the newest, or one before
  is_new : (j : ℕ) (w : LockUse) → j ≡ i → slice_get us j ≡ Some w → u ≡ w
  is_new j w z e = same_there us i u w at (ap (λ (k : ℕ). slice_get us k) (sym z) ∙ e)

  untouched : (v u.lock ≡ version u.lock) × (r u.lock ≡ readers u.lock)
  untouched = step.other u.lock (λ j w e l. let g = get-front i j us w e in let h = above j w g.0 g.1 in absurd (omega arith))

  new_due : MayUse v r u → MayUse version readers u
  new_due due = (due.0 ∙ untouched.0, λ t. sym untouched.1 ∙ due.1 t)

  module _ (v2 r2 : ℕ → ℕ) (due : MayUse v r u)
      (wrote : u.wrote ≡ true → (v2 u.lock ≡ v u.lock + 1) × (r2 u.lock ≡ rows u.lock (v u.lock + 1)))
      (read : u.wrote ≡ false → (v2 u.lock ≡ v u.lock) × (r u.lock ≡ r2 u.lock + 1))
      (other : (k : ℕ) → k ≢ u.lock → (v2 k ≡ v k) × (r2 k ≡ r k)) where
    below : (j : ℕ) (w : LockUse) → j < i → slice_get us j ≡ Some w → w.lock ≢ u.lock
    below j w l e z = let h = above j w l e in absurd (omega arith)

    new_wrote : u.wrote ≡ true → (v2 u.lock ≡ version u.lock + 1) × (r2 u.lock ≡ rows u.lock (version u.lock + 1))
    new_wrote t = let h = wrote t in let n = untouched.0 in (
      h.0 ∙ ap (λ (a : ℕ). a + 1) n,
      h.1 ∙ ap (λ (a : ℕ). rows u.lock (a + 1)) n,
    )

    new_read : u.wrote ≡ false → (v2 u.lock ≡ version u.lock) × (readers u.lock ≡ r2 u.lock + 1)
    new_read t = let h = read t in let n = untouched in (h.0 ∙ n.0, sym n.1 ∙ h.1)

    pub step_more : IsStep (take (i + 1) us) rows version readers v2 r2
    step_more = record {
      rising = λ a b x y ea eb lt.
          let fa = get-front (i + 1) a us x ea in let fb = get-front (i + 1) b us y eb in let lb = fb.0 in
          dite (ℕ_discrete b i)
          (λ z. let h = above a x (omega arith) fa.1 in subst (λ (w : LockUse). x.lock < w.lock) (is_new b y z fb.1) h)
          (λ n. step.rising a b x y (front-get i a us x (omega arith) fa.1) (front-get i b us y (omega arith) fb.1) lt);
      due = λ j w e. let f = get-front (i + 1) j us w e in let l = f.0 in
          dite (ℕ_discrete j i) (λ z. subst (MayUse version readers) (is_new j w z f.1) (new_due due))
          (λ n. step.due j w (front-get i j us w (omega arith) f.1));
      wrote = λ j w e t. let f = get-front (i + 1) j us w e in let l = f.0 in
          dite (ℕ_discrete j i)
          (λ z. subst (λ (x : LockUse). x.wrote ≡ true → (v2 x.lock ≡ version x.lock + 1) × (r2 x.lock ≡ rows x.lock (version x.lock + 1)))
          (is_new j w z f.1) new_wrote t)
          (λ n. let o = other w.lock (below j w (omega arith) f.1) in let h = step.wrote j w (front-get i j us w (omega arith) f.1) t in
          (o.0 ∙ h.0, o.1 ∙ h.1));
      read = λ j w e t. let f = get-front (i + 1) j us w e in let l = f.0 in
          dite (ℕ_discrete j i)
          (λ z. subst (λ (x : LockUse). x.wrote ≡ false → (v2 x.lock ≡ version x.lock) × (readers x.lock ≡ r2 x.lock + 1))
          (is_new j w z f.1) new_read t)
          (λ n. let o = other w.lock (below j w (omega arith) f.1) in let h = step.read j w (front-get i j us w (omega arith) f.1) t in
          (o.0 ∙ h.0, h.1 ∙ ap (λ (a : ℕ). a + 1) (sym o.1)));
      other = λ k none.
          let o = other k (λ z. none i u (front-get (i + 1) i us u (omega arith) at) (sym z)) in
          let h = step.other k (λ j w e l. let g = get-front i j us w e in let b = g.0 in
          none j w (front-get (i + 1) j us w (omega arith) g.1) l) in
          (o.0 ∙ h.0, o.1 ∙ h.1);
    }

-- by the tallies of the code
module _ (rows : List (Vec ℕ Global)) (us : List LockUse) (first tallies : List Tally) (i : ℕ) (u : LockUse) (old new : Tally)
    (row : Vec ℕ Global) (at : slice_get us i ≡ Some u) (here : slice_get tallies u.lock ≡ Some old)
    (row_is : slice_get rows u.lock ≡ Some row) where
  version_is : version_at tallies u.lock ≡ old.version
  version_is = ap (λ (t : Tally). t.version) (get_or_from_slice_get tallies u.lock old no_tally here)

  left_is : left_at tallies u.lock ≡ old.readers
  left_is = ap (λ (t : Tally). t.readers) (get_or_from_slice_get tallies u.lock old no_tally here)

  set_is : get_or (slice_set tallies u.lock new) u.lock no_tally ≡ new
  set_is = get_or-set_same tallies u.lock new no_tally (slice_get_within tallies u.lock old here)

  count_is : (w : ℕ) → row_at rows u.lock w ≡ slice_index row.items w
  count_is w = ap (λ (xs : List ℕ). slice_index xs w) (get_or_from_slice_get (map (λ (x : Vec ℕ Global). x.items) rows) u.lock row.items _
      (at_map (λ (x : Vec ℕ Global). x.items) rows u.lock row row_is))

  pub place_one : ((j : ℕ) (w : LockUse) → j < i → slice_get us j ≡ Some w → w.lock < u.lock)
      → IsStep (take i us) (row_at rows) (version_at first) (left_at first) (version_at tallies) (left_at tallies)
      → u.version ≡ old.version
      → (u.wrote ≡ true → (old.readers ≡ 0) × ((new.version ≡ old.version + 1) × (new.readers ≡ slice_index row.items (old.version + 1))))
      → (u.wrote ≡ false → (new.version ≡ old.version) × (old.readers ≡ new.readers + 1))
      → IsStep (take (i + 1) us) (row_at rows) (version_at first) (left_at first) (version_at (slice_set tallies u.lock new))
      (left_at (slice_set tallies u.lock new))
  place_one above step found wrote read = step_more us i (row_at rows) (version_at first) (left_at first) (version_at tallies) (left_at tallies) u at
      above step (version_at (slice_set tallies u.lock new)) (left_at (slice_set tallies u.lock new))
      (found ∙ sym version_is, λ t. left_is ∙ (wrote t).0)
      (λ t. let h = wrote t in (
        ap (λ (x : Tally). x.version) set_is ∙ (h.1.0 ∙ ap (λ (a : ℕ). a + 1) (sym version_is)),
        ap (λ (x : Tally). x.readers) set_is ∙ (h.1.1 ∙ (sym (count_is (old.version + 1)) ∙ ap (λ (a : ℕ). row_at rows u.lock (a + 1)) (sym version_is))),
      ))
      (λ t. let h = read t in (
        ap (λ (x : Tally). x.version) set_is ∙ (h.0 ∙ sym version_is),
        left_is ∙ (h.1 ∙ ap (λ (a : ℕ). a + 1) (sym (ap (λ (x : Tally). x.readers) set_is))),
      ))
      (λ k n. (
        ap (λ (x : Tally). x.version) (get_or-set_other tallies u.lock k new no_tally n),
        ap (λ (x : Tally). x.readers) (get_or-set_other tallies u.lock k new no_tally n),
      ))
