-- The lists that lines are made of, one place more.
use Rattle.order_rebuild.proofs.Common.{◌≡◌, ℕ, zero, suc, ◌+◌, ◌<◌, ◌≤◌, ◌⊎◌, inl, inr, ⊎_elim, List, [], ◌∷◌, ◌++◌, length, slice_get, slice_index, Some}
use Rattle.order_rebuild.proofs.Common.{refl, sym, ap, ◌∙◌, subst, arith, dite, ℕ_discrete, dec_lt, IsPermutation, IsPermutation-sym, slice_get_within}
use Rattle.order_rebuild.proofs.Common.{slice_get-get_or, get_or_from_slice_get, LockUse, get_first, get_last, get_cases, LINE, Spot, Turn, IsLockCode}
use Rattle.order_rebuild.proofs.Common.{line_place, IsTurnOf, HasTurn, AreTurns, GainTurns, AreStarts}
use Rattle.std.proofs.lemmas.List.Sorted.{Contains-permutation}

pub index_left : (xs : List ℕ) (y k : ℕ) → k < length xs → slice_index (xs ++ y ∷ []) k ≡ slice_index xs k
index_left [] y k l = absurd (omega arith)
index_left (x ∷ xs) y zero l = refl
index_left (x ∷ xs) y (suc k) l = index_left xs y k (omega arith)

pub index_end : (xs : List ℕ) (y k : ℕ) → k ≡ length xs → slice_index (xs ++ y ∷ []) k ≡ y
index_end [] y k e = rw e refl
index_end (x ∷ xs) y zero e = absurd (omega arith)
index_end (x ∷ xs) y (suc k) e = index_end xs y k (omega arith)

pub length_end : (xs : List ℕ) (y : ℕ) → length (xs ++ y ∷ []) ≡ length xs + 1
length_end [] y = refl
length_end (x ∷ xs) y = let h = length_end xs y in omega arith

-- the places from start up to i have the same f, and those below have less
pub record IsRun (f : ℕ → ℕ) (i start : ℕ) : Type 0 where
  pub low : start ≤ i
  pub same : (j : ℕ) → start ≤ j → j < i → f j ≡ f start
  pub less : (j : ℕ) → j < start → f j < f start

pub run_on : (f : ℕ → ℕ) (i start : ℕ) → IsRun f i start → f i ≡ f start → IsRun f (i + 1) start
run_on f i start r e = record {
  low = let l = r.low in omega arith;
  same =
      λ j a b. dite (ℕ_discrete j i) (λ s. ap f s ∙ e) (λ n. r.same j a (omega arith));
  less = r.less;
}

pub run_new : (f : ℕ → ℕ) (i start : ℕ) → IsRun f i start → (f start ≤ f i) → (f i ≡ f start → ⊥) → IsRun f (i + 1) i
run_new f i start r up n = record {
  low = omega arith;
  same = λ j a b. ap f (omega arith);
  less = λ j a. dite (dec_lt j start) (λ l. let h = r.less j l in omega arith) (λ l. let h = r.same j (omega arith) a in
      dite (dec_lt (f j) (f i)) (λ z. z) (λ z. absurd (n (omega arith))));
}

pub starts_more : (f : ℕ → ℕ) (i start : ℕ) (starts : List ℕ) → AreStarts f i starts → IsRun f (i + 1) start → start ≤ i
    → AreStarts f (i + 1) (starts ++ start ∷ [])
starts_more f i start starts s r le = record {
  count = let c = s.count in let e = length_end starts start in omega arith;
  low = λ k lt. ⊎_elim (λ t. let h = s.low k t.0 in let e = t.1 in omega arith) (λ t. let e = t.1 in let z = t.0 in omega arith) (at k lt);
  same = λ k j lt a b. ⊎_elim
      (λ t. s.same k j t.0 (let e = t.1 in omega arith) b)
      (λ t. let e = t.1 in let z = t.0 in r.same j (omega arith) (omega arith) ∙ (sym (r.same i le (omega arith)) ∙ ap f (sym t.0)))
      (at k lt);
  less = λ k j lt a. ⊎_elim
      (λ t. s.less k j t.0 (let e = t.1 in omega arith))
      (λ t. let e = t.1 in let h = r.less j (omega arith) in let g = r.same i le (omega arith) in let q = ap f t.0 in omega arith)
      (at k lt);
}
  where
    at : (k : ℕ) → k < i + 1 → ((k < i) × (slice_index (starts ++ start ∷ []) k ≡ slice_index starts k))
        ⊎ ((k ≡ i) × (slice_index (starts ++ start ∷ []) k ≡ start))
    at k lt = let c = s.count in dite (dec_lt k i) (λ l. inl (l, index_left starts start k (omega arith)))
        (λ n. inr (omega arith, index_end starts start k (omega arith)))

pub has_kept : (xs ys : List Turn) (p c : ℕ) → ((i : ℕ) (t : Turn) → slice_get xs i ≡ Some t → slice_get ys i ≡ Some t) → HasTurn xs p c → HasTurn ys p c
has_kept xs ys p c kept h = (h.0, kept h.0 (record { code = c; item = p }) h.1)

pub get_kept : (xs : List Turn) (y : Turn) (i : ℕ) (t : Turn) → slice_get xs i ≡ Some t → slice_get (xs ++ y ∷ []) i ≡ Some t
get_kept xs y i t e = get_first xs (y ∷ []) i (slice_get_within xs i t e) ∙ e

pub gain_more : (us : List LockUse) (p n c : ℕ) (u : LockUse) (old new : List Turn) → GainTurns us p n old new
    → slice_get us n ≡ Some u → IsLockCode us u.lock c
    → GainTurns us p (n + 1) old (new ++ record { code = c; item = p } ∷ [])
gain_more us p n c u old new g e code = record {
  kept = λ i t f. get_kept new (record { code = c; item = p }) i t (g.kept i t f);
  sound = λ i t f. ⊎_elim (λ h. g.sound i t h.1)
      (λ h. inr (sym (ap (λ (w : Turn). w.item) h.1), (u.lock, subst (λ (w : Turn). IsLockCode us u.lock w.code) h.1 code)))
      (get_cases new (record { code = c; item = p }) t i f);
  whole = λ j v l f. dite (ℕ_discrete j n)
      (λ s. let same : u ≡ v = one (sym e ∙ (ap (λ (k : ℕ). slice_get us k) (sym s) ∙ f)) in
      (c, subst (λ (w : LockUse). IsLockCode us w.lock c) same code, (length new, get_last new (record { code = c; item = p }))))
      (λ m. let w = g.whole j v (omega arith) f in
      (w.0, w.1, has_kept new (new ++ record { code = c; item = p } ∷ []) p w.0 (get_kept new (record { code = c; item = p })) w.2));
}
  where
    one : {a b : LockUse} → Some a ≡ Some b → a ≡ b
    one q = cc

-- the turn of an item in its caller's line
abbrev turn_of_caller : Spot → ℕ → Turn
turn_of_caller s p = record { code = line_place s.caller s.index; item = p }

abbrev with_caller : List Turn → Spot → ℕ → List Turn
with_caller turns s p = turns ++ turn_of_caller s p ∷ []

pub turns_more : (list : List Spot) (p : ℕ) (s : Spot) (old new : List Turn) → AreTurns list p old
    → slice_get list p ≡ Some s → GainTurns s.uses p (length s.uses) old new → s.index < LINE
    → AreTurns list (p + 1) (new ++ record { code = line_place s.caller s.index; item = p } ∷ [])
turns_more list p s old new are at g fits = record {
  sound = λ i t e. ⊎_elim
      (λ h. ⊎_elim
      (λ o. let a = are.sound i t o in (let l = a.0 in omega arith, a.1))
      (λ o. (let z = o.0 in omega arith, subst (λ (q : ℕ). IsTurnOf list q t.code) (sym o.0) (s, at, inl o.1)))
      (g.sound i t h.1))
      (λ h. subst (λ (w : Turn). (w.item < p + 1) × IsTurnOf list w.item w.code) h.1 (omega arith, (s, at, inr (refl, fits))))
      (get_cases new (record { code = line_place s.caller s.index; item = p }) t i e);
  of_uses = λ q x j u l e f. dite (ℕ_discrete q p)
      (λ z. let same : s ≡ x = one (sym at ∙ (ap (λ (k : ℕ). slice_get list k) (sym z) ∙ e)) in
      let h : slice_get s.uses j ≡ Some u = subst (λ (w : Spot). slice_get w.uses j ≡ Some u) (sym same) f in
      let w = g.whole j u (slice_get_within s.uses j u h) h in (
        w.0,
        subst (λ (v : Spot). IsLockCode v.uses u.lock w.0) same w.1,
        subst (λ (k : ℕ). HasTurn (with_caller new s p) k w.0) (sym z) (has_kept new (with_caller new s p) p w.0 (get_kept new (turn_of_caller s p)) w.2),
      ))
      (λ n. let w = are.of_uses q x j u (omega arith) e f in (w.0, w.1, old_kept q w.0 w.2));
  of_caller = λ q x l e. dite (ℕ_discrete q p)
      (λ z. let same : s ≡ x = one (sym at ∙ (ap (λ (k : ℕ). slice_get list k) (sym z) ∙ e)) in
      subst (λ (v : Spot). (v.index < LINE) × HasTurn (with_caller new s p) q (line_place v.caller v.index)) same
      (fits, subst (λ (k : ℕ). HasTurn (with_caller new s p) k (line_place s.caller s.index)) (sym z) (length new, get_last new (turn_of_caller s p))))
      (λ n. let w = are.of_caller q x (omega arith) e in (w.0, old_kept q (line_place x.caller x.index) w.1));
}
  where
    old_kept : (q c : ℕ) → HasTurn old q c → HasTurn (with_caller new s p) q c
    old_kept q c h = has_kept new (with_caller new s p) q c (get_kept new (turn_of_caller s p)) (has_kept old new q c g.kept h)

    one : {a b : Spot} → Some a ≡ Some b → a ≡ b
    one q = cc

-- what is in a list is in the same list in another order
pub moved_in : {A : Type 0} (xs ys : List A) → IsPermutation xs ys → (t : A) → (i : ℕ) × (slice_get xs i ≡ Some t) → (i : ℕ) × (slice_get ys i ≡ Some t)
moved_in xs ys moved t m =
    let c = Contains-permutation xs ys t moved (m.0, slice_get_within xs m.0 t m.1, get_or_from_slice_get xs m.0 t t m.1) in
    (c.0, slice_get-get_or ys c.0 t c.1 ∙ ap Some c.2)

-- the same turns in another order
pub turns_moved : (list : List Spot) (n : ℕ) (xs ys : List Turn) → IsPermutation xs ys → AreTurns list n xs → AreTurns list n ys
turns_moved list n xs ys moved are = record {
  sound = λ i t e. let b = moved_in ys xs (IsPermutation-sym xs ys moved) t (i, e) in are.sound b.0 t b.1;
  of_uses = λ p s j u l e f. let w = are.of_uses p s j u l e f in (w.0, w.1, moved_in xs ys moved (record { code = w.0; item = p }) w.2);
  of_caller = λ p s l e. let w = are.of_caller p s l e in (w.0, moved_in xs ys moved (record { code = line_place s.caller s.index; item = p }) w.1);
}
