-- A list that stands in its order, one item more, and its places as they are.
use Rattle.order_rebuild.proofs.Common.{◌≡◌, ℕ, ◌+◌, ◌-◌, ◌<◌, ◌≤◌, ⊎_elim, List, length, slice_get, slice_index, take, Some, refl, sym, ap, ◌∙◌, subst, arith}
use Rattle.order_rebuild.proofs.Common.{dite, ℕ_discrete, dec_lt, slice_get_within, slice_get-get_or, below_get, get-front, front-get, UsedBefore, IsIn, flag}
use Rattle.order_rebuild.proofs.Common.{LockUse, Spot, Precedes, IsNext, IsOrder, IsPast}
use Rattle.order_rebuild.specs.Standing.{InTurn, AreInTurn, KeepUses}
use Rattle.order_rebuild.proofs.Codes.{same_there}

-- the first n are in turn
abbrev pub AreInTurnBelow : List Spot → ℕ → Type 0
AreInTurnBelow list n = (p q : ℕ) (x y : Spot) → slice_get list p ≡ Some x → slice_get list q ≡ Some y → p < q → q < n → InTurn x y

turn_on : (x y z : Spot) → InTurn x y → InTurn y z → InTurn x z
turn_on x y z a b =
    let xy = a.0 in let yz = b.0 in (
      omega arith,
      λ e. let f = a.1 (omega arith) in let g = b.1 (omega arith) in omega arith,
    )

-- one more is, if it is in turn behind the one before
pub turn_more : (list : List Spot) (n : ℕ) (x y : Spot) → 1 ≤ n → slice_get list (n - 1) ≡ Some x → slice_get list n ≡ Some y
    → InTurn x y → AreInTurnBelow list n → AreInTurnBelow list (n + 1)
turn_more list n x y one ex ey step below p q a b ea eb lt le = dite (ℕ_discrete q n)
    (λ z.
    let y_is : y ≡ b = same_there list n y b ey (ap (λ (k : ℕ). slice_get list k) (sym z) ∙ eb) in
    subst (InTurn a) y_is (dite (ℕ_discrete p (n - 1))
    (λ s. let x_is : x ≡ a = same_there list (n - 1) x a ex (ap (λ (k : ℕ). slice_get list k) (sym s) ∙ ea) in
    subst (λ (w : Spot). InTurn w y) x_is step)
    (λ m. turn_on a x y (below p (n - 1) a x ea ex (omega arith) (omega arith)) step)))
    (λ m. below p q a b ea eb lt (omega arith))

-- the first n keep their uses, and the versions are past those uses
pub record AreBehind (list : List Spot) (n : ℕ) (versions : List ℕ) : Type 0 where
  pub past : (p j : ℕ) (s : Spot) (u : LockUse) → p < n → slice_get list p ≡ Some s → slice_get s.uses j ≡ Some u → IsPast versions u
  pub keep : (p q : ℕ) (x y : Spot) → slice_get list p ≡ Some x → slice_get list q ≡ Some y → p < q → q < n
      → UsedBefore y.uses x.uses → ⊥

-- a use that found no lower version than an earlier one left does not come before it
not_before : (versions : List ℕ) (us vs : List LockUse)
    → ((j : ℕ) (u : LockUse) → slice_get us j ≡ Some u → IsPast versions u)
    → ((j : ℕ) (u : LockUse) → slice_get vs j ≡ Some u → slice_index versions u.lock ≤ u.version) → UsedBefore vs us → ⊥
not_before versions us vs past found b =
    let f : slice_index versions b.lock ≤ b.found = found b.uses.0 (record { lock = b.lock; version = b.found; wrote = b.wrote }) b.uses.1 in
    let l : b.other + flag b.other_wrote ≤ slice_index versions b.lock =
    past b.other_uses.0 (record { lock = b.lock; version = b.other; wrote = b.other_wrote }) b.other_uses.1 in
    ⊎_elim (λ lt. absurd (omega arith))
    (λ e. let same = e.0 in let one : flag b.other_wrote ≡ 1 = rw (e.2) refl in absurd (omega arith)) b.earlier

-- one item more
pub behind_more : (list : List Spot) (n : ℕ) (s : Spot) (old new : List ℕ) → slice_get list n ≡ Some s → AreBehind list n old
    → ((k : ℕ) → slice_index old k ≤ slice_index new k)
    → ((j : ℕ) (u : LockUse) → slice_get s.uses j ≡ Some u → slice_index old u.lock ≤ u.version)
    → ((j : ℕ) (u : LockUse) → slice_get s.uses j ≡ Some u → IsPast new u) → AreBehind list (n + 1) new
behind_more list n s old new at behind rises found leaves = record {
  past = λ p j t u lt e f. dite (ℕ_discrete p n)
      (λ z. leaves j u (subst (λ (w : Spot). slice_get w.uses j ≡ Some u) (sym (here p t e z)) f))
      (λ m. let h = behind.past p j t u (omega arith) e f in let r = rises u.lock in omega arith);
  keep = λ p q x y ex ey lt le b. dite (ℕ_discrete q n)
      (λ z. not_before old x.uses s.uses (λ j u f. behind.past p j x u (omega arith) ex f) found
      (subst (λ (w : Spot). UsedBefore w.uses x.uses) (sym (here q y ey z)) b))
      (λ m. behind.keep p q x y ex ey lt (omega arith) b);
}
  where
    here : (p : ℕ) (t : Spot) → slice_get list p ≡ Some t → p ≡ n → s ≡ t
    here p t e z = same_there list n s t at (ap (λ (k : ℕ). slice_get list k) (sym z) ∙ e)

-- then the places as they are are the order
module _ (list : List Spot) (out : List ℕ) (count : length out ≡ length list)
    (each : (i : ℕ) → i < length list → slice_index out i ≡ i) (turn : AreInTurn list) (keep : KeepUses list) where
  place : (i : ℕ) → i < length list → slice_get out i ≡ Some i
  place i l = slice_get-get_or out i 0 (omega (arith, count)) ∙ ap Some (each i l)

  place_is : (i p : ℕ) → slice_get out i ≡ Some p → p ≡ i
  place_is i p e = same_there out i p i e (place i (let w = slice_get_within out i p e in omega (arith, count)))

  not_placed : (i q : ℕ) (other : Spot) → slice_get list q ≡ Some other → (IsIn q (take i out) → ⊥) → i ≤ q
  not_placed i q other e n = dite (dec_lt q i)
      (λ l. absurd (n (q, front-get i q out q l (place q (slice_get_within list q other e)))))
      (λ m. omega arith)

  none_first : (i q : ℕ) (spot other : Spot) → slice_get list i ≡ Some spot → slice_get list q ≡ Some other → i < q
      → Precedes other spot → ⊥
  none_first i q spot other e f l before =
      let t = turn i q spot other e f l in
      ⊎_elim (λ b. keep i q spot other e f l b) (λ c. let lt = t.1 (sym c.0) in let low = c.1 in absurd (omega arith)) before

  next_is : (i : ℕ) (spot : Spot) → slice_get list i ≡ Some spot → IsNext list (take i out) i
  next_is i spot at = record {
    spot = spot;
    may = record {
      at = at;
      fresh = λ m. let f = get-front i m.0 out i m.1 in let e = place_is m.0 i f.1 in let l = f.0 in absurd (omega arith);
      first = λ q other e n ne. none_first i q spot other at e (let l = not_placed i q other e n in omega arith);
    };
    least = λ q other m. let l = not_placed i q other m.at m.fresh in dite (ℕ_discrete q i)
        (λ z. let same = ap (λ (s : Spot). s.caller) (same_there list i spot other at (ap (λ (k : ℕ). slice_get list k) (sym z) ∙ m.at)) in omega arith)
        (λ ne. (turn i q spot other at m.at (omega arith)).0);
  }

  pub standing_is_order : IsOrder list out
  standing_is_order = record {
    whole = λ p l. (p, place p l);
    each = λ i p e.
        let w = below_get i list (let l = slice_get_within out i p e in omega (arith, count)) in
        subst (IsNext list (take i out)) (sym (place_is i p e)) (next_is i w.0 w.1);
  }
