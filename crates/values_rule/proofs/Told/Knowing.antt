-- The last call of each seat among entries.
use Rattle.values_rule.proofs.Common.{◌≡◌, ℕ, zero, suc, ◌+◌, ◌<◌, ◌≤◌, ◌⊎◌, inl, inr, ⊎_elim, List, [], ◌∷◌, ◌++◌, refl, sym, ap, ◌∙◌, arith, eq-eqb, ne_eqb}
use Rattle.values_rule.proofs.Common.{dite, ℕ_discrete, dec_lt, Entry, IsIn, knew_of}
use Rattle.std.specs.Prelude.{slice_index, max}
use Rattle.std.proofs.Math.Nat.{le-max_left, le-max_right}
use Rattle.values_rule.proofs.Members.{in_join, none_in}
use Rattle.values_rule.specs.History.{last_call, knew_from}

max_cases : (a b : ℕ) → (max a b ≡ a) ⊎ (max a b ≡ b)
max_cases a b = dite (dec_lt a b) (λ l. inr (omega arith)) (λ n. inl (omega arith))

-- no entry of the seat is later
pub last_least : (j : ℕ) (es : List Entry) (e : Entry) → IsIn e es → e.who ≡ j → e.call ≤ last_call j es
unfolding last_call
last_least j [] e t own = absurd (none_in e t)
last_least j (x ∷ es) e t own = ⊎_elim
    (λ same. let who : x.who ≡ j = ap (λ (y : Entry). y.who) same ∙ own in
    let call : x.call ≡ e.call = ap (λ (y : Entry). y.call) same in
    rw (eq-eqb x.who j who) (let m = le-max_left x.call (last_call j es) in omega arith))
    (λ s. let rest = last_least j es e s own in dite (ℕ_discrete x.who j)
    (λ q. rw (eq-eqb x.who j q) (let m = le-max_right x.call (last_call j es) in omega arith))
    (λ n. rw (ne_eqb x.who j n) rest))
    (in_join x es e t)

-- and one is the last
pub last_is : (j : ℕ) (es : List Entry) → 0 < last_call j es → (e : Entry) × IsIn e es × (e.who ≡ j) × (e.call ≡ last_call j es)
unfolding last_call
last_is j [] h = absurd (omega arith)
last_is j (x ∷ es) h = dite (ℕ_discrete x.who j)
    (λ q. ⊎_elim
    (λ m. (x, (zero, refl), q, rw (eq-eqb x.who j q) (sym m)))
    (λ m. let some : 0 < max x.call (last_call j es) = rw (eq-eqb x.who j q) at h in
    let r = last_is j es (omega arith) in (r.0, (suc r.1.0, r.1.1), r.2, rw (eq-eqb x.who j q) (r.3 ∙ sym m)))
    (max_cases x.call (last_call j es)))
    (λ n. let some : 0 < last_call j es = rw (ne_eqb x.who j n) at h in
    let r = last_is j es some in (r.0, (suc r.1.0, r.1.1), r.2, rw (ne_eqb x.who j n) r.3))

-- one entry more
pub last_more : (j : ℕ) (es : List Entry) (e : Entry) → e.who ≡ j → last_call j es ≤ e.call → last_call j (es ++ e ∷ []) ≡ e.call
unfolding last_call
last_more j [] e own le = rw (eq-eqb e.who j own) (omega arith)
last_more j (x ∷ es) e own le = dite (ℕ_discrete x.who j)
    (λ q. let both : max x.call (last_call j es) ≤ e.call = rw (eq-eqb x.who j q) at le in
    let m = le-max_left x.call (last_call j es) in let r = le-max_right x.call (last_call j es) in
    rw (eq-eqb x.who j q, last_more j es e own (omega arith)) (omega arith))
    (λ n. rw (ne_eqb x.who j n) (last_more j es e own (rw (ne_eqb x.who j n) at le)))

knew_from-at : (i n k : ℕ) (es : List Entry) → k < n → slice_index (knew_from i n es) k ≡ last_call (i + k) es
unfolding knew_from
knew_from-at i zero k es h = absurd (omega arith)
knew_from-at i (suc n) zero es h = let q : i ≡ i + 0 = omega arith in ap (λ (m : ℕ). last_call m es) q
knew_from-at i (suc n) (suc k) es h = let q : suc i + k ≡ i + suc k = omega arith in
    knew_from-at (suc i) n k es (omega arith) ∙ ap (λ (m : ℕ). last_call m es) q

pub knew_at : (n j : ℕ) (es : List Entry) → j < n → slice_index (knew_of n es) j ≡ last_call j es
knew_at n j es h = let z : 0 + j ≡ j = omega arith in knew_from-at 0 n j es h ∙ ap (λ (m : ℕ). last_call m es) z

knew_from-past : (i n k : ℕ) (es : List Entry) → n ≤ k → slice_index (knew_from i n es) k ≡ 0
unfolding knew_from
knew_from-past i zero k es h = refl
knew_from-past i (suc n) zero es h = absurd (omega arith)
knew_from-past i (suc n) (suc k) es h = knew_from-past (suc i) n k es (omega arith)

pub knew_past : (n j : ℕ) (es : List Entry) → n ≤ j → slice_index (knew_of n es) j ≡ 0
knew_past n j es h = knew_from-past 0 n j es h
