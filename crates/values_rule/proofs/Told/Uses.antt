-- The uses of an attempt, and the item that they make.
use Rattle.values_rule.proofs.Common.{◌≡◌, ℕ, zero, suc, Bool, true, false, ◌&&◌, ◌||◌, ⊎_elim, List, [], ◌∷◌, Some, slice_get, refl, sym, ap, ◌∙◌, subst}
use Rattle.values_rule.proofs.Common.{eq-eqb, ne_eqb, ◌==◌, and_parts, dite, ℕ_discrete, Read, Write, Item, LockUse, Uses, IsIn, lock_of_word, has, Trace}
use Rattle.values_rule.proofs.Common.{Writes, Touches, Notes, has-nil, has-join_same, has-join_old, differ, uses_of, locks_of}
use Rattle.history_model.proofs.Common.{IsItem}
use Rattle.locks_rule.proofs.Common.{has-join}
use Rattle.history_model.specs.Items.{HasUse}
use Rattle.values_rule.specs.Values.{oldest}
use Rattle.locks_rule.specs.Versions.{writes_lock, use_of}
use Rattle.history_model.proofs.ListPlaces.{map_at, at_map}

-- the test of a write under a lock
pub lock_written : (k : ℕ) (t : Trace) → writes_lock k t ≡ true → (a : ℕ) × (lock_of_word a ≡ k) × Writes t a
unfolding writes_lock
lock_written k [] e = cc
lock_written k (Read b w ∷ t) e = let r = lock_written k t e in (r.0, r.1, (suc r.2.0, r.2.1, r.2.2))
lock_written k (Write b w ∷ t) e = dite (ℕ_discrete (lock_of_word b) k)
    (λ q. (b, q, (zero, w, refl)))
    (λ n. let f : (lock_of_word b == k || writes_lock k t) ≡ writes_lock k t = rw (ne_eqb (lock_of_word b) k n) refl in
    let r = lock_written k t (sym f ∙ e) in (r.0, r.1, (suc r.2.0, r.2.1, r.2.2)))

pub written_lock : (k a : ℕ) (t : Trace) → lock_of_word a ≡ k → Writes t a → writes_lock k t ≡ true
unfolding writes_lock
written_lock k a t q w = at t w.0 w.1 w.2
  where
    at : (t : Trace) (i v : ℕ) → slice_get t i ≡ Some (Write a v) → writes_lock k t ≡ true
    at [] i v e = cc
    at (Read b w ∷ t) zero v e = cc
    at (Read b w ∷ t) (suc i) v e = at t i v e
    at (Write b w ∷ t) zero v e = let s : b ≡ a = cc in
        let z : lock_of_word b ≡ k = ap (λ (n : ℕ). lock_of_word n) s ∙ q in rw (eq-eqb (lock_of_word b) k z) refl
    at (Write b w ∷ t) (suc i) v e = elim (lock_of_word b == k) as (λ (c : Bool). (c || writes_lock k t) ≡ true) [ true ↦ refl | false ↦ at t i v e ]

pair_is : (p : ℕ × ℕ) (k v : ℕ) → p.0 ≡ k → p.1 ≡ v → p ≡ (k, v)
pair_is p k v l w = rw (← l, ← w) refl

-- a use was found, and says whether it wrote
pub use_found : (kept : Bool) (trace : Trace) (found : List (ℕ × ℕ)) (k v : ℕ) (b : Bool)
    → HasUse (uses_of kept trace found) k v b → IsIn (k, v) found × (b ≡ (kept && writes_lock k trace))
use_found kept trace found k v b m =
    let r = map_at (use_of kept trace) found m.0 (record { lock = k; version = v; wrote = b }) m.1 in
    let l : r.0.0 ≡ k = ap (λ (u : LockUse). u.lock) r.2 in
    let w : r.0.1 ≡ v = ap (λ (u : LockUse). u.version) r.2 in
    let t : (kept && writes_lock r.0.0 trace) ≡ b = ap (λ (u : LockUse). u.wrote) r.2 in
    let p : r.0 ≡ (k, v) = pair_is r.0 k v l w in
    ((m.0, r.1 ∙ ap Some p), sym t ∙ ap (λ (n : ℕ). kept && writes_lock n trace) l)

pub found_use : (kept : Bool) (trace : Trace) (found : List (ℕ × ℕ)) (k v : ℕ)
    → IsIn (k, v) found → HasUse (uses_of kept trace found) k v (kept && writes_lock k trace)
found_use kept trace found k v m = (m.0, at_map (use_of kept trace) found m.0 (k, v) m.1)

-- uses that were found once each and cover the trace make an item
pub item_formed : (found : List (ℕ × ℕ)) (x : Item) → x.uses ≡ uses_of x.kept x.trace found → (x.kept ≡ true → x.entry ≡ true)
    → ((k v w : ℕ) → IsIn (k, v) found → IsIn (k, w) found → v ≡ w) → ((a : ℕ) → Touches x.trace a → (v : ℕ) × IsIn (lock_of_word a, v) found) → IsItem x
item_formed found x same entry once covers = record {
  one_each = λ k v w b c u t. let p = into k v b u in let q = into k w c t in (once k v w p.0 q.0, p.1 ∙ sym q.1);
  covered = λ a t. let c = covers a t in (c.0, x.kept && writes_lock (lock_of_word a) x.trace, from (lock_of_word a) c.0 c.1);
  wrote = λ k v b u. let p = into k v b u in (
    (λ t. let z = and_parts x.kept (writes_lock k x.trace) (sym p.1 ∙ t) in (z.0, lock_written k x.trace z.1)),
    (λ h. p.1 ∙ rw (h.0, written_lock k h.1.0 x.trace h.1.1 h.1.2) refl),
  );
  kept_entry = entry;
}
  where
    into : (k v : ℕ) (b : Bool) → Uses x k v b → IsIn (k, v) found × (b ≡ (x.kept && writes_lock k x.trace))
    into k v b u = use_found x.kept x.trace found k v b (subst (λ (us : List LockUse). HasUse us k v b) same u)

    from : (k v : ℕ) → IsIn (k, v) found → Uses x k v (x.kept && writes_lock k x.trace)
    from k v m = subst (λ (us : List LockUse). HasUse us k v (x.kept && writes_lock k x.trace)) (sym same) (found_use x.kept x.trace found k v m)

-- the locks of noted words
pub noted_lock : (a o : ℕ) (notes : Notes) → oldest a notes ≡ Some o → has (lock_of_word a) (locks_of notes) ≡ true
unfolding oldest
noted_lock a o [] e = absurd (cc)
noted_lock a o (x ∷ notes) e = dite (ℕ_discrete a x.0)
    (λ q. subst (λ (b : ℕ). has (lock_of_word b) (lock_of_word x.0 ∷ locks_of notes) ≡ true) (sym q) (has-join_same (lock_of_word x.0) (locks_of notes)))
    (λ n. has-join_old (lock_of_word a) (lock_of_word x.0) (locks_of notes) (noted_lock a o notes (rw (ne_eqb a x.0 n) at e)))

pub lock_noted : (k : ℕ) (notes : Notes) → has k (locks_of notes) ≡ true → (a : ℕ) × (o : ℕ) × (lock_of_word a ≡ k) × (oldest a notes ≡ Some o)
unfolding oldest
lock_noted k [] t = absurd (differ (has k []) t (has-nil k))
lock_noted k (x ∷ notes) t = ⊎_elim
    (λ e. (x.0, x.1, sym e, rw (eq-eqb x.0 x.0 refl) refl))
    (λ s. let r = lock_noted k notes s in dite (ℕ_discrete r.0 x.0)
    (λ q. (r.0, x.1, r.2, rw (eq-eqb r.0 x.0 q) refl))
    (λ n. (r.0, r.1, r.2, rw (ne_eqb r.0 x.0 n) r.3)))
    (has-join k (lock_of_word x.0) (locks_of notes) t)
