-- Who wrote a lock at a version, and the values of a word.
use Rattle.history_model.proofs.Common.{◌≡◌, ℕ, zero, suc, ◌<◌, Bool, true, false, ◌&&◌, ◌⊎◌, inl, inr, ⊎_elim, List, [], ◌∷◌, length, slice_get, Some, refl}
use Rattle.history_model.proofs.Common.{sym, ap, ◌∙◌, arith, eq-eqb, slice_get-get_or, dite, ℕ_discrete, Item, Uses, lock_of_word, IsIn}
use Rattle.std.proofs.lemmas.Bool.{eqb-true, and_parts, or_cases}
use Rattle.std.specs.Prelude.{if◌then◌else◌, ◌==◌}
use Rattle.history_model.specs.declared.item.LockUse.{LockUse}
use Rattle.history_model.specs.Traces.{last_written}
use Rattle.history_model.specs.Items.{HasUse, wrote_at, writer_at, value_at}

pub use_is : (u : LockUse) (k v : ℕ) (b : Bool) → u.lock ≡ k → u.version ≡ v → u.wrote ≡ b → Some u ≡ Some (record { lock = k; version = v; wrote = b })
use_is u k v b l w e = rw (← l, ← w, ← e) refl

pub used_more : (k v : ℕ) (b : Bool) (u : LockUse) (us : List LockUse) → HasUse us k v b → HasUse (u ∷ us) k v b
used_more k v b u us h = (suc h.0, h.1)

pub used_cases : (k v : ℕ) (b : Bool) (u : LockUse) (us : List LockUse) → HasUse (u ∷ us) k v b
    → ((u.lock ≡ k) × (u.version ≡ v) × (u.wrote ≡ b)) ⊎ HasUse us k v b
used_cases k v b u us h = at (h.0) (h.1)
  where
    at : (i : ℕ) → slice_get (u ∷ us) i ≡ Some (record { lock = k; version = v; wrote = b })
        → ((u.lock ≡ k) × (u.version ≡ v) × (u.wrote ≡ b)) ⊎ HasUse us k v b
    at zero e = inl (cc, cc, cc)
    at (suc i) e = inr (i, e)

-- whether the uses have a write of the lock
pub wrote_some : (k : ℕ) (us : List LockUse) → ((v : ℕ) × HasUse us k v true) ⊎ ((v : ℕ) → HasUse us k v true → ⊥)
wrote_some k [] = inr (λ v h. let e = h.1 in cc)
wrote_some k (u ∷ us) = elim (wrote_some k us) [
  | inl h ↦ inl (h.0, used_more k h.0 true u us h.1)
  | inr none ↦ dite (ℕ_discrete u.lock k)
      (λ e. at_first u.wrote refl e none)
      (λ ne. inr (λ v h. ⊎_elim (λ t. ne t.0) (none v) (used_cases k v true u us h)))
]
  where
    at_first : (b : Bool) → u.wrote ≡ b → u.lock ≡ k → ((v : ℕ) → HasUse us k v true → ⊥)
        → ((v : ℕ) × HasUse (u ∷ us) k v true) ⊎ ((v : ℕ) → HasUse (u ∷ us) k v true → ⊥)
    at_first true w e none = inl (u.version, (zero, use_is u k u.version true e refl w))
    at_first false w e none = inr (λ v h. ⊎_elim (λ t. let z : true ≡ false = sym t.2 ∙ w in cc) (none v) (used_cases k v true u us h))

-- the test of a write
pub test_used : (k v : ℕ) (us : List LockUse) → HasUse us k v true → wrote_at k v us ≡ true
unfolding wrote_at
test_used k v [] h = let e = h.1 in cc
test_used k v (u ∷ us) h = ⊎_elim
    (λ t. rw (eq-eqb u.lock k t.0, eq-eqb u.version v t.1, t.2) refl)
    (λ t. rw (test_used k v us t) (grind (arith)))
    (used_cases k v true u us h)

pub used_test : (k v : ℕ) (us : List LockUse) → wrote_at k v us ≡ true → HasUse us k v true
unfolding wrote_at
used_test k v [] e = cc
used_test k v (u ∷ us) e = ⊎_elim
    (λ t. let a = and_parts (u.lock == k && u.version == v) u.wrote t in let b = and_parts (u.lock == k) (u.version == v) a.0 in
    let l : u.lock ≡ k = eqb-true u.lock k b.0 in let w : u.version ≡ v = eqb-true u.version v b.1 in (zero, use_is u k v true l w a.1))
    (λ t. used_more k v true u us (used_test k v us t))
    (or_cases (u.lock == k && u.version == v && u.wrote) (wrote_at k v us) e)

-- the only item that wrote the lock at the version is the writer
pub writer_is : (k v : ℕ) (items : List Item) (x : Item) → IsIn x items → Uses x k v true
    → ((y : Item) → IsIn y items → Uses y k v true → y ≡ x) → writer_at k v items ≡ Some x
unfolding writer_at
writer_is k v [] x h u only = let e = h.1 in cc
writer_is k v (y ∷ ys) x h u only = go (λ i e. writer_is k v ys x (i, e) u (λ z m. only z (suc m.0, m.1))) (wrote_at k v y.uses) refl (h.0) (h.1)
  where
    go : ((i : ℕ) → slice_get ys i ≡ Some x → writer_at k v ys ≡ Some x) → (b : Bool) → wrote_at k v y.uses ≡ b
        → (i : ℕ) → slice_get (y ∷ ys) i ≡ Some x → (if wrote_at k v y.uses then Some y else writer_at k v ys) ≡ Some x
    go rest true t i e = rw t (ap Some (only y (zero, refl) (used_test k v y.uses t)))
    go rest false t zero e = let q : y ≡ x = cc in let z : wrote_at k v y.uses ≡ true = rw q (test_used k v x.uses u) in cc
    go rest false t (suc i) e = rw t (rest i e)

pub value_at-next : (base : List ℕ) (items : List Item) (a v : ℕ) (x : Item)
    → writer_at (lock_of_word a) v items ≡ Some x → value_at base items a (suc v) ≡ last_written x.trace a (value_at base items a v)
unfolding value_at
value_at-next base items a v x e = rw e refl

pub value_at-first : (base : List ℕ) (items : List Item) (a : ℕ) → a < length base → slice_get base a ≡ Some (value_at base items a zero)
unfolding value_at
value_at-first base items a h = slice_get-get_or base a 0 h
