-- Which locks are owed, and what a step of one view leaves of that.
use Rattle.values_rule.proofs.Common.{◌≡◌, ℕ, zero, suc, ◌<◌, ◌≤◌, true, false, ◌⊎◌, inl, inr, ⊎_elim, List, [], ◌∷◌, refl, sym, ap, ◌∙◌, arith, nat_lt}
use Rattle.values_rule.proofs.Common.{or_cases, or_left, or_right, dite, dec_lt, some-injective, some-ne-none, LOCKS, View, has, Knows, version_word, differ}
use Rattle.values_rule.proofs.Common.{bool_cases, not_true, version_at}
use Rattle.std.specs.Prelude.{slice_index, if◌then◌else◌}
use Rattle.std.proofs.lemmas.Bool.{lt-ltb, le-ltb}
use Rattle.values_rule.specs.History.{owed_by}

-- a view owes the lock
pub record Owes (k : ℕ) (vs : List View) : Type 0 where
  pub id : ℕ
  pub view : View
  pub knows : Knows vs id view
  pub owes : has k view.owed ≡ true

pub owed_from : (k : ℕ) (vs : List View) → owed_by k vs ≡ true → Owes k vs
unfolding owed_by
owed_from k [] e = absurd (cc)
owed_from k (x ∷ vs) e = ⊎_elim
    (λ t. record { id = zero; view = x; knows = refl; owes = t })
    (λ t. let r = owed_from k vs t in record { id = suc r.id; view = r.view; knows = r.knows; owes = r.owes })
    (or_cases (has k x.owed) (owed_by k vs) e)

pub owed_into : (k : ℕ) (vs : List View) (id : ℕ) (v : View) → Knows vs id v → has k v.owed ≡ true → owed_by k vs ≡ true
unfolding owed_by
owed_into k [] id v e t = absurd (some-ne-none v (sym e))
owed_into k (x ∷ vs) zero v e t = let same : has k x.owed ≡ true = ap
    (λ (y : View). has k y.owed) (some-injective x v e) ∙ t in or_left (has k x.owed) (owed_by k vs) same
owed_into k (x ∷ vs) (suc id) v e t = or_right (has k x.owed) (owed_by k vs) (owed_into k vs id v e t)

-- nobody owes it
pub not_owed : (k : ℕ) (vs : List View) → ((id : ℕ) (v : View) → Knows vs id v → has k v.owed ≡ true → ⊥) → owed_by k vs ≡ false
not_owed k vs none = not_true (owed_by k vs) (λ t. let o = owed_from k vs t in none o.id o.view o.knows o.owes)

-- who owes before owes after, and the other way round
pub owed_same : (k : ℕ) (vs vs' : List View) → (Owes k vs → Owes k vs') → (Owes k vs' → Owes k vs) → owed_by k vs' ≡ owed_by k vs
owed_same k vs vs' to from = ⊎_elim
    (λ t. let o = to (owed_from k vs t) in owed_into k vs' o.id o.view o.knows o.owes ∙ sym t)
    (λ f. not_true (owed_by k vs') (λ t. let o = from (owed_from k vs' t) in differ (owed_by k vs) (owed_into k vs o.id o.view o.knows o.owes) f) ∙ sym f)
    (bool_cases (owed_by k vs))

near_cases : (k : ℕ) → ((nat_lt k LOCKS ≡ true) × (k < LOCKS)) ⊎ ((nat_lt k LOCKS ≡ false) × (LOCKS ≤ k))
near_cases k = dite (dec_lt k LOCKS) (λ l. inl (lt-ltb k LOCKS l, l)) (λ g. let far : LOCKS ≤ k = omega arith in inr (le-ltb k LOCKS far, far))

-- if the words of VERSIONS stay, so do the versions
pub version_kept : (n : ℕ) (ws ws' : List ℕ) → ((k : ℕ) → k < LOCKS → slice_index ws' (version_word n k) ≡ slice_index ws (version_word n k))
    → (k : ℕ) → version_at n ws' k ≡ version_at n ws k
version_kept n ws ws' stay k = ⊎_elim
    (λ t. rw (t.0) (stay k t.1))
    (λ t. rw (t.0) refl)
    (near_cases k)

-- of a lock it is the word
pub version_is : (n : ℕ) (ws : List ℕ) (k : ℕ) → k < LOCKS → version_at n ws k ≡ slice_index ws (version_word n k)
version_is n ws k near = rw (lt-ltb k LOCKS near) refl

pub version_apart : (n : ℕ) (ws ws' : List ℕ) (k : ℕ)
    → slice_index ws' (version_word n k) ≡ slice_index ws (version_word n k) → version_at n ws' k ≡ version_at n ws k
version_apart n ws ws' k e = ap (λ (m : ℕ). if nat_lt k LOCKS then m else 0) e
