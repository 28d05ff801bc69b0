-- Locks that shut others out, and what a store to a word does to the others.
use Rattle.values_rule.proofs.Common.{◌≡◌, ◌≢◌, ℕ, ◌+◌, ◌<◌, false, inl, inr, List, length, Option, Some, None, slice_index, slice_set, sym, ap, ◌∙◌, subst}
use Rattle.values_rule.proofs.Common.{arith, get_or-set_other, get_or-set_same, View, has, Knows, value_word, HasWriteGrant, IsGranted, differ, not_true}
use Rattle.values_rule.proofs.Common.{LocksHold, IsSeat, Own, table_value}

-- a lock that one seat holds for writing no other seat holds
pub shut_out : (n : ℕ) (base ws : List ℕ) (vs : List View) (id other j k : ℕ) (v u : View) → LocksHold n base ws vs
    → other ≢ id → Knows vs id v → IsSeat vs other u j
    → IsGranted u k → HasWriteGrant v k → ⊥
shut_out n base ws vs id other j k v u h ne me it (inl reads) writer =
    let c = h.claims_show_in_writers id k v me writer.0 in
    let j_below = h.numbers_below other j u it in
    let seats = h.seats_alike id c.0 v c.1 in
    let away : has j v.who ≡ false = not_true (has j v.who) (λ t. ne (h.numbers_unique other id j u v it (record { knows = me; named = t }))) in
    differ (has k u.reads) reads (h.scanned_excludes_readers id other j k v u (λ e. ne (sym e)) me it writer.0 (writer.1 j (omega (arith, seats)) away))
shut_out n base ws vs id other j k v u h ne me it (inr other_writer) writer =
    let c = h.claims_show_in_writers id k v me writer.0 in
    let d = h.claims_show_in_writers other k u it.knows other_writer.0 in
    let same : c.0 ≡ d.0 = let z : c.0 + 1 ≡ d.0 + 1 = sym c.3 ∙ d.3 in omega arith in
    ne (h.numbers_unique other id c.0 u v (subst (λ (i : ℕ). IsSeat vs other u i) (sym same) d.1) c.1)

-- where a word of the memory stands, and what a store to it does to the others
module _ (n : ℕ) (base ws : List ℕ) (vs : List View) (id j : ℕ) (v : View) (h : LocksHold n base ws vs)
    (o : Own n vs id j v) (a x : ℕ) (within : a < length v.base) where
  pub in_base : a < length base
  in_base = subst (λ (l : List ℕ). a < length l) (h.bases_alike id j v o.seat) within

  pub set_here : table_value n (slice_set ws (value_word v.seats a) x) a ≡ x
  set_here =
      let same : value_word v.seats a ≡ value_word n a = ap (λ (m : ℕ). value_word m a) o.seats in
      let low = in_base in
      ap (λ (i : ℕ). slice_index (slice_set ws i x) (value_word n a)) same ∙ get_or-set_same ws (value_word n a) x 0 (omega (arith, h.word_count))

  pub set_there : (b : ℕ) → b ≢ a → table_value n (slice_set ws (value_word v.seats a) x) b ≡ table_value n ws b
  set_there b ne = let seats = o.seats in get_or-set_other ws (value_word v.seats a) (value_word n b) x 0 (λ e. ne (omega arith))

-- what is there is not missing
pub not_none : (a old : ℕ) {o : Option ℕ} → (y : ℕ) × (o ≡ Some y) → o ≡ None → ⊥
not_none a old s e = let z : Some s.0 ≡ None = sym s.1 ∙ e in cc
