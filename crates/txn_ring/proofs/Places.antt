-- The places of a ring: after the last comes the first, and items with different numbers have different places.
use Rattle.txn_ring.proofs.Common.{◌≡◌, ◌≢◌, ℕ, ◌+◌, ◌-◌, ◌%◌, ◌<◌, ◌⊎◌, inl, inr, sym, ap, ◌∙◌, arith, mod-lt}
use Rattle.std.proofs.Common.{mod-eq_of_lt}
use Rattle.std.proofs.Math.Nat.{add-mod_right, mod-add-mod}
use Rattle.std.proofs.lemmas.Bool.{cases_lt}

-- a number below twice the capacity stays, or goes back once round
pub round : (c m : ℕ) → m < c + c → ((m < c) × (m % c ≡ m)) ⊎ (m % c + c ≡ m)
round c m lt = elim (cases_lt m c) [
  | inl below ↦ inl (below, mod-eq_of_lt below)
  | inr above ↦
      let rest : m - c < c = omega arith in
      let back : (m - c) + c ≡ m = omega arith in
      let e : m % c ≡ m - c = ap (λ k. k % c) (sym back) ∙ add-mod_right (m - c) c ∙ mod-eq_of_lt rest in
      inr (omega arith)
]

-- two items of a queue have different places
pub places_differ : (c f i j : ℕ) → f < c → i < j → j < c → (f + i) % c ≢ (f + j) % c
places_differ c f i j front lt room e = elim (round c (f + i) (omega arith)) [
  | inl a ↦ elim (round c (f + j) (omega arith)) [
    | inl b ↦ absurd (omega (arith, a.1, b.1))
    | inr b ↦ absurd (omega (arith, a.1))
  ]
  | inr a ↦ elim (round c (f + j) (omega arith)) [
    | inl b ↦ absurd (omega (arith, b.0, b.1))
    | inr b ↦ absurd (omega arith)
  ]
]

-- a place is one of the ring's
pub place_below : (c f i : ℕ) → f < c → (f + i) % c < c
place_below c f i lt = mod-lt (f + i) (omega arith)

-- the front moves on by one
pub next_place : (c f i : ℕ) → ((f + 1) % c + i) % c ≡ (f + (i + 1)) % c
next_place c f i = mod-add-mod (f + 1) c i ∙ ap (λ k. k % c) (omega arith)

-- the first item is at the front's place
pub front_place : (c f : ℕ) → f < c → (f + 0) % c ≡ f
front_place c f lt = ap (λ k. k % c) (omega arith) ∙ mod-eq_of_lt lt
