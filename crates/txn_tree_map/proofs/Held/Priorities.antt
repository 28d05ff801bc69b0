-- Different keys have different priorities, since the multiplier has an inverse.
use Rattle.txn_tree_map.proofs.Common.{◌≡◌, ℕ, ◌+◌, ◌*◌, ◌/◌, ◌^◌, ◌<◌, refl, sym, ap, ◌∙◌, arith}
use Rattle.std.proofs.Common.{◌%◌}
use Rattle.std.proofs.Math.Nat.{add-mul-mod_self_left, mod-add-div', mod-eq_of_lt}
use Rattle.txn_alloc.specs.declared.spread.TheConstants.{MULTIPLIER}
use Rattle.txn_tree_map.specs.Trees.{priority_of}

-- a number below n comes back from its product with m by the inverse of m
undone : (n m i k a : ℕ) → m * i ≡ n * k + 1 → a < n → ((a * m) % n * i) % n ≡ a
undone n m i k a inverse low =
    let r : ℕ = (a * m) % n in
    let q : ℕ = (a * m) / n in
    let split : r + q * n ≡ a * m = mod-add-div' (a * m) n in
    let left : (r + q * n) * i ≡ a * m * i = ap (λ z. z * i) split in
    let right : a * (m * i) ≡ a * (n * k + 1) = ap (λ z. a * z) inverse in
    let same : r * i + n * (q * i) ≡ a + n * (a * k) = omega arith in
    let small : a % n ≡ a = mod-eq_of_lt low in
    sym (add-mul-mod_self_left (r * i) n (q * i)) ∙ ap (λ z. z % n) same ∙ add-mul-mod_self_left a n (a * k) ∙ small

differs : (n m i k a b : ℕ) → m * i ≡ n * k + 1 → a < n → b < n → (a * m) % n ≡ (b * m) % n → a ≡ b
differs n m i k a b inverse low_a low_b e = sym (undone n m i k a inverse low_a) ∙ ap (λ r. (r * i) % n) e ∙ undone n m i k b inverse low_b

pub priorities_differ : (key other : ℕ) → key < 2 ^ 64 → other < 2 ^ 64 → priority_of key ≡ priority_of other → key ≡ other
unfolding priority_of
priorities_differ key other low_key low_other e = differs (2 ^ 64) MULTIPLIER 17428512612931826493 10771413168148108919 key other refl low_key low_other e
