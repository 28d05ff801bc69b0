-- A pair's words spell no other pair.
use Rattle.std.proofs.Common.{◌≡◌, ℕ, ◌<◌, ◌^◌, ◌∷◌, ap, ◌∙◌}
use Rattle.txn_cells.specs.Spelling.{halves_of, one_of_halves}
use Rattle.txn_cells.specs.declared.pair.Pair.{Pair}

pair_of : ℕ → ℕ → Pair
pair_of first second = record { first = first; second = second }

pub one_pair : (x y : Pair) → (x.first < 2 ^ 64) × (x.second < 2 ^ 128) → (y.first < 2 ^ 64) × (y.second < 2 ^ 128)
    → x.first ∷ halves_of x.second ≡ y.first ∷ halves_of y.second → x ≡ y
unfolding pair_of
one_pair x y p q e =
    let first : x.first ≡ y.first = cc e in
    let second : x.second ≡ y.second = one_of_halves x.second y.second p.1 q.1 (cc e) in
    ap (λ a. pair_of a x.second) first ∙ ap (pair_of y.first) second
