-- How many calls are open after one view was put in the place of another.
use Rattle.values_rule.proofs.Common.{◌≡◌, ℕ, zero, suc, ◌+◌, List, [], ◌∷◌, slice_set, sym, ap, arith, some-injective, some-ne-none, View, is_open, flag}
use Rattle.values_rule.proofs.Common.{Knows}
use Rattle.history_model.specs.Counts.{open_count}

pub open_count-set : (vs : List View) (id : ℕ) (v w : View) → Knows vs id v
    → open_count (slice_set vs id w) + flag (is_open v.phase) ≡ open_count vs + flag (is_open w.phase)
unfolding open_count
open_count-set [] id v w e = absurd (some-ne-none v (sym e))
open_count-set (x ∷ xs) zero v w e = let same : flag (is_open x.phase) ≡ flag (is_open v.phase) =
    ap (λ (y : View). flag (is_open y.phase)) (some-injective x v e) in omega arith
open_count-set (x ∷ xs) (suc id) v w e = let rest = open_count-set xs id v w e in omega arith
