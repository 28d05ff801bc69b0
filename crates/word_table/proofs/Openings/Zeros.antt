-- Words behind zeros, and the places of one view.
use Rattle.word_table.proofs.Common.{◌≡◌, ℕ, zero, suc, ◌+◌, ◌<◌, List, [], ◌∷◌, ◌++◌, length, slice_index, replicate, refl, sym, ap, ◌∙◌, arith}
use Rattle.word_table.proofs.Common.{some-injective, some-ne-none, View, Knows}

pub zeros_at : (k : ℕ) (xs : List ℕ) (i : ℕ) → i < k → slice_index (replicate k 0 ++ xs) i ≡ 0
zeros_at zero xs i h = absurd (omega arith)
zeros_at (suc k) xs zero h = refl
zeros_at (suc k) xs (suc i) h = zeros_at k xs i (omega arith)

pub past_zeros : (k : ℕ) (xs : List ℕ) (i : ℕ) → slice_index (replicate k 0 ++ xs) (k + i) ≡ slice_index xs i
past_zeros zero xs i = let e : 0 + i ≡ i = omega arith in ap (λ (m : ℕ). slice_index xs m) e
past_zeros (suc k) xs i = let e : suc k + i ≡ suc (k + i) = omega arith in ap (λ (m : ℕ). slice_index (replicate (suc k) 0 ++ xs) m) e ∙ past_zeros k xs i

pub zeros_long : (k : ℕ) (xs : List ℕ) → length (replicate k 0 ++ xs) ≡ k + length xs
zeros_long zero xs = omega arith
zeros_long (suc k) xs = omega (arith, zeros_long k xs)

pub one_view : (v : View) (id : ℕ) (u : View) → Knows (v ∷ []) id u → (id ≡ 0) × (v ≡ u)
one_view v zero u e = (refl, some-injective v u e)
one_view v (suc id) u e = absurd (some-ne-none u (sym e))
