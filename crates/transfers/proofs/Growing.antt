-- The counter grows by one amount more.
use Rattle.transfers.proofs.Common.{◌≡◌, ℕ, ◌+◌, ◌<◌, ◌^◌, List, [], ◌∷◌, ◌++◌, slice_get, slice_set, Some, refl, sym, ap, ◌∙◌, arith, same_Some, Read, Trace}
use Rattle.transfers.proofs.Common.{after, Fits, Leads, get_set_same, EndsWithWrite, WasRead, was_read, fits_read, was_put, fits_write_end}

-- the counter is m more in t than in s, and fits
pub record Grown (m : ℕ) (s t : List ℕ) : Type 0 where
  pub at : (n : ℕ) → slice_get s 0 ≡ Some n → n < 2 ^ 64 → (slice_get t 0 ≡ Some (n + m)) × (n + m < 2 ^ 64)

module _ (n : ℕ) (G : List ℕ → Type 0) (t0 t u : Trace) (x m : ℕ) (grown : Leads n G t0 t (Grown m)) (read : u ≡ t ++ Read 0 x ∷ []) where
  -- what was read last is the counter as it has grown
  pub grown_read : (s : List ℕ) → Fits n G u s → (k : ℕ) → slice_get (after t0 s) 0 ≡ Some k → k < 2 ^ 64 → x ≡ k + m
  grown_read s fit k is small =
      let r : WasRead 0 x (after t s) (after u s) = was_read n G t u 0 x s (after t s) refl read fit in
      let before : slice_get (after t s) 0 ≡ Some (k + m) = ((grown.at s (fits_read n G t u 0 x s read fit)).at k is small).0 in
      same_Some x (k + m) (sym r.value ∙ before)

  -- and it has grown by the amount that is written on top of it
  pub grown_more : (v : Trace) (y : ℕ) → EndsWithWrite u v 0 (x + y) → x + y < 2 ^ 64 → Leads n G t0 v (Grown (m + y))
  grown_more v y ends room = record {
    at = λ s fit. record {
      at = λ k is small.
          let fit_u : Fits n G u s = fits_write_end n G u v 0 (x + y) s ends fit in
          let r : WasRead 0 x (after t s) (after u s) = was_read n G t u 0 x s (after t s) refl read fit_u in
          let last : after v s ≡ slice_set (after t s) 0 (x + y) = was_put u v 0 (x + y) s (after t s) r.same ends in
          let sums : x + y ≡ k + (m + y) = omega (arith, grown_read s fit_u k is small) in (
            ap (λ z. slice_get z 0) last ∙ get_set_same (after t s) 0 (x + y) r.there ∙ ap Some sums,
            omega (arith, sums, room),
          );
    };
  }
