-- Sums that fit, one after the other.
use Rattle.transfers.proofs.Common.{◌≡◌, ℕ, ◌+◌, ◌<◌, ◌≤◌, ◌^◌, List, [], ◌∷◌, ◌++◌, true, false, slice_get, slice_set, Some, refl, sym, ap, ◌∙◌, arith}
use Rattle.transfers.proofs.Common.{same_Some, Read, Trace, after, Leads, get_set_same, EndsWithWrite, WasRead, was_read, was_put, fits_write_end}
use Rattle.transfers.proofs.Common.{AddsWhereFits}
use Rattle.transfers.specs.Counting.{AddsPairOr}

-- the first does not fit
pub first_not : (a b : ℕ) (s t : List ℕ) → AddsWhereFits a false s t → AddsWhereFits (a + b) false s t
first_not a b s t f = record {
  at = λ n is. let x = f.at n is in ((λ k. cc, λ (lt : n + (a + b) < 2 ^ 64). x.0.1 (omega (arith, lt))), x.1);
}

-- the first fits, and then the second
pub both_fit : (a b : ℕ) (s m t : List ℕ) → AddsWhereFits a true s m → AddsWhereFits b true m t → AddsWhereFits (a + b) true s t
both_fit a b s m t f g = record {
  at = λ n is.
      let x = f.at n is in
      let y = g.at (n + a) x.1 in
      let room : (n + a) + b < 2 ^ 64 = y.0.0 refl in
      let sums : (n + a) + b ≡ n + (a + b) = omega arith in
      ((λ k. omega (arith, room), λ k. refl), y.1 ∙ ap Some sums);
}

-- the first fits, the second does not, and the words are what they were before
pub second_not : (a b : ℕ) (s m u t : List ℕ) → AddsWhereFits a true s m → AddsWhereFits b false m u → t ≡ s → AddsWhereFits (a + b) false s t
second_not a b s m u t f g same = record {
  at = λ n is.
      let x = f.at n is in
      let y = g.at (n + a) x.1 in
      ((λ k. cc, λ (lt : n + (a + b) < 2 ^ 64). y.0.1 (omega (arith, lt))), ap (λ z. slice_get z 0) same ∙ is);
}

-- the pair fits
pub pair_fits : (p o : ℕ) (s t : List ℕ) → AddsWhereFits p true s t → AddsPairOr p o s true t
pair_fits p o s t f = record {
  both = λ n is lt. (refl, (f.at n is).1);
  instead = λ n is over lt. let room : n + p < 2 ^ 64 = (f.at n is).0.0 refl in absurd (omega (arith, room, over));
  neither = λ n is over far. let room : n + p < 2 ^ 64 = (f.at n is).0.0 refl in absurd (omega (arith, room, over));
}

-- it does not, and the other amount does
pub other_fits : (p o : ℕ) (s m t : List ℕ) → AddsWhereFits p false s m → AddsWhereFits o true m t → AddsPairOr p o s true t
other_fits p o s m t f g = record {
  both = λ n is lt. let k : false ≡ true = (f.at n is).0.1 lt in absurd (cc);
  instead = λ n is over lt. (refl, (g.at n (f.at n is).1).1);
  neither = λ n is over far. let room : n + o < 2 ^ 64 = (g.at n (f.at n is).1).0.0 refl in absurd (omega (arith, room, far));
}

-- and neither does
pub neither_fits : (p o : ℕ) (s m t : List ℕ) → AddsWhereFits p false s m → AddsWhereFits o false m t → AddsPairOr p o s false t
neither_fits p o s m t f g = record {
  both = λ n is lt. let k : false ≡ true = (f.at n is).0.1 lt in absurd (cc);
  instead = λ n is over lt. let k : false ≡ true = (g.at n (f.at n is).1).0.1 lt in absurd (cc);
  neither = λ n is over far. refl;
}

module _ (n : ℕ) (G : List ℕ → Type 0) (t u : Trace) (x by : ℕ) (read : u ≡ t ++ Read 0 x ∷ []) where
  -- what was read leaves no room
  pub leads_not : 2 ^ 64 ≤ x + by → Leads n G t u (AddsWhereFits by false)
  leads_not over = record {
    at = λ s fit. record {
      at = λ k is.
          let r : WasRead 0 x (after t s) (after u s) = was_read n G t u 0 x s (after t s) refl read fit in
          let same : x ≡ k = same_Some x k (sym r.value ∙ is) in (
            (λ e. cc, λ (lt : k + by < 2 ^ 64). absurd (omega (arith, lt, over, same))),
            ap (λ z. slice_get z 0) r.same ∙ is,
          );
    };
  }

  -- what was read leaves room, and the sum is written
  pub leads_fits : (v : Trace) → EndsWithWrite u v 0 (x + by) → x + by < 2 ^ 64 → Leads n G t v (AddsWhereFits by true)
  leads_fits v ends room = record {
    at = λ s fit. record {
      at = λ k is.
          let r : WasRead 0 x (after t s) (after u s) =
          was_read n G t u 0 x s (after t s) refl read (fits_write_end n G u v 0 (x + by) s ends fit) in
          let same : x ≡ k = same_Some x k (sym r.value ∙ is) in
          let last : after v s ≡ slice_set (after t s) 0 (x + by) = was_put u v 0 (x + by) s (after t s) r.same ends in (
            (λ e. omega (arith, room, same), λ e. refl),
            ap (λ z. slice_get z 0) last ∙ get_set_same (after t s) 0 (x + by) r.there ∙ ap (λ z. Some (z + by)) same,
          );
    };
  }
