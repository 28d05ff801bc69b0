-- What adding all amounts means, at the two ends of the loop.
use Rattle.transfers.proofs.Common.{◌≡◌, ℕ, ◌+◌, ◌<◌, ◌≤◌, ◌^◌, List, [], ◌∷◌, ◌++◌, length, take, get_or, sum, true, false, refl, ap, subst, arith, take_all}
use Rattle.transfers.proofs.Common.{sum_by_more_le, Read, Trace, Fits, Leads}
use Rattle.txn.proofs.Common.{after}
use Rattle.transfers.specs.Counting.{AddsAll}
use Rattle.transfers.proofs.Growing.{Grown, grown_read}

-- an amount that did not fit: not all of them do
pub adds_none : (c : ℕ) (G : List ℕ → Type 0) (t u : Trace) (xs : List ℕ) (i x : ℕ)
    → Leads c G [] t (Grown (sum (take i xs))) → u ≡ t ++ Read 0 x ∷ [] → i < length xs → 2 ^ 64 ≤ x + get_or xs i 0
    → (s : List ℕ) → Fits c G u s → AddsAll xs s false (after u s)
unfolding after
adds_none c G t u xs i x grown e within over s fit = record {
  fits = λ n is small.
      let read : x ≡ n + sum (take i xs) = grown_read c G [] t u x (sum (take i xs)) grown e s fit n is small in
      let part : sum (take i xs) + get_or xs i 0 ≤ sum xs = sum_by_more_le (λ k. k) xs i 0 within in
      (λ k. cc, λ below. absurd (omega (arith, read, over)));
  grown = λ n is small k. cc;
}

-- all amounts were added
pub adds_all : (c : ℕ) (G : List ℕ → Type 0) (t : Trace) (xs : List ℕ) (i : ℕ)
    → Leads c G [] t (Grown (sum (take i xs))) → length xs ≤ i
    → (s : List ℕ) → Fits c G t s → AddsAll xs s true (after t s)
unfolding after
adds_all c G t xs i grown end s fit =
    let whole : Grown (sum xs) s (after t s) = subst (λ m. Grown m s (after t s)) (ap sum (take_all i xs end)) (grown.at s fit) in
    record {
      fits = λ n is small. (λ _. (whole.at n is small).1, λ _. refl);
      grown = λ n is small _. (whole.at n is small).0;
    }
