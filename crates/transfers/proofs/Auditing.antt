-- What an audit has summed so far, on every list that fits what it read.
use Rattle.transfers.proofs.Common.{◌≡◌, ℕ, ◌+◌, ◌<◌, ◌≤◌, ◌^◌, List, [], ◌∷◌, ◌++◌, sum, take, get_or, refl, arith, sum_by_more}
use Rattle.transfers.proofs.Common.{sum_by_more_le, Read, Trace, after, Fits, SomeFits, WasRead, nothing_yet, was_read, fits_read, HasSum}

module _ (n vault : ℕ) where
  -- nothing has changed, and the total is the sum of the words before the place
  pub record IsSummed (place total : ℕ) (t : Trace) : Type 0 where
    pub same : (s : List ℕ) → Fits n (HasSum vault) t s → after t s ≡ s
    pub sum_is : (s : List ℕ) → Fits n (HasSum vault) t s → total ≡ sum (take place s)

  pub none_summed : (t : Trace) → t ≡ [] → IsSummed 0 0 t
  none_summed t fresh = record { same = λ s fit. nothing_yet t s fresh; sum_is = λ s fit. refl }

  module _ (place total v : ℕ) (t u : Trace) (read : u ≡ t ++ Read place v ∷ []) (so_far : IsSummed place total t) where
    -- what was read, and what was summed before it
    record Step (s : List ℕ) : Type 0 where
      here : WasRead place v s (after u s)
      before : total ≡ sum (take place s)

    step : (s : List ℕ) → Fits n (HasSum vault) u s → Step s
    step s fit =
        let before : Fits n (HasSum vault) t s = fits_read n (HasSum vault) t u place v s read fit in
        record { here = was_read n (HasSum vault) t u place v s s (so_far.same s before) read fit; before = so_far.sum_is s before }

    -- the word is there, and what was summed goes on by it
    pub one_more : IsSummed (place + 1) (total + v) u
    one_more = record {
      same = λ s fit. (step s fit).here.same;
      sum_is = λ s fit.
          let x : Step s = step s fit in
          let more : sum (take (place + 1) s) ≡ sum (take place s) + get_or s place 0 = sum_by_more (λ n. n) s place 0 x.here.there in
          omega (arith, more, x.before, x.here.word);
    }

    -- it is within the sum of all
    pub has_room : SomeFits n (HasSum vault) u → total + v < 2 ^ 64
    has_room some =
        let s : List ℕ = some.0 in
        let x : Step s = step s some.1 in
        let within : sum (take place s) + get_or s place 0 ≤ sum s = sum_by_more_le (λ n. n) s place 0 x.here.there in
        omega (arith, within, x.before, x.here.word, some.1.good.sum_is, some.1.good.fits)
