-- What a transfer's trace says of the lists that fit it.
use Rattle.transfers.proofs.Common.{◌≡◌, ◌≢◌, ℕ, ◌+◌, ◌-◌, ◌<◌, ◌≤◌, ◌^◌, List, [], ◌∷◌, ◌++◌, true, false, sum, slice_index, slice_set, refl, sym, ap, ◌∙◌}
use Rattle.transfers.proofs.Common.{arith, Read, Trace, after, Fits, SomeFits, EndsWithWrite, WasRead, HasSum, moved}
use Rattle.txn.proofs.Common.{BothPut, BothRead, first_read, both_read, both_put}
use Rattle.transfers.specs.Moving.{IsCovered, Moves}
use Rattle.transfers.proofs.Sums.{two_within, moved_sum}

module _ (n total from to amount held : ℕ) (t u : Trace) (fresh : t ≡ []) (first : u ≡ t ++ Read from held ∷ []) where
  -- it has too little
  pub too_little : held < amount → (s : List ℕ) → Fits n (HasSum total) u s → Moves from to amount s false (after u s)
  too_little less s fit =
      let r : WasRead from held s (after u s) = first_read n (HasSum total) from held t u fresh first s fit in
      record {
        covered = (
          λ no. cc,
          λ (covered : IsCovered from to amount s). let enough : amount ≤ slice_index s from =
              covered.enough in absurd (omega (arith, r.word, less, enough)),
        );
        moves = λ no. cc;
      }

  module _ (target : ℕ) (v : Trace) (second : v ≡ u ++ Read to target ∷ []) where
    -- the second word has room for the amount
    pub has_room : to ≢ from → amount ≤ held → SomeFits n (HasSum total) v → target + amount < 2 ^ 64
    has_room differ enough some =
        let b : BothRead n (HasSum total) from held t u fresh first to target v second some.0 =
        both_read n (HasSum total) from held t u fresh first to target v second some.0 some.1 in
        let within : slice_index some.0 from + slice_index some.0 to ≤ sum some.0 = two_within some.0 from to differ b.one.there b.other.there in
        omega (arith, within, b.one.word, b.other.word, some.1.good.sum_is, some.1.good.fits, enough)

    module _ (differ : to ≢ from) (enough : amount ≤ held) (w x : Trace)
        (taken : EndsWithWrite v w from (held - amount)) (put : EndsWithWrite w x to (target + amount)) where
      -- what is left, of a list on which all this was done
      record Done (s : List ℕ) : Type 0 where
        covered : IsCovered from to amount s
        left : after x s ≡ moved from to amount s
        good : HasSum total s

      done : (s : List ℕ) → Fits n (HasSum total) x s → Done s
      done s fit =
          let p : BothPut n (HasSum total) from held t u fresh first to target v second (held - amount) (target + amount) w x taken put s =
          both_put n (HasSum total) from held t u fresh first to target v second (held - amount) (target + amount) w x taken put s fit in
          let b : BothRead n (HasSum total) from held t u fresh first to target v second s = p.both in
          record {
            covered = record {
              from_there = b.one.there;
              to_there = b.other.there;
              differ = λ e. differ (sym e);
              enough = omega (arith, b.one.word, enough);
            };
            left = p.left ∙ ap (λ z. slice_set (slice_set s from (z - amount)) to (target + amount)) (sym b.one.word)
                ∙ ap (λ z. slice_set (slice_set s from (slice_index s from - amount)) to (z + amount)) (sym b.other.word);
            good = fit.good;
          }

      -- the amount was moved
      pub keeps : (s : List ℕ) → Fits n (HasSum total) x s → Moves from to amount s true (after x s)
      keeps s fit =
          let d : Done s = done s fit in
          record { covered = (λ yes. d.covered, λ covered. refl); moves = λ yes. d.left }

      -- and the sum stays
      pub stays_good : (s : List ℕ) → Fits n (HasSum total) x s → HasSum total (after x s)
      stays_good s fit =
          let d : Done s = done s fit in
          record {
            sum_is = ap sum d.left ∙ moved_sum from to amount s differ d.covered.from_there d.covered.to_there d.covered.enough ∙ d.good.sum_is;
            fits = d.good.fits;
          }
