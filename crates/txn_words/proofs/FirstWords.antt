-- What a job has of the words that it reads first: of one, or of two, and of a write to each of them then.
use Rattle.txn_words.proofs.Common.{◌≡◌, ℕ, List, [], ◌∷◌, ◌++◌, length, slice_set, Read, Trace, after, Fits, EndsWithWrite}
use Rattle.txn_words.proofs.JobLaws.{WasRead, nothing_yet, was_read, fits_read, was_put}
use Rattle.txn_words.proofs.Steps.{fits_write_end}

module _ (n : ℕ) (G : List ℕ → Type 0) (a va : ℕ) (t u : Trace) (fresh : t ≡ []) (first : u ≡ t ++ Read a va ∷ []) where
  -- the word was read
  pub first_read : (s : List ℕ) → Fits n G u s → WasRead a va s (after u s)
  first_read s fit = was_read n G t u a va s s (nothing_yet t s fresh) first fit

  module _ (x : ℕ) (w : Trace) (put : EndsWithWrite u w a x) where
    -- and then written
    pub record OnePut (s : List ℕ) : Type 0 where
      pub count : length s ≡ n
      pub good : G s
      pub one : WasRead a va s (after u s)
      pub left : after w s ≡ slice_set s a x

    pub one_put : (s : List ℕ) → Fits n G w s → OnePut s
    one_put s fit =
        let one : WasRead a va s (after u s) = first_read s (fits_write_end n G u w a x s put fit) in
        record { count = fit.count; good = fit.good; one = one; left = was_put u w a x s s one.same put }

  module _ (b vb : ℕ) (v : Trace) (second : v ≡ u ++ Read b vb ∷ []) where
    -- both words were read
    pub record BothRead (s : List ℕ) : Type 0 where
      pub count : length s ≡ n
      pub good : G s
      pub one : WasRead a va s (after u s)
      pub other : WasRead b vb s (after v s)

    pub both_read : (s : List ℕ) → Fits n G v s → BothRead s
    both_read s fit =
        let one : WasRead a va s (after u s) = first_read s (fits_read n G u v b vb s second fit) in
        record { count = fit.count; good = fit.good; one = one; other = was_read n G u v b vb s s one.same second fit }

    module _ (x y : ℕ) (w z : Trace) (put : EndsWithWrite v w a x) (put_other : EndsWithWrite w z b y) where
      -- and then both were written
      pub record BothPut (s : List ℕ) : Type 0 where
        pub both : BothRead s
        pub left : after z s ≡ slice_set (slice_set s a x) b y

      pub both_put : (s : List ℕ) → Fits n G z s → BothPut s
      both_put s fit =
          let both : BothRead s = both_read s (fits_write_end n G v w a x s put (fits_write_end n G w z b y s put_other fit)) in
          record { both = both; left = was_put w z b y s _ (was_put v w a x s s both.other.same put) put_other }
