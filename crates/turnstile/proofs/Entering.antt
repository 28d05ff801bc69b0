-- What a trace says of how many are inside, on every list that fits it.
use Rattle.turnstile.proofs.Common.{◌≡◌, ◌<◌, arith}
use Rattle.txn.proofs.Common.{Trace, after, Fits, Read, EndsWithWrite, OnePut, WasRead, first_read, one_put}
use Rattle.std.proofs.Common.{ℕ, ◌+◌, ◌≤◌, List, [], ◌∷◌, ◌++◌, slice_index, true, false, refl, ap, ◌∙◌}
use Rattle.std.proofs.lemmas.List.{get_or-set_same}
use Rattle.turnstile.specs.Entering.{Enters, HasAtMost}

module _ (limit inside : ℕ) (t u : Trace) (fresh : t ≡ []) (read : u ≡ t ++ Read 0 inside ∷ []) where
  -- it is full
  pub stays_out : limit ≤ inside → (s : List ℕ) → Fits 1 (HasAtMost limit) u s → Enters limit s false false (after u s)
  stays_out full s fit =
      let i : WasRead 0 inside s (after u s) = first_read 1 (HasAtMost limit) 0 inside t u fresh read s fit in
      record { says_so = refl; room = (λ no. cc, λ lt. absurd (omega (arith, lt, i.word, full))); more = λ no. cc }

  module _ (room : inside < limit) (v : Trace) (write : EndsWithWrite u v 0 (inside + 1)) where
    -- one more came in
    one_more : (s : List ℕ) → Fits 1 (HasAtMost limit) v s → (slice_index s 0 ≡ inside) × (slice_index (after v s) 0 ≡ inside + 1)
    one_more s fit =
        let p : OnePut 1 (HasAtMost limit) 0 inside t u fresh read (inside + 1) v write s =
        one_put 1 (HasAtMost limit) 0 inside t u fresh read (inside + 1) v write s fit in
        (p.one.word, ap (λ z. slice_index z 0) p.left ∙ get_or-set_same s 0 (inside + 1) 0 p.one.there)

    pub comes_in : (s : List ℕ) → Fits 1 (HasAtMost limit) v s → Enters limit s true true (after v s)
    comes_in s fit =
        let m : (slice_index s 0 ≡ inside) × (slice_index (after v s) 0 ≡ inside + 1) = one_more s fit in
        record { says_so = refl; room = (λ _. omega (arith, m.0, room), λ _. refl); more = λ _. omega (arith, m.1, m.0) }

    pub stays_good : (s : List ℕ) → Fits 1 (HasAtMost limit) v s → HasAtMost limit (after v s)
    stays_good s fit = omega (arith, (one_more s fit).1, room)
