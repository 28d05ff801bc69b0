-- A word is read, and written with a sum.
use Rattle.transfers.proofs.Common.{◌≡◌, ℕ, ◌+◌, ◌<◌, ◌^◌, List, [], ◌∷◌, ◌++◌, slice_get, slice_set, refl, sym, ap, ◌∙◌, arith, same_Some, Read, Trace, after}
use Rattle.transfers.proofs.Common.{Fits, SomeFits, Leads, EndsWithWrite, WasRead, was_read, fits_read, was_put, fits_write_end}
use Rattle.txn.proofs.Common.{InEach}
use Rattle.transfers.specs.Counting.{HasRoom, AddsTo}

module _ (n : ℕ) (G : List ℕ → Type 0) (t u : Trace) (a x : ℕ) (read : u ≡ t ++ Read a x ∷ []) where
  reads : (s : List ℕ) → Fits n G u s → WasRead a x (after t s) (after u s)
  reads s fit = was_read n G t u a x s (after t s) refl read fit

  -- the sum with what was read fits, since some good list fits the trace with the read
  pub sum_fits : (by : ℕ) → InEach n G t (HasRoom a by) → SomeFits n G u → x + by < 2 ^ 64
  sum_fits by room some = room.at some.0 (fits_read n G t u a x some.0 read some.1) x (reads some.0 some.1).value

  -- the word has grown by what was added to its value
  pub sum_adds : (v : Trace) (by : ℕ) → EndsWithWrite u v a (x + by) → Leads n G t v (AddsTo a by)
  sum_adds v by ends = record {
    at = λ s fit k is.
        let r : WasRead a x (after t s) (after u s) = reads s (fits_write_end n G u v a (x + by) s ends fit) in
        was_put u v a (x + by) s (after t s) r.same ends ∙ ap (λ z. slice_set (after t s) a (z + by)) (same_Some x k (sym r.value ∙ is));
  }

  -- once the word was read, every state has what was read there, which has room for what fits it
  pub read_room : (by : ℕ) → x + by < 2 ^ 64 → InEach n G u (HasRoom a by)
  read_room by fits = record {
    at = λ s fit k is.
        let r : WasRead a x (after t s) (after u s) = reads s fit in
        omega (arith, fits, same_Some x k (sym r.value ∙ ap (λ z. slice_get z a) (sym r.same) ∙ is));
  }
