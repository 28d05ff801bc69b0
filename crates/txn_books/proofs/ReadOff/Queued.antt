-- Books to which the items of a ring are added, front first.
use Rattle.txn_books.proofs.Common.{◌≡◌, ℕ, ◌+◌, ◌<◌, ◌≤◌, List, length, take, get_or, slice_get, Some, sym, ap, ◌∙◌, arith, take_all, get_or_from_slice_get}
use Rattle.txn_books.proofs.Common.{ClearingBooks, put_call, IsCall, Ring, AddsCalls}
use Rattle.txn_books.proofs.ReadOff.Growing.{call_is, call_fits, call_step}

module _ {ring : Ring} {words : List ℕ} {books after : ClearingBooks} (h : AddsCalls ring words books after) where
  -- the word that counts them
  pub count_is : get_or words (ring.at + 1) 0 ≡ length after.calls
  count_is = get_or_from_slice_get words (ring.at + 1) (length after.calls) 0 h.queue.count_word

  -- with the first so many
  abbrev pub so_far : ℕ → ClearingBooks
  so_far n = record books { calls = take n after.calls }

  module _ (n : ℕ) (call : ℕ × ℕ) (there : slice_get after.calls n ≡ Some call) where
    pub call_range : IsCall call
    call_range = call_is h.range n call there

    pub call_room : length (take n after.calls) < books.ring
    call_room = omega (arith, call_fits h.range n call there, ap (λ (b : ClearingBooks). b.ring) h.same)

    pub call_next : put_call (so_far n) call.0 call.1 ≡ so_far (n + 1)
    call_next = ap (λ cs. record books { calls = cs }) (call_step h.range n call there)

  pub calls_end : (n : ℕ) → length after.calls ≤ n → so_far n ≡ after
  calls_end n le = ap (λ cs. record books { calls = cs }) (take_all n after.calls le) ∙ sym h.same
