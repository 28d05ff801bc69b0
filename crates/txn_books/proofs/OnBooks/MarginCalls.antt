-- What calls on the queue say of books.
use Rattle.txn_books.proofs.Common.{◌≡◌, ℕ, ◌<◌, Bool, true, false, ◌==◌, List, [], ◌∷◌, ◌++◌, length, drop, get_or, slice_get, Some, None, refl, sym, ap, ◌∙◌}
use Rattle.txn_books.proofs.Common.{subst, arith, length-append, ClearingBooks, put_call, AreInRange, IsCall, KeepsOthers, QueueHolds, IsEmpty, Pops, one_queue}
use Rattle.txn_books.proofs.Common.{BooksShape, queue_of, Stands, IsGoodFor, ChangesWithRoom, TellsAndChanges}
use Rattle.txn_ring.proofs.Common.{IsInOrder, IsOwn, TakesFront}
use Rattle.books_model.proofs.InRange.{put_call-in_range}
use Rattle.books_model.proofs.Drafts.{taken-in_range}
use Rattle.txn_books.proofs.OneState.Changes.{queue_change}
use Rattle.txn_books.proofs.OneState.States.{queue_held, is_below, is_at}
use Rattle.txn_books.proofs.OnBooks.Calls.{IsPushed, IsPopped}

module _ (shape : BooksShape) where
  pub queue_there : (x : List ℕ) → IsGoodFor shape x → IsInOrder (queue_of shape) x
  queue_there x good = (good.0.calls, queue_held shape x good.0 good.1)

  -- books with other calls
  stands_with : (x y : List ℕ) (books : ClearingBooks) → Stands shape x books → (calls : List (ℕ × ℕ))
      → QueueHolds (queue_of shape) y calls → KeepsOthers (IsOwn (queue_of shape)) x y
      → AreInRange (record books { calls = calls }) → Stands shape y (record books { calls = calls })
  stands_with x y books stand calls held keeps range = record {
    sizes = stand.sizes;
    range = range;
    parts = queue_change x y books [] stand.parts calls (subst (λ z. QueueHolds (queue_of z) y calls) (sym stand.sizes)
        held) (subst (λ z. KeepsOthers (IsOwn (queue_of z)) x y) (sym stand.sizes) keeps);
  }

  pub call_queued : (a shortfall : ℕ) → IsCall (a, shortfall) → (answer : Bool) (x y : List ℕ) → IsPushed (queue_of shape) (a, shortfall) answer x y
      → ChangesWithRoom (Stands shape) (λ books. length books.calls == books.ring) (λ books. put_call books a shortfall) answer x y
  call_queued a shortfall call true x y pushed =
      let held : (books : ClearingBooks) → Stands shape x books
      → QueueHolds (queue_of shape) y (books.calls ++ (a, shortfall) ∷ []) = λ books stand. pushed.pushes books.calls (queue_held shape x books stand) in
      let room : (books : ClearingBooks) → Stands shape x books → length books.calls < books.ring = λ books stand.
      omega (arith, (held books stand).room, length-append books.calls ((a, shortfall) ∷ []), ap (λ z. z.ring) stand.sizes) in
      record {
        answer = λ books stand. is_below (length books.calls) books.ring (room books stand);
        left = λ books stand. stands_with x y books stand (books.calls ++ (a, shortfall) ∷ []) (held books stand)
            pushed.keeps (put_call-in_range books a shortfall stand.range call (room books stand));
      }
  call_queued a shortfall call false x y pushed =
      let is_full = pushed.full refl in
      record {
        answer = λ books stand.
            let same : is_full.0 ≡ books.calls = one_queue (queue_of shape) x is_full.0 books.calls is_full.1 (queue_held shape x books stand) in
            is_at (length books.calls) books.ring (sym (ap length same) ∙ is_full.2 ∙ sym (ap (λ z. z.ring) stand.sizes));
        left = λ books stand. subst (λ z. Stands shape z books) (sym pushed.pushes) stand;
      }

  -- no front was there
  pub front_lacking : (x y : List ℕ) → IsEmpty (queue_of shape) x → Pops (queue_of shape) None x y
      → TellsAndChanges (Stands shape) (λ books. slice_get books.calls 0) (λ books. record books { calls = drop 1 books.calls }) None x y
  front_lacking x y empty same =
      let none : (books : ClearingBooks) → Stands shape x books → [] ≡ books.calls =
      λ books stand. one_queue (queue_of shape) x [] books.calls empty (queue_held shape x books stand) in
      record {
        told = λ books stand. ap (λ calls. slice_get calls 0) (none books stand);
        left = λ books stand.
            let still : books.calls ≡ drop 1 books.calls = sym (none books stand) ∙ ap (drop 1) (none books stand) in
            subst (λ calls. Stands shape y (record books { calls = calls })) still (subst (λ z. Stands shape z books) (sym same) stand);
      }

  -- the front was taken
  pub front_taken : (item : ℕ × ℕ) (x y : List ℕ) → IsPopped (queue_of shape) item x y
      → TellsAndChanges (Stands shape) (λ books. slice_get books.calls 0) (λ books. record books { calls = drop 1 books.calls }) (Some item) x y
  front_taken item x y popped =
      let takes : (books : ClearingBooks) → Stands shape x books → TakesFront (queue_of shape) item y books.calls =
      λ books stand. popped.pops books.calls (queue_held shape x books stand) in
      record {
        told = λ books stand. sym (ap (λ calls. slice_get calls 0) (takes books stand).is_first);
        left = λ books stand.
            let k = takes books stand in
            stands_with x y books stand (drop 1 books.calls)
            (subst (QueueHolds (queue_of shape) y) (sym (ap (drop 1) k.is_first)) k.left) popped.keeps (taken-in_range books stand.range);
      }

  -- what was taken is a call
  pub front_is_call : (item : ℕ × ℕ) (x y : List ℕ) → IsGoodFor shape x → Pops (queue_of shape) (Some item) x y → IsCall item
  front_is_call item x y good pops =
      let k = pops good.0.calls (queue_held shape x good.0 good.1) in
      let some : 0 < length good.0.calls = omega (arith, ap length k.is_first) in
      subst (λ calls. IsCall (get_or calls 0 item)) k.is_first (good.1.range.calls 0 item some)
