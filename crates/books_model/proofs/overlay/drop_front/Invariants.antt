use Rattle.books_model.proofs.Common.{◌≡◌, drop}
use Rattle.books_model.proofs.overlay.drop_front.Given as goal

abbrev pub invariant-loop-index : goal.invariant-loop-index
invariant-loop-index l = l.queue.items ≡ drop l._index l.fn.queue.items
