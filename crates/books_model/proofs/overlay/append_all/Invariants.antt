use Rattle.books_model.proofs.Common.{◌≡◌, ◌≤◌, ◌+◌, ◌++◌, length}
use Rattle.std.proofs.Common.{take}
use Rattle.std.specs.VecDeque.{deque_capacity, deque_len}
use Rattle.books_model.proofs.overlay.append_all.Given as goal

-- the items so far stand behind those that were there, and there is room for the others
abbrev pub invariant-loop-item : goal.invariant-loop-item
invariant-loop-item l = record {
  items : l.queue.items ≡ l.fn.queue.items ++ take l.item-index l.items;
  room : deque_len l.queue + length l.items ≤ deque_capacity l.queue + l.item-index;
}
