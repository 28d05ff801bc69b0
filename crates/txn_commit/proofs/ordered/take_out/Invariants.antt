use Rattle.txn_commit.proofs.Common.{◌≡◌, ◌≤◌, ◌++◌, length, map, Some, into_iter_items, into_iter_len}
use Rattle.txn_commit.proofs.Orders.Arranged.{IsArranging}
use Rattle.txn_commit.proofs.ordered.take_out.Given as goal

-- the items so far stand in their places
abbrev pub invariant-loop-item : goal.invariant-loop-item
invariant-loop-item g l = record {
  all_come : l.yielded ++ into_iter_items l.item-iterator ≡ into_iter_items l.initial.item-iterator;
  few : into_iter_len l.item-iterator ≡ length (into_iter_items l.item-iterator);
  there : l.left.items ≡ map Some l.yielded;
}

-- what stood at the places so far is arranged, and all else still stands
abbrev pub invariant-loop-place : goal.invariant-loop-place
invariant-loop-place g l = record {
  end : l.place-index-end ≡ length l.places;
  from : l.place-index ≤ l.place-index-end;
  arranging : IsArranging l.fn.items.items l.places l.place-index l.left.items l.arranged.items;
}
