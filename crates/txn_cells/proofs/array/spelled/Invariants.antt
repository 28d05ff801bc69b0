use Rattle.txn_cells.proofs.Common.{◌≡◌, length, take}
use Rattle.txn_cells.proofs.array.spelled.Given as goal

abbrev pub invariant-loop-k : goal.invariant-loop-k
invariant-loop-k g l = record {
  count : length l.words ≡ 8;
  front : take l.k l.words ≡ take l.k (g.T.Coded.words l.value);
}
