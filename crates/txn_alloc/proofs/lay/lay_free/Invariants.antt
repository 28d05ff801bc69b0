use Rattle.txn_alloc.proofs.Common.{drop}
use Rattle.txn_alloc.proofs.FreeLists.Laid.{IsLaidFrom}
use Rattle.txn_alloc.proofs.lay.lay_free.Given as goal

-- the blocks from there on are in their lists
abbrev pub invariant-loop-index : goal.invariant-loop-index
invariant-loop-index l = IsLaidFrom l.arena l.order l.fn.words (drop l.index l.order) l.words
