use Rattle.txn_alloc.proofs.Common.{drop, all_blocks}
use Rattle.txn_alloc.proofs.FreeLists.Laid.{IsLaidFrom}
use Rattle.txn_alloc.proofs.lay.lay_all_free.Given as goal

-- the blocks from there on are in their lists
abbrev pub invariant-loop-block : goal.invariant-loop-block
invariant-loop-block l = IsLaidFrom l.arena (all_blocks l.arena) l.fn.words (drop l.block (all_blocks l.arena)) l.words
