use Rattle.txn_words.specs.Calls.{IsReady, InEachState}
use Rattle.txn_alloc.specs.FreeLists.{IsInOrder}
use Rattle.collections_tests.proofs.blocks.first_wrong.Given as goal

-- another block may be taken
abbrev pub invariant-loop-number : goal.invariant-loop-number
invariant-loop-number g l = record {
  ready : IsReady g.W.Words l.w;
  order : InEachState g.W.Words g.W.Shape.Shape l.w (IsInOrder l.arena);
}
