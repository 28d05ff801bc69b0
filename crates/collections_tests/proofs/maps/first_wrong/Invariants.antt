use Rattle.txn_words.specs.Calls.{IsReady, InEachState}
use Rattle.txn_alloc.specs.EntryMaps.{HasMapApart}
use Rattle.txn_hash_map.specs.Chains.{chain_part}
use Rattle.collections_tests.proofs.maps.first_wrong.Given as goal

-- another call may be made
abbrev pub invariant-loop-number : goal.invariant-loop-number
invariant-loop-number g l = record {
  ready : IsReady g.W.Words l.w;
  order : InEachState g.W.Words g.W.Shape.Shape l.w (HasMapApart (chain_part l.chains));
}
