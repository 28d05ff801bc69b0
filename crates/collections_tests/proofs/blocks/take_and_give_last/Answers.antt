use Rattle.txn_words.proofs.CallLaws.{state_after}
use Rattle.txn_alloc.specs.FreeLists.{Lacks, Takes, IsInOrder}
use Rattle.txn_alloc.proofs.FreeLists.Traces.{lacks_taken}
use Rattle.collections_tests.proofs.blocks.take_and_give_last.Goals as goal

pub give-requires-clause-lacks : goal.give-requires-clause-lacks
give-requires-clause-lacks g c =
    let one = rw c.in-Some.is at c.in_ok-block.ensures.lacks in
    let two = c.in_ok-other.ensures in
    let arena = c.args.arena.now in
    let block = c.in-Some.block in
    state_after _ _ _ _ (λ z. IsInOrder arena z × Lacks arena block z) (Lacks arena block)
    (Takes arena c.in_ok-other.other) two.goes_on.shape two.goes_on.begins
    (record { at = λ s fit. (c.in_ok-block.ensures.order.at s fit, one.at s fit) }) two.taken (λ s t h takes.
    lacks_taken arena c.in_ok-other.other block s t h.0 takes h.1)
