use Rattle.collections_tests.proofs.tree.are_answered.Goals as goal

pub take_and_give_last-requires-clause-order : goal.take_and_give_last-requires-clause-order
take_and_give_last-requires-clause-order g c = record { at = λ s fit. let o = c.in_ok-wrong.ensures.order.at s fit in (o.free, o.holds.free_lists) }
