use Rattle.txn_tree_map.proofs.Held.Places.{at_tree}
use Rattle.txn_tree_map.proofs.InOrder.WalkSteps.{walk_root}
use Rattle.txn_tree_map.proofs.map.TreeMap.sum_range.Goals as goal

pub sum_along-requires-clause-walk : goal.sum_along-requires-clause-walk
sum_along-requires-clause-walk g c = record {
  at = λ s fit. let o = c.requires.order.at s fit in
      walk_root c.new-walk.result c.args.low (at_tree c.args.self.now _ o.entries o.used o.holds)
      c.new-walk.ensures.place c.new-walk.ensures.kept;
}
