use Rattle.txn_tree_map.proofs.Common.{refl}
use Rattle.txn_tree_map.proofs.InOrder.WalkSteps.{keeps_one}
use Rattle.txn_tree_map.proofs.walk.Walk.keep.Goals as goal

pub returns-clause-kept : goal.returns-clause-kept
returns-clause-kept c = λ le.
    keeps_one c.args.node c.args.self.now c.make_room.new.self _ c.make_room.ensures.kept c.make_room.ensures.whole c.push.ensures.items refl
