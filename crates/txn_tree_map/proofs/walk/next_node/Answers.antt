use Rattle.txn_tree_map.proofs.Common.{looks_map, looks_then, each_looked, IsLink, IsWalk, HasCome, each_since, looks_since}
use Rattle.std.proofs.lemmas.Result.{IfOk-weaker}
use Rattle.txn_tree_map.proofs.InOrder.WalkSteps.{walk_root, walk_tree}
use Rattle.txn_tree_map.proofs.walk.next_node.Goals as goal

pub next_kept-requires-2-clause-walk : goal.next_kept-requires-2-clause-walk
next_kept-requires-2-clause-walk g c =
    let m = c.args.map.now in
    let again = c.begin_again.new.self in
    let least = c.args.least in
    each_since c.args.w.now c.in_ok-node.ensures.goes_on.shape
    (each_looked _ _ _ _ c.in_ok-node.ensures.come (IsWalk m again least 0)
    (record {
      at = λ s fit. let h = c.requires.walk.at s fit in
          walk_root again least (walk_tree c.args.walk.now least h) c.begin_again.ensures.place c.begin_again.ensures.kept;
    }))

pub returns-clause-come : goal.returns-clause-come
returns-clause-come g c =
    let m = c.args.map.now in
    let least = c.args.least in
    IfOk-weaker c.next_kept-2.result _ _ (λ answer second.
    looks_map _ _ _ (IsLink m) _ _ (HasCome m c.next_kept-2.new.walk least answer) (λ s h. h.1)
    (looks_then _ _ _ (IsLink m) _ _ _ (HasCome m c.next_kept-2.new.walk least answer) c.in_ok-node.ensures.come
    (looks_since g.W.Words g.W.Shape.Shape c.in_ok-node.ensures.goes_on.shape second)))
    c.next_kept-2.ensures.come
