use Rattle.txn_tree_map.proofs.Common.{◌≡◌, ◌+◌, [], ◌∷◌, ◌++◌, Some, refl, arith, rules, looks_map, block_at, IsLink, IsFirstFrom, some_since}
use Rattle.txn_tree_map.proofs.InOrder.SumCalls.{node_below}
use Rattle.txn_tree_map.proofs.InOrder.WalkSteps.{walk_none, walk_first, walk_behind}
use Rattle.txn_tree_map.proofs.walk.next_kept.Goals as goal

pub returns-in_default-clause-come : goal.returns-in_default-clause-come
returns-in_default-clause-come g c =
    let m = c.args.map.now in
    let none : c.descend.new.walk.kept.items ≡ [] = search rules in
    looks_map _ _ _ (IsLink m) _ _ _ (λ s h. walk_none c.descend.new.walk c.args.least h none) c.in_ok-descend.ensures.end

pub prove-unreachable-requires : goal.prove-unreachable-requires
prove-unreachable-requires g c =
    let m = c.args.map.now in
    let node = c.in-Some.node in
    let goes = c.in_ok-descend.ensures.goes_on in
    let some = some_since g.W.Words g.W.Shape.Shape goes.shape (g.met.W.Words.fits c.descend.new.w goes.sound) in
    let kept : c.descend.new.walk.kept.items ≡ c.pop.new.self.items ++ node ∷ [] = c.in-Some.ensures.items in
    let nearest = looks_map _ _ _ (IsLink m) _ _ (IsFirstFrom m c.args.least (Some node))
    (λ s h. walk_first c.descend.new.walk c.args.least h c.pop.new.self.items node kept) c.in_ok-descend.ensures.end in
    omega (arith, node_below nearest some, c.if-prove.true)

pub returns-clause-come : goal.returns-clause-come
returns-clause-come g c =
    let m = c.args.map.now in
    let node = c.in-Some.node in
    let walk = c.descend.new.walk in
    let kept : walk.kept.items ≡ c.pop.new.self.items ++ node ∷ [] = c.in-Some.ensures.items in
    let place : c.place_of.result + 3 ≡ block_at m.arena node.block + 3 = omega (arith, c.place_of.ensures) in
    looks_map _ _ _ (IsLink m) _ _ _ (λ s h. (
      walk_first walk c.args.least h c.pop.new.self.items node kept,
      walk_behind walk c.args.least h c.pop.new.self.items node kept _ place refl refl,
    )) c.in_ok-descend.ensures.end
