use Rattle.txn_tree_map.proofs.Common.{rules, goes_as, looks_only, each_looked, HasMap, tree_part, IsLink, each_now, each_since}
use Rattle.txn_tree_map.proofs.InOrder.FirstEntries.{links_seen, key_found}
use Rattle.txn_tree_map.proofs.map.TreeMap.first_key_from.Goals as goal

pub returns-in_err-node-clause-goes_on : goal.returns-in_err-node-clause-goes_on
returns-in_err-node-clause-goes_on g c = goes_as c.in_err-node.ensures.goes_on (search rules)

pub returns : goal.returns
returns g c =
    let m = c.args.self.now in
    let goes = c.in_ok-node.ensures.goes_on in
    let nearest = c.in_ok-node.ensures.nearest in
    let plain = each_now c.requires.order in
    record {
      found = rw c.key_of.ensures (record { at = (key_found m c.args.key nearest).at });
      order = each_since c.args.w.now goes.shape (each_looked _ _ _ _ nearest (HasMap (tree_part m)) plain);
      frame = looks_only g.W.Words g.W.Shape.Shape _ _ (IsLink m) _ nearest;
      reads = record { at = links_seen m c.args.key nearest plain };
      goes_on = goes_as goes goes.stops;
    }
