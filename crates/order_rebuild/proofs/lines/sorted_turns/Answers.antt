use Rattle.order_rebuild.proofs.Common.{rules, length, map, Turn}
use Rattle.std.proofs.lemmas.List.Sorted.{IsNonDecreasingBy-from_sort_by_key}
use Rattle.order_rebuild.proofs.Makes.{turns_moved}
use Rattle.order_rebuild.proofs.lines.sorted_turns.Goals as goal

pub returns-clause-turns : goal.returns-clause-turns
returns-clause-turns g c = turns_moved (map g.P.Placed.spot c.args.done.now) (length c.args.done.now)
    c.in_ok-turns.turns.items c.sort_by_key.new.self.items c.in_ok-sort_by_key.ensures.permutation c.in_ok-turns.ensures

pub returns-clause-sorted : goal.returns-clause-sorted
returns-clause-sorted g c = IsNonDecreasingBy-from_sort_by_key (λ (t : Turn). t.code) _ c.in_ok-sort_by_key.ensures.sorted (λ a r q k. search rules)
