use Rattle.txn_tree_map.proofs.Common.{◌≡◌, ◌/◌, drop, length, ap, arith, rules, length-drop, nat_tests, KEPT}
use Rattle.txn_tree_map.proofs.walk.Walk.make_room.Goals as goal

pub returns-then-is_full-clause-room : goal.returns-then-is_full-clause-room
returns-then-is_full-clause-room c =
    let kept : c.drop-drain.new.self.0.items ≡ drop (KEPT / 2) c.args.self.now.kept.items = search rules in
    let long : length c.args.self.now.kept.items ≡ KEPT = grind (arith, nat_tests, c.is_full.ensures.value, c.if-is_full.true) in
    omega (arith, ap length kept, length-drop (KEPT / 2) c.args.self.now.kept.items)
