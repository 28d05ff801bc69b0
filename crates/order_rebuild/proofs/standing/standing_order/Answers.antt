use Rattle.order_rebuild.proofs.Common.{map, arith, length-map}
use Rattle.order_rebuild.proofs.Stands.{standing_is_order}
use Rattle.order_rebuild.proofs.standing.standing_order.Goals as goal

pub returns : goal.returns
returns g c =
    let list = map g.P.Placed.spot c.args.done.now in
    let size = length-map c.args.done.now g.P.Placed.spot in
    standing_is_order list c.in-Ok.out.items (omega (arith, size, c.in-Ok.ensures.count))
    (λ i l. c.in-Ok.ensures.each i (omega (arith, size)))
    (c.are_in_turn.ensures c.if-not-are_in_turn.false) c.in_ok-go_through_all.ensures
