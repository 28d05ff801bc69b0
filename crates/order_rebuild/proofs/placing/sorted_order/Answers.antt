use Rattle.order_rebuild.proofs.Common.{rules, length, List, Bool, slice_get, ap, ◌∙◌, arith}
use Rattle.order_rebuild.proofs.Begin.{all_marked}
use Rattle.order_rebuild.proofs.Rows.{map_count}
use Rattle.order_rebuild.proofs.placing.sorted_order.Goals as goal

pub place_all-requires-clause-left : goal.place_all-requires-clause-left
place_all-requires-clause-left g c = λ q lt.
    let is = c.deref_mut.ensures.value ∙ c.in_ok-left.ensures.items_if_clones_equal (λ y h. search rules) in
    ap (λ (xs : List Bool). slice_get xs q) is
    ∙ all_marked (length c.args.done.now) q (omega (arith, c.in_ok-lines.ensures.count, map_count g.P.Placed.spot c.args.done.now))

pub place_all-requires-clause-wait : goal.place_all-requires-clause-wait
place_all-requires-clause-wait g c = c.deref_mut-3.ensures.value ∙ (c.in_ok-wait.ensures.items ∙ c.as_slice.ensures.value)
