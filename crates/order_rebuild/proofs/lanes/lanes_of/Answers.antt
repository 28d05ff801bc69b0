use Rattle.order_rebuild.proofs.Common.{◌≡◌, ℕ, ◌<◌, List, length, map, slice_get, Some, sym, subst, IsPermutation, length-map, IsPermutation-sym, Lane}
use Rattle.order_rebuild.proofs.Callers.{lanes_sorted}
use Rattle.order_rebuild.proofs.Makes.{moved_in}
use Rattle.order_rebuild.proofs.lanes.lanes_of.Goals as goal

pub returns : goal.returns
returns g c =
    let list = map g.P.Placed.spot c.args.done.now in
    let cut : List Lane = c.in_ok-lanes.lanes.items in let lanes : List Lane = c.sort_by_key.new.self.items in
    let moved : IsPermutation cut lanes = c.sort_by_key.ensures.permutation in
    lanes_sorted list (length c.args.done.now) cut lanes (sym (length-map c.args.done.now g.P.Placed.spot)) c.in_ok-lanes.ensures
    (λ lane m. moved_in cut lanes moved lane m) (λ lane m. moved_in lanes cut (IsPermutation-sym cut lanes moved) lane m)
    (subst (λ (ls : List Lane). (i j : ℕ) (a b : Lane) → slice_get ls i ≡ Some a → slice_get ls j ≡ Some b → i < j → a.caller < b.caller)
    c.deref.ensures.value (c.are_rising.ensures c.if-not-are_rising.false))
