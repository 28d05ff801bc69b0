use Rattle.txn_commit.proofs.Common.{◌≡◌, ◌+◌, ◌<◌, length, Some, refl, sym, ◌∙◌, subst, arith, get_or, get_or_from_slice_get}
use Rattle.std.proofs.Common.{set}
use Rattle.txn_commit.proofs.Orders.Arranged.{arranged_all, at_hand, one_arranged, IsArranging}
use Rattle.txn_commit.proofs.ordered.take_out.Goals as goal

-- the next place has its item still
pub unreachable-requires : goal.unreachable-requires
unreachable-requires g c =
    let at = c.loop-place in
    let given = c.args.items.items in
    let places = c.args.places.now in
    let hand = at_hand given places at.place-index at.left.items at.arranged.items c.requires.within c.requires.once at.invariant.arranging
    (omega (arith, c.loop-place-test.true)) in
    let here = get_or_from_slice_get at.left.items (get_or places at.place-index 0) (Some hand.0) c.index_mut.result.now hand.2 in
    c.in_default.not-Some hand.0 (c.take.ensures.value ∙ (c.index_mut.ensures.value ∙ here))

pub loop-place-preserved : goal.loop-place-preserved
loop-place-preserved g c =
    let at = c.loop-place in
    let given = c.args.items.items in
    let places = c.args.places.now in
    let left = at.left.items in
    let lt : at.place-index < length places = omega (arith, c.loop-place-test.true) in
    record {
      end = refl;
      from = omega (arith, lt);
      arranging = subst (λ o. IsArranging given places (at.place-index + 1) (set left (get_or places at.place-index 0) o) c.push-in-loop-place.new.self.items)
          (sym c.take.ensures.after)
          (one_arranged given places at.place-index left at.arranged.items c.requires.within c.requires.once at.invariant.arranging lt
          c.in-Some-take.item c.push-in-loop-place.new.self.items c.index_mut.result.now
          (sym c.index_mut.ensures.value ∙ (sym c.take.ensures.value ∙ c.in-Some-take.is)) c.in_ok-push-2.ensures.items);
    }

pub returns : goal.returns
returns g c =
    let at = c.loop-place in
    let whole : at.place-index ≡ length c.args.places.now = omega (arith, at.invariant.from, c.loop-place-test.false) in
    arranged_all c.args.items.items c.args.places.now at.left.items at.arranged.items
    (subst (λ k. IsArranging c.args.items.items c.args.places.now k at.left.items at.arranged.items) whole at.invariant.arranging)
