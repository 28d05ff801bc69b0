use Rattle.txn_tree_map.proofs.Common.{◌≡◌, ◌+◌, nat_le, refl, sym, ◌∙◌, subst, arith, if◌then◌else◌, rules, IfOk-from_err, GoesOn, block_at, looks_none}
use Rattle.txn_tree_map.proofs.Common.{looks_map, looks_grow, looks_each, goes, goes_then, goes_as, HasTop, IsNamed, IsEnd, IsLink, IsPlace, IsPlaceOrKey}
use Rattle.txn_tree_map.proofs.Common.{IsFirstFrom, looks_since}
use Rattle.txn_tree_map.proofs.Summed.{IsNear}
use Rattle.txn_tree_map.proofs.Held.Places.{at_tree}
use Rattle.txn_tree_map.proofs.Searches.FirstSteps.{near_none, near_top, near_end, near_all, near_down}
use Rattle.txn_tree_map.proofs.Searches.Links.{near_place, near_near}
use Rattle.txn_tree_map.proofs.first.first_at.Goals as goal

pub loop-init : goal.loop-init
loop-init g c =
    let m = c.args.map.now in
    record {
      shape = refl;
      origin = refl;
      stop = c.requires.ready.going;
      sound = c.requires.ready.sound;
      looks = looks_none _ _ _ (IsLink m) _ (record {
        at = λ s fit. let o = c.requires.order.at s fit in
            near_none c.args.least (at_tree m _ o.entries o.used o.holds);
      });
    }

pub look-requires-clause-top : goal.look-requires-clause-top
look-requires-clause-top g c =
    let m = c.args.map.now in
    let i = c.loop.invariant in
    looks_each g.W.Words g.W.Shape.Shape _ _ (IsLink m) (HasTop m c.loop.place)
    (looks_map _ _ _ (IsLink m) _ _ _ (λ s h. near_top c.args.least h) i.looks) i.shape

pub returns-in-None : goal.returns-in-None
returns-in-None g c =
    let m = c.args.map.now in
    let i = c.loop.invariant in
    let end = rw c.in-None.is at c.in_ok-look.ensures.end in
    let on = c.in_ok-look.ensures.goes_on in
    record {
      nearest =
          looks_map _ _ _ (IsLink m) _ _ (IsFirstFrom m c.args.least c.loop.best)
          (λ s h. near_end c.args.least h.0 h.1)
          (looks_grow _ _ _ (IsLink m) _ _ (IsPlace c.loop.place) _ (IsEnd c.loop.place)
          (λ s p q. near_place p) i.looks
          (looks_since g.W.Words g.W.Shape.Shape i.shape end));
      goes_on = goes_as (goes_then (goes i.shape i.origin i.looks.begins i.stop i.sound) on) (search rules);
    }

pub loop-preserved : goal.loop-preserved
loop-preserved g c =
    let m = c.args.map.now in
    let i = c.loop.invariant in
    let node = c.in-Some.node in
    let least = c.args.least in
    let goes = c.in_ok-look.ensures.goes_on in
    let named = rw c.in-Some.is at c.in_ok-look.ensures.named in
    let below = rw c.in-Some.is at c.in_ok-look.ensures.block in
    let next : block_at m.arena node.block + (if nat_le least node.key then 2 else 3) ≡ c.place_of.result
    + c.side.result = omega (arith, c.place_of.ensures, c.side.ensures) in
    record {
      shape = goes.shape ∙ i.shape;
      origin = goes.origin ∙ i.origin;
      stop = goes.stops;
      sound = goes.sound;
      looks = looks_map _ _ _ (IsLink m) _ _ _
          (λ s h. subst (λ a. IsNear m least c.better-best.result a (c.loop.counter + 1) s) next
          (subst (λ o. IsNear m least o (block_at m.arena node.block + (if nat_le least node.key then 2 else 3))
          (c.loop.counter + 1) s) (sym c.better-best.ensures)
          (near_down least node.block node.key h.0 h.1)))
          (looks_grow _ _ _ (IsLink m) _ _ (IsPlaceOrKey m c.loop.place node.block) _
          (IsNamed m c.loop.place node.block node.key) (λ s p q. near_near
          p node.block node.key q) i.looks (looks_since g.W.Words g.W.Shape.Shape i.shape named));
    }

pub returns : goal.returns
returns g c =
    let m = c.args.map.now in
    let i = c.loop.invariant in
    record {
      nearest = looks_map _ _ _ (IsLink m) _ _ (IsFirstFrom m c.args.least c.loop.best)
          (λ s h. near_all c.args.least (omega (arith, c.loop-test.false)) h) c.loop.invariant.looks;
      goes_on = goes_as (goes i.shape i.origin i.looks.begins i.stop i.sound) i.stop;
    }

pub returns-in_err-look : goal.returns-in_err-look
returns-in_err-look g c =
    let i = c.loop.invariant in
    let on = c.in_err-look.ensures.goes_on in
    let failed = c.from_residual.ensures.0 in
    let goes : GoesOn g.W.Words c.args.w.now c.look.new.w c.from_residual.result =
    goes_as (goes_then (goes i.shape i.origin i.looks.begins i.stop i.sound) on) (search rules) in
    search IfOk-from_err
