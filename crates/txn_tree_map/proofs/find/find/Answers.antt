use Rattle.txn_tree_map.proofs.Common.{◌≡◌, ◌+◌, nat_lt, refl, ◌∙◌, subst, arith, if◌then◌else◌, rules, IfOk-from_err, GoesOn, block_at, looks_none, looks_map}
use Rattle.txn_tree_map.proofs.Common.{looks_grow, looks_each, goes, goes_then, goes_as, HasTop, IsNamed, IsEnd, IsFoundAt, IsMissing, IsLink, IsPlace}
use Rattle.txn_tree_map.proofs.Common.{IsPlaceOrKey, looks_since}
use Rattle.txn_tree_map.proofs.Searches.Passed.{IsPassed}
use Rattle.txn_tree_map.proofs.Held.Places.{at_tree}
use Rattle.txn_tree_map.proofs.Searches.SearchSteps.{passed_tree, passed_top, passed_end, passed_all, passed_found, passed_down}
use Rattle.txn_tree_map.proofs.Searches.Links.{passed_place, passed_near}
use Rattle.txn_tree_map.proofs.find.find.Goals as goal

pub loop-init : goal.loop-init
loop-init g c =
    let m = c.args.map.now in
    record {
      shape = refl;
      origin = refl;
      stop = c.requires.ready.going;
      sound = c.requires.ready.sound;
      looks = looks_none _ _ _ (IsLink m) _ (record {
        at = λ s fit. let o = c.requires.order.at s fit in passed_tree c.args.key 0 (at_tree m _ o.entries o.used o.holds) (omega arith);
      });
    }

pub look-requires-clause-top : goal.look-requires-clause-top
look-requires-clause-top g c =
    let m = c.args.map.now in
    let i = c.loop.invariant in
    looks_each g.W.Words g.W.Shape.Shape _ _ (IsLink m) (HasTop m c.loop.place)
    (looks_map _ _ _ (IsLink m) _ _ _ (λ s h. passed_top c.args.key 0 h) i.looks) i.shape

pub returns-in-None : goal.returns-in-None
returns-in-None g c =
    let m = c.args.map.now in
    let i = c.loop.invariant in
    let end = rw c.in-None.is at c.in_ok-look.ensures.end in
    let on = c.in_ok-look.ensures.goes_on in
    record {
      found = tt;
      missing =
          looks_map _ _ _ (IsLink m) _ _ (IsMissing m c.args.key) (λ s h. passed_end c.args.key 0 h.0 h.1)
          (looks_grow _ _ _ (IsLink m) _ _ (IsPlace c.loop.place) _ (IsEnd c.loop.place)
          (λ s p q. passed_place p) i.looks
          (looks_since g.W.Words g.W.Shape.Shape i.shape end));
      block = tt;
      goes_on = goes_as (goes_then (goes i.shape i.origin i.looks.begins i.stop i.sound) on) (search rules);
    }

pub returns-then-node-key : goal.returns-then-node-key
returns-then-node-key g c =
    let m = c.args.map.now in
    let i = c.loop.invariant in
    let node = c.in-Some.node in
    let named = rw c.in-Some.is at c.in_ok-look.ensures.named in
    let on = c.in_ok-look.ensures.goes_on in
    record {
      found =
          looks_map _ _ _ (IsLink m) _ _ (IsFoundAt m c.args.key c.loop.place node.block)
          (λ s h. passed_found c.args.key 0 node.block node.key h.0 h.1 c.if-node-key.true)
          (looks_grow _ _ _ (IsLink m) _ _ (IsPlaceOrKey m c.loop.place node.block) _
          (IsNamed m c.loop.place node.block node.key) (λ s p q. passed_near
          p node.block node.key q) i.looks (looks_since g.W.Words g.W.Shape.Shape i.shape named));
      missing = tt;
      block = rw c.in-Some.is at c.in_ok-look.ensures.block;
      goes_on = goes_as (goes_then (goes i.shape i.origin i.looks.begins i.stop i.sound) on) (search rules);
    }

pub loop-preserved : goal.loop-preserved
loop-preserved g c =
    let m = c.args.map.now in
    let i = c.loop.invariant in
    let node = c.in-Some.node in
    let goes = c.in_ok-look.ensures.goes_on in
    let named = rw c.in-Some.is at c.in_ok-look.ensures.named in
    let below = rw c.in-Some.is at c.in_ok-look.ensures.block in
    let next : block_at m.arena node.block + (if nat_lt c.args.key node.key then 2 else 3) ≡ c.place_of.result
    + c.side.result = omega (arith, c.place_of.ensures, c.side.ensures) in
    record {
      shape = goes.shape ∙ i.shape;
      origin = goes.origin ∙ i.origin;
      stop = goes.stops;
      sound = goes.sound;
      looks = looks_map _ _ _ (IsLink m) _ _ _
          (λ s h. subst (λ a. IsPassed m c.args.key 0 a (c.loop.counter + 1) s) next
          (passed_down c.args.key 0 node.block node.key h.0 h.1 c.if-node-key.false (omega arith)))
          (looks_grow _ _ _ (IsLink m) _ _ (IsPlaceOrKey m c.loop.place node.block) _
          (IsNamed m c.loop.place node.block node.key) (λ s p q. passed_near
          p node.block node.key q) i.looks (looks_since g.W.Words g.W.Shape.Shape i.shape named));
    }

pub returns : goal.returns
returns g c =
    let m = c.args.map.now in
    let i = c.loop.invariant in
    record {
      found = tt;
      missing = looks_map _ _ _ (IsLink m) _ _ (IsMissing m c.args.key)
          (λ s h. passed_all c.args.key 0 (omega (arith, c.loop-test.false)) h) i.looks;
      block = tt;
      goes_on = goes_as (goes i.shape i.origin i.looks.begins i.stop i.sound) i.stop;
    }

pub returns-in_err-look : goal.returns-in_err-look
returns-in_err-look g c =
    let i = c.loop.invariant in
    let on = c.in_err-look.ensures.goes_on in
    let failed = c.from_residual.ensures.0 in
    let goes : GoesOn g.W.Words c.args.w.now c.look.new.w c.from_residual.result =
    goes_as (goes_then (goes i.shape i.origin i.looks.begins i.stop i.sound) on) (search rules) in
    search IfOk-from_err
