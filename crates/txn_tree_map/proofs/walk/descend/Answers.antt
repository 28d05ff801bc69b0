use Rattle.txn_tree_map.proofs.Common.{◌≡◌, ◌+◌, nat_le, refl, ◌∙◌, arith, if◌then◌else◌, rules, IfOk-from_err, GoesOn, goes, goes_then, goes_as, looks_none}
use Rattle.txn_tree_map.proofs.Common.{looks_map, looks_grow, looks_each, block_at, HasTop, IsNamed, IsEnd, IsLink, IsPlace, IsPlaceOrKey, IsWalk, each_now}
use Rattle.txn_tree_map.proofs.Common.{looks_since}
use Rattle.txn_tree_map.proofs.InOrder.WalkSteps.{walk_top, walk_place, walk_near, walk_end, walk_all, walk_down, keeps_whole}
use Rattle.txn_tree_map.proofs.walk.descend.Goals as goal

pub loop-init : goal.loop-init
loop-init g c =
    let m = c.args.map.now in
    record {
      shape = refl;
      origin = refl;
      stop = c.requires.ready.going;
      sound = c.requires.ready.sound;
      looks = looks_none _ _ _ (IsLink m) _ (each_now c.requires.walk);
      whole = λ e. refl;
    }

pub look-requires-clause-top : goal.look-requires-clause-top
look-requires-clause-top g c =
    let m = c.args.map.now in
    let i = c.loop.invariant in
    looks_each g.W.Words g.W.Shape.Shape _ _ (IsLink m) (HasTop m c.loop.walk.place)
    (looks_map _ _ _ (IsLink m) _ _ _ (λ s h. walk_top c.loop.walk c.args.least h) i.looks) i.shape

pub returns-in-None : goal.returns-in-None
returns-in-None g c =
    let m = c.args.map.now in
    let i = c.loop.invariant in
    let walk = c.loop.walk in
    let least = c.args.least in
    let end = rw c.in-None.is at c.in_ok-look.ensures.end in
    let on = c.in_ok-look.ensures.goes_on in
    record {
      end =
          looks_map _ _ _ (IsLink m) _ _ (IsWalk m walk least m.arena.blocks)
          (λ s h. walk_end walk least h.0 h.1)
          (looks_grow _ _ _ (IsLink m) _ _ (IsPlace walk.place) _ (IsEnd walk.place)
          (λ s p q. walk_place walk least p) i.looks
          (looks_since g.W.Words g.W.Shape.Shape i.shape end));
      whole = i.whole;
      goes_on = goes_as (goes_then (goes i.shape i.origin i.looks.begins i.stop i.sound) on) (search rules);
    }

pub loop-preserved : goal.loop-preserved
loop-preserved g c =
    let m = c.args.map.now in
    let i = c.loop.invariant in
    let walk = c.loop.walk in
    let node = c.in-Some.node in
    let least = c.args.least in
    let next = c.keep.new.self in
    let mid = record walk { place = c.place_of.result + c.side.result } in
    let goes = c.in_ok-look.ensures.goes_on in
    let named = rw c.in-Some.is at c.in_ok-look.ensures.named in
    let place : next.place ≡ block_at m.arena node.block + (if nat_le least node.key then 2 else 3) =
    c.keep.ensures.place ∙ omega (arith, c.place_of.ensures, c.side.ensures) in
    record {
      shape = goes.shape ∙ i.shape;
      origin = goes.origin ∙ i.origin;
      stop = goes.stops;
      sound = goes.sound;
      looks = looks_map _ _ _ (IsLink m) _ _ _
          (λ s h. walk_down walk least h.0 mid next node.block node.key h.1 refl refl place c.keep.ensures.low c.keep.ensures.kept)
          (looks_grow _ _ _ (IsLink m) _ _ (IsPlaceOrKey m walk.place node.block) _
          (IsNamed m walk.place node.block node.key) (λ s p q. walk_near walk least p node.block node.key q) i.looks
          (looks_since g.W.Words g.W.Shape.Shape i.shape named));
      whole = λ e. keeps_whole least node mid next _ c.keep.ensures.low c.keep.ensures.kept i.whole e;
    }

pub returns : goal.returns
returns g c =
    let m = c.args.map.now in
    let i = c.loop.invariant in
    record {
      end = looks_map _ _ _ (IsLink m) _ _ (IsWalk m c.loop.walk c.args.least m.arena.blocks)
          (λ s h. walk_all c.loop.walk c.args.least h (omega (arith, c.loop-test.false))) i.looks;
      whole = i.whole;
      goes_on = goes_as (goes i.shape i.origin i.looks.begins i.stop i.sound) i.stop;
    }

pub returns-in_err-look : goal.returns-in_err-look
returns-in_err-look g c =
    let i = c.loop.invariant in
    let on = c.in_err-look.ensures.goes_on in
    let failed = c.from_residual.ensures.0 in
    let goes : GoesOn g.W.Words c.args.w.now c.look.new.w c.from_residual.result =
    goes_as (goes_then (goes i.shape i.origin i.looks.begins i.stop i.sound) on) (search rules) in
    search IfOk-from_err
