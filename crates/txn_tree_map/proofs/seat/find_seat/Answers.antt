use Rattle.txn_tree_map.proofs.Common.{◌≡◌, ◌+◌, ◌≤◌, nat_lt, refl, ◌∙◌, subst, arith, if◌then◌else◌, rules, IfOk-from_err, GoesOn, block_at, looks_none}
use Rattle.txn_tree_map.proofs.Common.{looks_map, looks_grow, looks_each, goes, goes_then, goes_as, priority_of, HasTop, IsNamed, IsEnd, IsSeat, IsLink}
use Rattle.txn_tree_map.proofs.Common.{IsPlace, IsPlaceOrKey, looks_since}
use Rattle.txn_tree_map.proofs.Searches.Passed.{IsPassed}
use Rattle.txn_tree_map.proofs.Searches.SearchSteps.{passed_top, passed_down}
use Rattle.txn_tree_map.proofs.Inserts.Seats.{passed_missing, missing_other, seat_end, seat_all, seat_here}
use Rattle.txn_tree_map.proofs.Searches.Links.{passed_place, passed_near}
use Rattle.txn_tree_map.proofs.seat.find_seat.Goals as goal

pub loop-init : goal.loop-init
loop-init g c =
    let m = c.args.map.now in
    record {
      shape = refl;
      origin = refl;
      stop = c.requires.ready.going;
      sound = c.requires.ready.sound;
      looks = looks_none _ _ _ (IsLink m) _
          (record { at = λ s fit. (passed_missing m c.args.key _ (c.requires.missing.at s fit), c.requires.missing.at s fit) });
    }

pub look-requires-clause-top : goal.look-requires-clause-top
look-requires-clause-top g c =
    let m = c.args.map.now in
    let i = c.loop.invariant in
    looks_each g.W.Words g.W.Shape.Shape _ _ (IsLink m) (HasTop m c.loop.place)
    (looks_map _ _ _ (IsLink m) _ _ _ (λ s h. passed_top c.args.key (priority_of c.args.key + 1) h.0) i.looks) i.shape

pub returns-in-None : goal.returns-in-None
returns-in-None g c =
    let m = c.args.map.now in
    let i = c.loop.invariant in
    let end = rw c.in-None.is at c.in_ok-look.ensures.end in
    let on = c.in_ok-look.ensures.goes_on in
    record {
      seat =
          looks_map _ _ _ (IsLink m) _ _ (IsSeat m c.args.key c.loop.place 0) (λ s h. seat_end m c.args.key s h.0.0 h.1)
          (looks_grow _ _ _ (IsLink m) _ _ (IsPlace c.loop.place) _ (IsEnd c.loop.place)
          (λ s p q. passed_place p.0)
          i.looks (looks_since g.W.Words g.W.Shape.Shape i.shape end));
      goes_on = goes_as (goes_then (goes i.shape i.origin i.looks.begins i.stop i.sound) on) (search rules);
    }

pub returns-then-priority-rank : goal.returns-then-priority-rank
returns-then-priority-rank g c =
    let m = c.args.map.now in
    let i = c.loop.invariant in
    let node = c.in-Some.node in
    let key = c.args.key in
    let named = rw c.in-Some.is at c.in_ok-look.ensures.named in
    let le : priority_of node.key ≤ priority_of key = omega (arith, c.if-priority-rank.true, c.priority.ensures.value, c.priority-rank.ensures.value) in
    let on = c.in_ok-look.ensures.goes_on in
    record {
      seat =
          looks_map _ _ _ (IsLink m) _ _ (IsSeat m key c.loop.place (c.from-name.result + 1))
          (λ s h. subst (λ n. IsSeat m key c.loop.place n s) (omega (arith, c.from-name.ensures))
          (seat_here m key s node.block node.key c.priority-rank.ensures.small c.priority.ensures.small h.0.1 h.0.0 h.1 le))
          (looks_grow _ _ _ (IsLink m) _ _ (IsPlaceOrKey m c.loop.place node.block) _
          (IsNamed m c.loop.place node.block node.key)
          (λ s p q. passed_near p.0
          node.block node.key q) i.looks (looks_since g.W.Words g.W.Shape.Shape i.shape named));
      goes_on = goes_as (goes_then (goes i.shape i.origin i.looks.begins i.stop i.sound) on) (search rules);
    }

pub loop-preserved : goal.loop-preserved
loop-preserved g c =
    let m = c.args.map.now in
    let i = c.loop.invariant in
    let node = c.in-Some.node in
    let key = c.args.key in
    let goes = c.in_ok-look.ensures.goes_on in
    let named = rw c.in-Some.is at c.in_ok-look.ensures.named in
    let below = rw c.in-Some.is at c.in_ok-look.ensures.block in
    let higher : priority_of key + 1 ≤ priority_of node.key =
    omega (arith, c.if-priority-rank.false, c.priority.ensures.value, c.priority-rank.ensures.value) in
    let next : block_at m.arena node.block + (if nat_lt key node.key then 2 else 3) ≡ c.place_of.result
    + c.side.result = omega (arith, c.place_of.ensures, c.side.ensures) in
    record {
      shape = goes.shape ∙ i.shape;
      origin = goes.origin ∙ i.origin;
      stop = goes.stops;
      sound = goes.sound;
      looks = looks_map _ _ _ (IsLink m) _ _ _
          (λ s h. (
            subst (λ a. IsPassed m key (priority_of key + 1) a (c.loop.counter + 1) s) next
                (passed_down key (priority_of key + 1) node.block node.key h.0.0 h.1
                (missing_other m key s node.block node.key h.0.1 h.0.0 h.1) higher),
            h.0.1,
          ))
          (looks_grow _ _ _ (IsLink m) _ _ (IsPlaceOrKey m c.loop.place node.block) _
          (IsNamed m c.loop.place node.block node.key)
          (λ s p q. passed_near p.0
          node.block node.key q) i.looks (looks_since g.W.Words g.W.Shape.Shape i.shape named));
    }

pub returns : goal.returns
returns g c =
    let m = c.args.map.now in
    let i = c.loop.invariant in
    record {
      seat = looks_map _ _ _ (IsLink m) _ _ (IsSeat m c.args.key c.loop.place 0)
          (λ s h. seat_all m c.args.key s (omega (arith, c.loop-test.false)) h.0) i.looks;
      goes_on = goes_as (goes i.shape i.origin i.looks.begins i.stop i.sound) i.stop;
    }

pub returns-in_err-look : goal.returns-in_err-look
returns-in_err-look g c =
    let i = c.loop.invariant in
    let on = c.in_err-look.ensures.goes_on in
    let failed = c.from_residual.ensures.0 in
    let goes : GoesOn g.W.Words c.args.w.now c.look.new.w c.from_residual.result =
    goes_as (goes_then (goes i.shape i.origin i.looks.begins i.stop i.sound) on) (search rules) in
    search IfOk-from_err
