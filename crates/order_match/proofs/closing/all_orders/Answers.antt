use Rattle.order_match.proofs.Common.{◌≡◌, subst, ◌∙◌, arith, IsBookOf, look_then, looked_stands}
use Rattle.order_match.proofs.Lookups.{IsListed, lists_all, next_listed, none_listed}
use Rattle.txn_stores.proofs.Turning.{unlooked, looked_less, tells}
use Rattle.order_match.proofs.closing.all_orders.Goals as goal

pub loop-before-init : goal.loop-before-init
loop-before-init g c =
    let goes = c.in_ok-last.ensures.goes_on in
    let instruments = c.args.shape.now.instruments in
    record {
      origin = goes.origin;
      stop = goes.stops;
      sound = goes.sound;
      looks = looked_less (look_then goes.shape goes.begins (unlooked c.args.w.now (IsBookOf instruments) (λ x book stand. stand.book_is))
          c.in_ok-last.ensures.told)
          (λ book k. none_listed instruments c.in_ok-last.last book c.new-all.result.items c.new-all.ensures.items k.0 k.1);
    }

pub resting_order-requires-clause-stands : goal.resting_order-requires-clause-stands
resting_order-requires-clause-stands g c = looked_stands c.loop-before.invariant.looks c.requires.stands

pub returns-clause-told : goal.returns-clause-told
returns-clause-told g c =
    let all : c.loop-before.before ≡ c.in_ok-last.last = omega (arith, c.loop-before-test.false) in
    tells c.loop-before.invariant.looks (λ book so_far. lists_all c.args.shape.now.instruments c.in_ok-last.last book c.loop-before.all.items
    (subst (λ n. IsListed c.args.shape.now.instruments c.in_ok-last.last n c.loop-before.all.items book) all so_far))

pub returns-clause-stands : goal.returns-clause-stands
returns-clause-stands g c = looked_stands c.loop-before.invariant.looks c.requires.stands

pub loop-before-preserved : goal.loop-before-preserved
loop-before-preserved g c =
    let goes = c.in_ok-found.ensures.goes_on in
    let i = c.loop-before.invariant in
    record {
      origin = goes.origin ∙ i.origin;
      stop = goes.stops;
      sound = goes.sound;
      looks = looked_less (look_then goes.shape goes.begins i.looks c.in_ok-found.ensures.told)
          (λ book k. next_listed c.args.shape.now.instruments c.in_ok-last.last book c.loop-before.before c.loop-before.all.items k.0
          c.in_ok-found.found k.1 c.add_found.new.all.items c.in_ok-add_found.ensures);
    }
