use Rattle.txn_records.proofs.Common.{◌+◌, ◌-◌, refl, ◌∙◌, arith, ids_from, unlooked, look_then, looked_less, looked_stands, tells}
use Rattle.txn_records.proofs.Keys.{keys_rise, keys_fit}
use Rattle.txn_records.proofs.Listed.{ids_course, ids_first, lists_none, lists_all, lists_one, lists_last}
use Rattle.txn_records.proofs.listing.ids_from.Goals as goal

pub loop-init : goal.loop-init
loop-init g c = record {
  origin = refl;
  stop = c.requires.ready.going;
  sound = c.requires.ready.sound;
  looks = unlooked c.args.w.now _ (λ x records stand. ids_first c.args.rank c.args.most c.new-ids.result (c.args.most - 0) c.index_key-key.result records
      stand.range c.new-ids.ensures (omega arith) c.index_key-key.ensures);
}

pub next_key-requires-clause-stands : goal.next_key-requires-clause-stands
next_key-requires-clause-stands g c = looked_stands c.loop.invariant.looks c.requires.stands

pub returns-in_default-clause-told : goal.returns-in_default-clause-told
returns-in_default-clause-told g c =
    let goes = c.in_ok-found.ensures.goes_on in
    tells (look_then goes.shape goes.begins c.loop.invariant.looks (rw c.in_default.is at c.in_ok-found.ensures.told))
    (λ records k. lists_none ids_course (ids_from c.args.rank c.args.most) c.loop.ids (c.args.most - c.loop.counter) c.loop.key records k.0 k.1)

pub returns-then-found-clause-told : goal.returns-then-found-clause-told
returns-then-found-clause-told g c =
    let goes = c.in_ok-found.ensures.goes_on in
    let whole = ids_from c.args.rank c.args.most in
    tells (look_then goes.shape goes.begins c.loop.invariant.looks (rw c.in-Some.is at c.in_ok-found.ensures.told))
    (λ records k. lists_last ids_course whole c.push.new.self (c.args.most - (c.loop.counter + 1)) (c.in-Some.found + 1) records
    (lists_one ids_course whole c.loop.ids (c.args.most - c.loop.counter) c.loop.key records k.0 (c.args.most - (c.loop.counter + 1)) c.in-Some.found
    c.id_of.result c.push.new.self (omega (arith, c.loop-test.true)) (keys_rise records k.0.range) k.1 c.id_of.ensures c.in_ok-push.ensures.ok)
    (keys_fit records k.0.range) (omega (arith, c.if-found.true)))

pub loop-preserved : goal.loop-preserved
loop-preserved g c =
    let goes = c.in_ok-found.ensures.goes_on in
    let i = c.loop.invariant in
    record {
      origin = goes.origin ∙ i.origin;
      stop = goes.stops;
      sound = goes.sound;
      looks = looked_less (look_then goes.shape goes.begins i.looks (rw c.in-Some.is at c.in_ok-found.ensures.told))
          (λ records k. lists_one ids_course (ids_from c.args.rank c.args.most) c.loop.ids (c.args.most - c.loop.counter) c.loop.key records k.0
          (c.args.most - (c.loop.counter + 1)) c.in-Some.found c.id_of.result c.push.new.self (omega (arith, c.loop-test.true))
          (keys_rise records k.0.range) k.1 c.id_of.ensures c.in_ok-push.ensures.ok);
    }

pub returns-clause-told : goal.returns-clause-told
returns-clause-told g c =
    tells c.loop.invariant.looks (λ records so_far. lists_all ids_course (ids_from c.args.rank c.args.most) c.loop.ids
    (c.args.most - c.loop.counter) c.loop.key records so_far (omega (arith, c.loop-test.false)))

pub returns-clause-stands : goal.returns-clause-stands
returns-clause-stands g c = looked_stands c.loop.invariant.looks c.requires.stands
