use Rattle.txn_records.proofs.Common.{ℕ, ◌+◌, ◌-◌, refl, ◌∙◌, arith, printed_of, unlooked, look_then, looked_less, looked_stands, tells}
use Rattle.txn_records.proofs.Keys.{entries_rise, entries_fit}
use Rattle.txn_records.proofs.Listed.{records_course, records_first, lists_none, lists_all, lists_one, lists_last}
use Rattle.txn_records.proofs.closing.all_records.Goals as goal

pub loop-init : goal.loop-init
loop-init g c = record {
  origin = refl;
  stop = c.requires.ready.going;
  sound = c.requires.ready.sound;
  looks = unlooked c.args.w.now _ (λ x records stand. records_first c.args.shape.now x records stand c.new-all.result.items
      (c.args.shape.now.blocks - 0) 0 c.new-all.ensures.items (omega arith) refl);
}

pub next_entry-requires-clause-stands : goal.next_entry-requires-clause-stands
next_entry-requires-clause-stands g c = looked_stands c.loop.invariant.looks c.requires.stands

pub returns-in_default-clause-told : goal.returns-in_default-clause-told
returns-in_default-clause-told g c =
    let goes = c.in_ok-found.ensures.goes_on in
    tells (look_then goes.shape goes.begins c.loop.invariant.looks (rw c.in_default.is at c.in_ok-found.ensures.told))
    (λ records k. lists_none records_course printed_of c.loop.all.items (c.args.shape.now.blocks - c.loop.counter) c.loop.key records k.0 k.1)

pub returns-then-found-clause-told : goal.returns-then-found-clause-told
returns-then-found-clause-told g c =
    let goes = c.in_ok-found.ensures.goes_on in
    let left = c.args.shape.now.blocks - (c.loop.counter + 1) in
    let entry : ℕ × ℕ = (c.in-Some.found, c.in-Some.content) in
    tells (look_then goes.shape goes.begins c.loop.invariant.looks (rw c.in-Some.is at c.in_ok-found.ensures.told))
    (λ records k. lists_last records_course printed_of c.add_record.new.all.items left (c.in-Some.found + 1) records
    (lists_one records_course printed_of c.loop.all.items (c.args.shape.now.blocks - c.loop.counter) c.loop.key records k.0 left entry
    (records_course.shown entry) c.add_record.new.all.items (omega (arith, c.loop-test.true)) (entries_rise records k.0.range) k.1 refl
    c.in_ok-add_record.ensures)
    (entries_fit records k.0.range) (omega (arith, c.if-found.true)))

pub loop-preserved : goal.loop-preserved
loop-preserved g c =
    let goes = c.in_ok-found.ensures.goes_on in
    let i = c.loop.invariant in
    let entry : ℕ × ℕ = (c.in-Some.found, c.in-Some.content) in
    record {
      origin = goes.origin ∙ i.origin;
      stop = goes.stops;
      sound = goes.sound;
      looks = looked_less (look_then goes.shape goes.begins i.looks (rw c.in-Some.is at c.in_ok-found.ensures.told))
          (λ records k. lists_one records_course printed_of c.loop.all.items (c.args.shape.now.blocks - c.loop.counter) c.loop.key records k.0
          (c.args.shape.now.blocks - (c.loop.counter + 1)) entry (records_course.shown entry) c.add_record.new.all.items
          (omega (arith, c.loop-test.true)) (entries_rise records k.0.range) k.1 refl c.in_ok-add_record.ensures);
    }

pub returns-clause-told : goal.returns-clause-told
returns-clause-told g c =
    tells c.loop.invariant.looks (λ records so_far. lists_all records_course printed_of c.loop.all.items
    (c.args.shape.now.blocks - c.loop.counter) c.loop.key records so_far (omega (arith, c.loop-test.false)))

pub returns-clause-stands : goal.returns-clause-stands
returns-clause-stands g c = looked_stands c.loop.invariant.looks c.requires.stands
