use Rattle.txn_alloc.proofs.Common.{◌≡◌, ◌+◌, ◌-◌, ◌%◌, ◌<◌, refl, arith, rules, ap, ◌∙◌, each_plain, goes_call, goes_then, goes_as, some_from}
use Rattle.txn_words.proofs.CallLaws.{goes}
use Rattle.txn_alloc.proofs.FreeLists.Traces.{lies}
use Rattle.txn_alloc.proofs.FreeLists.Takings.{none_passed, one_passed, found_block, found_below, all_passed}
use Rattle.txn_alloc.proofs.free.nearest.Goals as goal

pub loop-passed-init : goal.loop-passed-init
loop-passed-init g c = record {
  shape = refl;
  origin = refl;
  stop = c.requires.ready.going;
  sound = c.requires.ready.sound;
  looks = none_passed c.args.arena.now c.args.near _ _ _;
}

pub read-requires-clause-within : goal.read-requires-clause-within
read-requires-clause-within g c =
    let l = lies c.args.arena.now _ _ _ (each_plain g.W.Words g.W.Shape.Shape _ _ c.requires.order) (g.met.W.Words.fits c.args.w.now c.requires.ready.sound) in
    omega (arith, l.head (c.args.near % 16 + c.loop-passed.passed), ap g.W.Shape.Shape.word_count c.loop-passed.invariant.shape, c.head_of.ensures)

pub read-requires-clause-going : goal.read-requires-clause-going
read-requires-clause-going g c = c.loop-passed.invariant.stop

pub read-requires-clause-sound : goal.read-requires-clause-sound
read-requires-clause-sound g c = c.loop-passed.invariant.sound

pub returns-in_err-name-clause-goes_on : goal.returns-in_err-name-clause-goes_on
returns-in_err-name-clause-goes_on g c =
    let i = c.loop-passed.invariant in
    goes_as (goes_then (goes i.shape i.origin i.looks.begins i.stop i.sound) (goes_call c.in_err-name.ensures)) (search rules)

pub prove-unreachable-requires : goal.prove-unreachable-requires
prove-unreachable-requires g c =
    let a = c.args.arena.now in
    let i = c.loop-passed.invariant in
    let read = c.in_ok-name.ensures in
    let one_more : c.in_ok-name.name ≡ (c.in_ok-name.name - 1) + 1 = omega (arith, c.if-name-ne0.true) in
    let some = some_from g.W.Words g.W.Shape.Shape c.args.w.now c.read.new.self (read.shape ∙ i.shape) (g.met.W.Words.fits c.read.new.self read.sound) in
    let lt : c.in_ok-name.name - 1 < a.blocks =
    found_below a c.args.near _ _ _ _ _ c.loop-passed.passed _ _ i.looks c.head_of.ensures read.value
    (c.in_ok-name.name - 1) c.loop-passed-test.true one_more (each_plain g.W.Words g.W.Shape.Shape _ _ c.requires.order) some in
    omega (arith, c.if-prove.true, c.from.ensures)

pub overflow_cast-result : goal.overflow_cast-result
overflow_cast-result g c = omega (arith, c.if-prove.false, c.from.ensures)

pub returns-then-name-ne0-clause-found : goal.returns-then-name-ne0-clause-found
returns-then-name-ne0-clause-found g c =
    let a = c.args.arena.now in
    let i = c.loop-passed.invariant in
    let one_more : c.in_ok-name.name ≡ (c.in_ok-name.name - 1) + 1 = omega (arith, c.if-name-ne0.true) in
    found_block a c.args.near _ _ _ _ _ c.loop-passed.passed _ _ i.looks c.head_of.ensures c.in_ok-name.ensures.value
    (c.in_ok-name.name - 1) c.loop-passed-test.true one_more (each_plain g.W.Words g.W.Shape.Shape _ _ c.requires.order)

pub returns-then-name-ne0-clause-goes_on : goal.returns-then-name-ne0-clause-goes_on
returns-then-name-ne0-clause-goes_on g c =
    let i = c.loop-passed.invariant in
    let read = c.in_ok-name.ensures in
    goes_as (goes_then (goes i.shape i.origin i.looks.begins i.stop i.sound) (goes_call read)) read.stops

pub loop-passed-preserved : goal.loop-passed-preserved
loop-passed-preserved g c =
    let i = c.loop-passed.invariant in
    let read = c.in_ok-name.ensures in
    record {
      shape = read.shape ∙ i.shape;
      origin = read.origin ∙ i.origin;
      stop = read.stops;
      sound = read.sound;
      looks = one_passed c.args.arena.now c.args.near _ _ _ _ _ c.loop-passed.passed _ _ i.looks c.head_of.ensures
          read.value (omega (arith, c.if-name-ne0.false));
    }

pub returns-clause-none : goal.returns-clause-none
returns-clause-none g c = all_passed c.args.arena.now c.args.near _ _ _ c.loop-passed.passed
    (omega (arith, c.loop-passed-test.false)) c.loop-passed.invariant.looks

pub returns-clause-goes_on : goal.returns-clause-goes_on
returns-clause-goes_on g c = let i = c.loop-passed.invariant in goes_as (goes i.shape i.origin i.looks.begins i.stop i.sound) i.stop
