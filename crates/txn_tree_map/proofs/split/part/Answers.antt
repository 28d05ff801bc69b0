use Rattle.txn_tree_map.proofs.Common.{◌≡◌, refl, ◌∙◌, arith, rules, IfOk-from_err, begins_refl, begins_trans, only_same, sees_same, GoesOn, block_at, goes}
use Rattle.txn_tree_map.proofs.Common.{goes_then, goes_as, each_since, leads_since, leads_now}
use Rattle.txn_tree_map.proofs.Inserts.SplitSteps.{parted_end, parted_all}
use Rattle.txn_tree_map.proofs.Inserts.SplitCalls.{parted_start, parted_more, own_more, seen_more}
use Rattle.txn_tree_map.proofs.split.part.Goals as goal

pub loop-init : goal.loop-init
loop-init g c =
    let m = c.args.map.now in
    let b = c.args.block in
    let is_block : block_at m.arena b ≡ c.place_of-at.result = omega (arith, c.place_of-at.ensures) in
    record {
      shape = refl;
      origin = refl;
      stop = c.requires.ready.going;
      sound = c.requires.ready.sound;
      begins = begins_refl _;
      reads = record { at = λ s fit. sees_same _ _ };
      own = record { at = λ s fit. only_same _ _ };
      parted = record { at = λ s fit. parted_start (c.place_of-at.result) is_block (c.requires.whole.at s fit) };
    }

pub part_one-requires-clause-parted : goal.part_one-requires-clause-parted
part_one-requires-clause-parted g c =
    let i = c.loop.invariant in
    each_since c.args.w.now i.shape
    (record { at = λ s fit. record { block = c.args.block; name = c.args.name; turns = c.loop.counter; start = _; parted = i.parted.at s fit } })

pub loop-preserved : goal.loop-preserved
loop-preserved g c =
    let i = c.loop.invariant in
    let parted = leads_now i.parted in
    let one = c.in_ok-ends.ensures in
    record {
      shape = one.goes_on.shape ∙ i.shape;
      origin = one.goes_on.origin ∙ i.origin;
      stop = one.goes_on.stops;
      sound = one.goes_on.sound;
      begins = begins_trans _ _ _ i.begins one.goes_on.begins;
      reads = record { at = seen_more parted one.goes_on.begins i.reads.at one.reads };
      own = record { at = own_more parted one.goes_on.begins i.own.at one.frame.appended };
      parted = record { at = (parted_more parted one.goes_on.begins (leads_since i.shape one.parted)).at };
    }

pub returns-then-ends-eq0 : goal.returns-then-ends-eq0
returns-then-ends-eq0 g c =
    let i = c.loop.invariant in
    record {
      parted = record {
        at = λ s fit. parted_end (i.parted.at s fit) c.if-ends-eq0.true;
      };
      frame = i.own;
      reads = i.reads;
      goes_on = goes_as (goes i.shape i.origin i.begins i.stop i.sound) i.stop;
    }

pub returns : goal.returns
returns g c =
    let i = c.loop.invariant in
    record {
      parted = record {
        at = λ s fit. parted_all (i.parted.at s fit) (omega (arith, c.loop-test.false));
      };
      frame = i.own;
      reads = i.reads;
      goes_on = goes_as (goes i.shape i.origin i.begins i.stop i.sound) i.stop;
    }

pub returns-in_err-ends : goal.returns-in_err-ends
returns-in_err-ends g c =
    let i = c.loop.invariant in
    let on = c.in_err-ends.ensures.goes_on in
    let failed = c.from_residual.ensures.0 in
    let goes : GoesOn g.W.Words c.args.w.now c.part_one.new.w c.from_residual.result =
    goes_as (goes_then (goes i.shape i.origin i.begins i.stop i.sound) on) (search rules) in
    search IfOk-from_err
