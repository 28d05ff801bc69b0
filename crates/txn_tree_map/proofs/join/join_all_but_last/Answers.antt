use Rattle.txn_tree_map.proofs.Common.{refl, ◌∙◌, arith, rules, IfOk-from_err, begins_refl, begins_trans, only_same, sees_same, GoesOn, goes, goes_then}
use Rattle.txn_tree_map.proofs.Common.{goes_as, each_since, leads_since, leads_now}
use Rattle.txn_tree_map.proofs.Removals.JoinSteps.{joined_none, gathered_no_left, gathered_no_right, gathered_all}
use Rattle.txn_tree_map.proofs.Removals.JoinCalls.{joined_more, gap_own_more, gap_seen_more}
use Rattle.txn_tree_map.proofs.join.join_all_but_last.Goals as goal

pub loop-init : goal.loop-init
loop-init g c =
    record {
      shape = refl;
      origin = refl;
      stop = c.requires.ready.going;
      sound = c.requires.ready.sound;
      begins = begins_refl _;
      reads = record { at = λ s fit. sees_same _ _ };
      own = record { at = λ s fit. only_same _ _ };
      joined = record { at = λ s fit. joined_none (c.requires.pair.at s fit).pair };
    }

pub join_one-requires-clause-joined : goal.join_one-requires-clause-joined
join_one-requires-clause-joined g c =
    let i = c.loop.invariant in
    each_since c.args.w.now i.shape
    (record {
      at = λ s fit. record {
        hole = c.args.hole;
        left = c.args.left;
        right = c.args.right;
        turns =
            c.loop.counter;
        start = _;
        joined = i.joined.at s fit;
      };
    })

pub loop-preserved : goal.loop-preserved
loop-preserved g c =
    let i = c.loop.invariant in
    let joined = leads_now i.joined in
    let one = c.in_ok-gap.ensures in
    record {
      shape = one.goes_on.shape ∙ i.shape;
      origin = one.goes_on.origin ∙ i.origin;
      stop = one.goes_on.stops;
      sound = one.goes_on.sound;
      begins = begins_trans _ _ _ i.begins one.goes_on.begins;
      reads = record { at = gap_seen_more joined one.goes_on.begins i.reads.at one.reads };
      own = record { at = gap_own_more joined one.goes_on.begins i.own.at one.frame.appended };
      joined = record { at = (joined_more joined one.goes_on.begins (leads_since i.shape one.joined)).at };
    }

pub returns-then-gap-eq0 : goal.returns-then-gap-eq0
returns-then-gap-eq0 g c =
    let i = c.loop.invariant in
    record {
      gathered = record {
        at = λ s fit. gathered_no_left (i.joined.at s fit) c.if-gap-eq0.true;
      };
      frame = i.own;
      reads = i.reads;
      goes_on = goes_as (goes i.shape i.origin i.begins i.stop i.sound) i.stop;
    }

pub returns-then-gap-eq0-2 : goal.returns-then-gap-eq0-2
returns-then-gap-eq0-2 g c =
    let i = c.loop.invariant in
    record {
      gathered = record {
        at = λ s fit. gathered_no_right (i.joined.at s fit) c.if-gap-eq0-2.true;
      };
      frame = i.own;
      reads = i.reads;
      goes_on = goes_as (goes i.shape i.origin i.begins i.stop i.sound) i.stop;
    }

pub returns : goal.returns
returns g c =
    let i = c.loop.invariant in
    record {
      gathered = record {
        at = λ s fit. gathered_all (i.joined.at s fit) (omega (arith, c.loop-test.false));
      };
      frame = i.own;
      reads = i.reads;
      goes_on = goes_as (goes i.shape i.origin i.begins i.stop i.sound) i.stop;
    }

pub returns-in_err-gap : goal.returns-in_err-gap
returns-in_err-gap g c =
    let i = c.loop.invariant in
    let on = c.in_err-gap.ensures.goes_on in
    let failed = c.from_residual.ensures.0 in
    let goes : GoesOn g.W.Words c.args.w.now c.join_one.new.w c.from_residual.result =
    goes_as (goes_then (goes i.shape i.origin i.begins i.stop i.sound) on) (search rules) in
    search IfOk-from_err
