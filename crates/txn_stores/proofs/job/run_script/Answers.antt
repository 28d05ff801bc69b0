use Rattle.txn_stores.proofs.Common.{◌+◌, ◌∷◌, length, List, All, refl, sym, ap, subst, ◌∙◌, arith, iter_rest}
use Rattle.std.proofs.lemmas.List.{nil_from_length}
use Rattle.std.proofs.lemmas.List.Elements.{All-drop}
use Rattle.txn_stores.proofs.Turning.{Leads, Turns, turned_stands}
use Rattle.txn_stores.proofs.Scripted.{SoFar, run_begins, run_ends, run_gives, run_declined, run_full}
use Rattle.txn_stores.proofs.job.run_script.Goals as goal

pub loop-operation-init : goal.loop-operation-init
loop-operation-init g c =
    let stands = g.S.Store.stands c.args.shape.now in
    let step = g.S.Store.step c.args.shape.now in
    let all = sym c.into_iter-operation-iterator.ensures.into_iter_gives in
    record {
      origin = refl;
      stop = c.requires.ready.going;
      sound = c.requires.ready.sound;
      left = omega (arith, ap (λ (ops : List g.row.S-Op.Denot). length ops) all);
      each = subst (λ ops. All (g.S.Store.is_operation c.args.shape.now) ops) all (g.met.S.Store.each c.args.shape.now c.args.script.now c.requires.range);
      run = subst (λ values. Leads g.W.Words g.W.Shape.Shape c.args.w.now c.args.w.now
          (Turns stands (SoFar stands step c.args.script.now values 1 (iter_rest c.into_iter-operation-iterator.result))))
          (sym c.new-values.ensures) (run_begins stands step c.args.script.now c.args.w.now _ all);
    }

pub run_operation-requires-clause-stands : goal.run_operation-requires-clause-stands
run_operation-requires-clause-stands g c = turned_stands c.loop-operation.invariant.run c.requires.stands

pub returns-clause-runs : goal.returns-clause-runs
returns-clause-runs g c =
    run_ends (g.S.Store.stands c.args.shape.now) (g.S.Store.step c.args.shape.now) c.args.script.now c.loop-operation.values c.loop-operation.number
    (iter_rest c.loop-operation.operation-iterator) (nil_from_length _ c.in-None.ensures.steps.0) c.loop-operation.invariant.run

pub returns-clause-stands : goal.returns-clause-stands
returns-clause-stands g c = turned_stands c.loop-operation.invariant.run c.requires.stands

pub returns-in-Absent-clause-runs : goal.returns-in-Absent-clause-runs
returns-in-Absent-clause-runs g c =
    let hands = c.in_ok-value.ensures.hands_on in
    run_declined (g.S.Store.stands c.args.shape.now) (g.S.Store.step c.args.shape.now) c.args.script.now hands.shape hands.begins
    c.in_ok-value.ensures.step c.loop-operation.values c.loop-operation.number (iter_rest c.loop-operation.operation-iterator)
    (iter_rest c.next.new.self) c.in-Some.ensures.steps c.loop-operation.invariant.run c.in-Absent.is

pub returns-in-Full-clause-runs : goal.returns-in-Full-clause-runs
returns-in-Full-clause-runs g c =
    let hands = c.in_ok-value.ensures.hands_on in
    run_full (g.S.Store.stands c.args.shape.now) (g.S.Store.step c.args.shape.now) c.args.script.now hands.shape hands.begins
    c.in_ok-value.ensures.step c.loop-operation.values c.loop-operation.number (iter_rest c.loop-operation.operation-iterator)
    (iter_rest c.next.new.self) c.in-Some.ensures.steps c.loop-operation.invariant.run c.in-Full.is

pub loop-operation-preserved : goal.loop-operation-preserved
loop-operation-preserved g c =
    let stands = g.S.Store.stands c.args.shape.now in
    let step = g.S.Store.step c.args.shape.now in
    let i = c.loop-operation.invariant in
    let rest = iter_rest c.next.new.self in
    let hands = c.in_ok-value.ensures.hands_on in
    record {
      origin = hands.origin ∙ i.origin;
      stop = hands.done;
      sound = hands.sound;
      left = omega (arith, i.left, ap (λ (ops : List g.row.S-Op.Denot). length ops) c.in-Some.ensures.steps);
      each = All-drop (g.S.Store.is_operation c.args.shape.now) 1 (c.in-Some.operation.now ∷ rest)
          (subst (λ ops. All (g.S.Store.is_operation c.args.shape.now) ops) c.in-Some.ensures.steps i.each);
      run = subst (λ values. Leads g.W.Words g.W.Shape.Shape c.args.w.now c.run_operation.new.w
          (Turns stands (SoFar stands step c.args.script.now values (c.loop-operation.number + 1) rest)))
          (sym c.in_ok-push-in-Gives.ensures.ok)
          (run_gives stands step c.args.script.now hands.shape hands.begins c.in_ok-value.ensures.step c.loop-operation.values c.loop-operation.number
          (iter_rest c.loop-operation.operation-iterator) rest c.in-Some.ensures.steps i.run c.in-Gives.value c.in-Gives.is);
    }
