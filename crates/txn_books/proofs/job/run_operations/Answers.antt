use Rattle.txn_books.proofs.Common.{◌∷◌, length, List, All, refl, sym, ap, subst, ◌∙◌, arith, iter_rest, nil_from_length, Op, after_values, run_from}
use Rattle.txn_books.proofs.Common.{IsOperationIn}
use Rattle.std.proofs.lemmas.List.Elements.{All-drop}
use Rattle.txn_books.proofs.OnBooks.Turning.{Turned}
use Rattle.txn_books.proofs.OnBooks.Scripted.{SoFar, turned_stands, run_begins, run_ends, run_gives, run_declined, run_full}
use Rattle.txn_books.proofs.job.run_operations.Goals.{In-Some}
use Rattle.txn_books.proofs.job.run_operations.Goals as goal

pub loop-operation-init : goal.loop-operation-init
loop-operation-init g c =
    let all = sym c.into_iter-operation-iterator.ensures.into_iter_gives in
    record {
      origin = refl;
      stop = c.requires.ready.going;
      sound = c.requires.ready.sound;
      left = omega (arith, ap (λ (ops : List Op). length ops) all);
      each = subst (λ ops. All (IsOperationIn c.args.shape.now) ops) all c.requires.range;
      run = run_begins c.args.w.now _ _ c.args.so_far
          (λ books. ap (λ ops. after_values c.args.so_far (run_from c.args.first ops books)) (sym all));
    }

pub run_operation-requires-clause-stands : goal.run_operation-requires-clause-stands
run_operation-requires-clause-stands g c = turned_stands c.loop-operation.invariant.run c.requires.stands

-- the whole run, from the operation that is next
from_here : (g : _) (c : In-Some g) → Turned g.W.Words g.W.Shape.Shape c.args.shape.now c.args.w.now c.loop-operation.w
    (SoFar (λ books. after_values c.args.so_far (run_from c.args.first c.args.operations.now books)) c.loop-operation.values
    (run_from c.loop-operation.number (c.in-Some.operation.now ∷ iter_rest c.next.new.self)))
from_here g c = rw c.in-Some.ensures.steps at c.loop-operation.invariant.run

pub returns-in-Declines-clause-runs : goal.returns-in-Declines-clause-runs
returns-in-Declines-clause-runs g c =
    run_declined _ c.loop-operation.values c.loop-operation.number c.in_ok-value.ensures.goes_on
    (iter_rest c.next.new.self) (from_here g (goal.at.returns-in-Declines-clause-runs g c).In-Some) (rw c.in-Declines.is at c.in_ok-value.ensures.step)

pub returns-in-FindsNoBlock-clause-runs : goal.returns-in-FindsNoBlock-clause-runs
returns-in-FindsNoBlock-clause-runs g c =
    run_full _ c.loop-operation.values c.loop-operation.number c.in_ok-value.ensures.goes_on
    (iter_rest c.next.new.self) (from_here g (goal.at.returns-in-FindsNoBlock-clause-runs g c).In-Some)
    (rw c.in-FindsNoBlock.is at c.in_ok-value.ensures.step)

pub loop-operation-preserved : goal.loop-operation-preserved
loop-operation-preserved g c =
    let i = c.loop-operation.invariant in
    let rest = iter_rest c.next.new.self in
    let goes = c.in_ok-value.ensures.goes_on in
    record {
      origin = goes.origin ∙ i.origin;
      stop = goes.stops;
      sound = goes.sound;
      left = omega (arith, i.left, ap (λ (ops : List Op). length ops) c.in-Some.ensures.steps);
      each = All-drop (IsOperationIn c.args.shape.now) 1 (c.in-Some.operation.now ∷ rest)
          (subst (λ ops. All (IsOperationIn c.args.shape.now) ops) c.in-Some.ensures.steps i.each);
      run = rw c.in_ok-push-in-Gives.ensures.ok
          (run_gives _ c.loop-operation.values c.loop-operation.number goes rest
          (from_here g (goal.at.loop-operation-preserved g c).In-Some) (rw c.in-Gives.is at c.in_ok-value.ensures.step));
    }

pub returns-clause-runs : goal.returns-clause-runs
returns-clause-runs g c =
    run_ends c.loop-operation.values c.loop-operation.number
    (rw (nil_from_length _ c.in-None.ensures.steps.0) at c.loop-operation.invariant.run)

pub returns-clause-stands : goal.returns-clause-stands
returns-clause-stands g c = turned_stands c.loop-operation.invariant.run c.requires.stands
