use Rattle.books_report.proofs.Common.{◌+◌, ◌∷◌, ◌++◌, [], length, refl, ap, ◌∙◌, arith, iter_rest, nil_from_length, run_from}
use Rattle.books_report.specs.Stores.Steps.{step_with}
use Rattle.books_report.proofs.AnyStore.Runs.{after_values, after_values-none, ends, goes_on, is_absent, is_full}
use Rattle.books_report.proofs.stores.plain.run_operations.Goals as goal

pub loop-operation-init : goal.loop-operation-init
loop-operation-init g c =
    let p = g.P.PlainStore in
    let whole = run_from (p.step (p.fixed c.args.store.now)) 1 in
    let gives = ap iter_rest c.into_iter-operation-iterator.ensures.into_iter_gives ∙ c.iter-operation-items.ensures in
    record {
      left = ap (λ ops. 1 + length ops) gives;
      run = ap (λ values. after_values values (whole (iter_rest c.into_iter-operation-iterator.result) (p.state c.args.store.now))) c.new-values.ensures
          ∙ after_values-none _
          ∙ ap (λ ops. whole ops (p.state c.args.store.now)) gives;
      fixed = refl;
    }

pub loop-operation-preserved : goal.loop-operation-preserved
loop-operation-preserved g c =
    let p = g.P.PlainStore in
    let rest = iter_rest c.next.new.self in
    let number = c.loop-operation.number in
    let fixed = c.in_ok-value.ensures.fixed in
    let after = p.state c.run.new.self in
    record {
      left = omega (arith, c.loop-operation.invariant.left, ap length c.in-Some.ensures.steps);
      run = ap (λ values. after_values values (run_from (p.step (p.fixed c.run.new.self)) (number + 1) rest after)) c.in_ok-push-in-Gives.ensures.ok
          ∙ ap (λ kept. after_values (c.loop-operation.values ++ c.in-Gives.value ∷ []) (run_from (p.step kept) (number + 1) rest after)) fixed
          ∙ goes_on (p.step (p.fixed c.loop-operation.store)) c.in-Some.operation.now _ rest c.in-Some.ensures.steps _ c.loop-operation.values number
          (p.state c.loop-operation.store) c.loop-operation.invariant.run c.in-Gives.value after
          (c.in_ok-value.ensures.step ∙ ap (λ outcome. step_with outcome after) c.in-Gives.is);
      fixed = fixed ∙ c.loop-operation.invariant.fixed;
    }

pub returns-in-Absent-clause-run : goal.returns-in-Absent-clause-run
returns-in-Absent-clause-run g c =
    let p = g.P.PlainStore in
    is_absent (p.step (p.fixed c.loop-operation.store)) c.in-Some.operation.now _ (iter_rest c.next.new.self) c.in-Some.ensures.steps _
    c.loop-operation.values c.loop-operation.number (p.state c.loop-operation.store) c.loop-operation.invariant.run
    (c.in_ok-value.ensures.step ∙ ap (λ outcome. step_with outcome (p.state c.run.new.self)) c.in-Absent.is)

pub returns-in-Full-clause-run : goal.returns-in-Full-clause-run
returns-in-Full-clause-run g c =
    let p = g.P.PlainStore in
    is_full (p.step (p.fixed c.loop-operation.store)) c.in-Some.operation.now _ (iter_rest c.next.new.self) c.in-Some.ensures.steps _
    c.loop-operation.values c.loop-operation.number (p.state c.loop-operation.store) c.loop-operation.invariant.run
    (c.in_ok-value.ensures.step ∙ ap (λ outcome. step_with outcome (p.state c.run.new.self)) c.in-Full.is)

pub returns-clause-run : goal.returns-clause-run
returns-clause-run g c =
    let p = g.P.PlainStore in
    ends (p.step (p.fixed c.loop-operation.store)) _ (nil_from_length _ c.in-None.ensures.steps.0) _ c.loop-operation.values c.loop-operation.number
    (p.state c.loop-operation.store) c.loop-operation.invariant.run
