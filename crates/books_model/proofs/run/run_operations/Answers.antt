use Rattle.books_model.proofs.Common.{◌≡◌, ◌+◌, ◌∷◌, length, List, All, sym, ap, subst, ◌∙◌, arith, iter_rest, nil_from_length, All-drop, Op, IsOperationFor}
use Rattle.books_model.proofs.Common.{after_values, run_from, step_with}
use Rattle.books_model.proofs.Scripts.Runs.{goes_on, is_declined, finds_no_block, ends}
use Rattle.books_model.proofs.run.run_operations.Goals.{In-Some}
use Rattle.books_model.proofs.run.run_operations.Goals as goal

-- the whole run, from the operation that is next
from_here : (c : In-Some) → after_values c.loop-operation.values
    (run_from c.loop-operation.number (c.in-Some.operation.now ∷ iter_rest c.next.new.self)
    c.loop-operation.draft.after) ≡ after_values c.args.so_far (run_from c.args.first c.args.operations.now c.args.draft.now.after)
from_here c = sym (ap (λ ops. after_values c.loop-operation.values
    (run_from c.loop-operation.number ops c.loop-operation.draft.after)) c.in-Some.ensures.steps) ∙ c.loop-operation.invariant.run

pub loop-operation-preserved : goal.loop-operation-preserved
loop-operation-preserved c =
    let op = c.in-Some.operation.now in
    let rest = iter_rest c.next.new.self in
    let number = c.loop-operation.number in
    record {
      left = omega (arith, c.loop-operation.invariant.left, ap (λ (ops : List Op). length ops) c.in-Some.ensures.steps);
      each = subst (λ books. All (IsOperationFor books) rest) (sym c.in_ok-value.ensures.before)
          (All-drop (IsOperationFor c.loop-operation.draft.before) 1 (op ∷ rest)
          (subst (λ ops. All (IsOperationFor c.loop-operation.draft.before) ops) c.in-Some.ensures.steps c.loop-operation.invariant.each));
      run = ap (λ values. after_values values (run_from (number + 1) rest c.run.new.self.after)) c.in_ok-push-in-Gives.ensures.ok
          ∙ goes_on op rest _ c.loop-operation.values number c.loop-operation.draft.after
          (from_here (goal.at.loop-operation-preserved c).In-Some) c.in-Gives.value c.run.new.self.after
          (c.in_ok-value.ensures.step ∙ ap (λ outcome. step_with outcome c.run.new.self.after) c.in-Gives.is);
      before = c.in_ok-value.ensures.before ∙ c.loop-operation.invariant.before;
    }

pub returns-in-Declines-clause-run : goal.returns-in-Declines-clause-run
returns-in-Declines-clause-run c =
    is_declined c.in-Some.operation.now (iter_rest c.next.new.self) _ c.loop-operation.values c.loop-operation.number
    c.loop-operation.draft.after (from_here (goal.at.returns-in-Declines-clause-run c).In-Some) c.in-Declines.why
    (c.in_ok-value.ensures.step ∙ ap (λ outcome. step_with outcome c.run.new.self.after) c.in-Declines.is)

pub returns-in-FindsNoBlock-clause-run : goal.returns-in-FindsNoBlock-clause-run
returns-in-FindsNoBlock-clause-run c =
    finds_no_block c.in-Some.operation.now (iter_rest c.next.new.self) _ c.loop-operation.values c.loop-operation.number
    c.loop-operation.draft.after (from_here (goal.at.returns-in-FindsNoBlock-clause-run c).In-Some)
    (c.in_ok-value.ensures.step ∙ ap (λ outcome. step_with outcome c.run.new.self.after) c.in-FindsNoBlock.is)

pub returns-clause-run : goal.returns-clause-run
returns-clause-run c =
    ends _ c.loop-operation.values c.loop-operation.number c.loop-operation.draft.after
    (sym (ap (λ ops. after_values c.loop-operation.values
    (run_from c.loop-operation.number ops c.loop-operation.draft.after)) (nil_from_length _ c.in-None.ensures.steps.0)) ∙ c.loop-operation.invariant.run)
