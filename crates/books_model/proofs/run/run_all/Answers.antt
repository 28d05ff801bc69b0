use Rattle.books_model.proofs.Common.{◌≡◌, ◌+◌, ◌∷◌, ◌++◌, [], length, All, sym, ap, subst, ◌∙◌, arith, iter_rest, Part, operations_of, IsOperationFor}
use Rattle.books_model.proofs.Common.{after_step, after_values, run_from, run_parts, step_with}
use Rattle.std.proofs.lemmas.List.{length-append}
use Rattle.books_model.specs.Inner.Steps.{run_with}
use Rattle.books_model.proofs.Scripts.Branches.{All-front, All-back}
use Rattle.books_model.proofs.Scripts.Runs.{part_ends}
use Rattle.books_model.proofs.run.run_all.Goals.{In-Some}
use Rattle.books_model.specs.declared.script.Part.TheVariants as part
use Rattle.books_model.proofs.run.run_all.Goals as goal

-- the parts that are left, of which this is the first
from_here : (c : In-Some) (p : Part) → c.in-Some.part.now ≡ p → iter_rest c.loop-part.part-iterator ≡ p ∷ iter_rest c.next.new.self
from_here c p is = c.in-Some.ensures.steps ∙ ap (λ q. q ∷ iter_rest c.next.new.self) is

-- the whole run, from this part
whole : (c : In-Some) (p : Part) → c.in-Some.part.now ≡ p
    → after_values c.loop-part.values (run_parts c.loop-part.number (p ∷ iter_rest c.next.new.self) c.loop-part.draft.after)
    ≡ run_parts 1 c.args.script.now c.args.draft.now.after
whole c p is = sym (ap (λ parts. after_values c.loop-part.values (run_parts c.loop-part.number parts c.loop-part.draft.after)) (from_here c p is))
    ∙ c.loop-part.invariant.run

-- the numbers of all operations that are left are in their ranges
ranges : (c : In-Some) (p : Part) → c.in-Some.part.now ≡ p
    → All (IsOperationFor c.loop-part.draft.before) (operations_of (p ∷ iter_rest c.next.new.self))
ranges c p is = subst (λ parts. All (IsOperationFor c.loop-part.draft.before) (operations_of parts)) (from_here c p is) c.loop-part.invariant.each

pub loop-part-preserved-in-One : goal.loop-part-preserved-in-One
loop-part-preserved-in-One c =
    let op = c.in-One.operation in
    let rest = iter_rest c.next.new.self in
    let here = (goal.at.loop-part-preserved-in-One c).In-Some in
    record {
      left = omega (arith, c.loop-part.invariant.left, ap (λ parts. length (operations_of parts)) (from_here here (part.One op) c.in-One.is));
      each = subst (λ books. All (IsOperationFor books) (operations_of rest)) (sym c.in_ok-value-in-One.ensures.before)
          (All-back (IsOperationFor c.loop-part.draft.before) (op ∷ []) (operations_of rest) (ranges here (part.One op) c.in-One.is));
      run = ap (λ values. after_values values (run_parts (c.loop-part.number + 1) rest c.run.new.self.after)) c.in_ok-push-in-Gives.ensures.ok
          ∙ part_ends (part.One op) rest _ c.loop-part.values c.loop-part.number c.loop-part.draft.after
          (whole here (part.One op) c.in-One.is) (c.in-Gives.value ∷ []) c.run.new.self.after
          (ap (λ step. after_step c.loop-part.number step (λ next. run_from (c.loop-part.number + 1) [] next))
          (c.in_ok-value-in-One.ensures.step ∙ ap (λ outcome. step_with outcome c.run.new.self.after) c.in-Gives.is));
      before = c.in_ok-value-in-One.ensures.before ∙ c.loop-part.invariant.before;
    }

pub run_either-requires-clause-range : goal.run_either-requires-clause-range
run_either-requires-clause-range c =
    All-front (IsOperationFor c.loop-part.draft.before) (c.in-Either.first ++ c.in-Either.second) (operations_of (iter_rest c.next.new.self))
    (ranges (goal.at.run_either-requires-clause-range c).In-Some (part.Either c.in-Either.first c.in-Either.second) c.in-Either.is)

pub loop-part-preserved : goal.loop-part-preserved
loop-part-preserved c =
    let p = part.Either c.in-Either.first c.in-Either.second in
    let rest = iter_rest c.next.new.self in
    let here = (goal.at.loop-part-preserved c).In-Some in
    let more = length-append c.in-Either.first c.in-Either.second in
    record {
      left = omega (
        arith,
        c.loop-part.invariant.left,
        c.len.ensures,
        c.len-in-Either.ensures,
        more,
        length-append (c.in-Either.first ++ c.in-Either.second) (operations_of rest),
        ap (λ parts. length (operations_of parts)) (from_here here p c.in-Either.is),
      );
      each = subst (λ books. All (IsOperationFor books) (operations_of rest)) (sym c.in_ok-refused-in-Either.ensures.before)
          (All-back (IsOperationFor c.loop-part.draft.before) (c.in-Either.first ++ c.in-Either.second) (operations_of rest) (ranges here p c.in-Either.is));
      run = ap (λ values. after_values values (run_parts (c.loop-part.number + (c.len.result + c.len-in-Either.result)) rest c.run_either.new.draft.after))
          c.in_ok-append-in-Done.ensures.ok
          ∙ ap (λ n. after_values (c.loop-part.values ++ c.in-Done.more) (run_parts (c.loop-part.number + n) rest c.run_either.new.draft.after))
          (omega (arith, more, c.len.ensures, c.len-in-Either.ensures))
          ∙ part_ends p rest _ c.loop-part.values c.loop-part.number c.loop-part.draft.after (whole here p c.in-Either.is)
          c.in-Done.more c.run_either.new.draft.after
          (c.in_ok-refused-in-Either.ensures.run ∙ ap (λ reply. run_with reply c.run_either.new.draft.after) c.in-Done.is);
      before = c.in_ok-refused-in-Either.ensures.before ∙ c.loop-part.invariant.before;
    }
