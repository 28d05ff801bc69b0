use Rattle.txn_books.proofs.Common.{◌≡◌, ◌+◌, ◌∷◌, ◌++◌, length, List, [], All, refl, sym, ap, subst, ◌∙◌, arith, iter_rest, nil_from_length, operations_of}
use Rattle.txn_books.proofs.Common.{run_parts, All-front, All-back, begins_trans, IsOperationIn}
use Rattle.std.proofs.lemmas.List.{length-append}
use Rattle.books_model.specs.declared.script.Part.{Part}
use Rattle.books_model.proofs.Scripts.Runs.{after_values-none}
use Rattle.txn_books.proofs.OnBooks.Turning.{Turned}
use Rattle.txn_books.proofs.OnBooks.Scripted.{SoFar, turned_stands, run_begins, script_ends, one_gives, one_declined, one_full, part_done, part_refused}
use Rattle.txn_books.proofs.job.run_script.Goals.{In-Some}
use Rattle.books_model.specs.declared.script.Part.TheVariants as part
use Rattle.txn_books.proofs.job.run_script.Goals as goal

pub loop-part-init : goal.loop-part-init
loop-part-init g c =
    let all = sym c.into_iter-part-iterator.ensures.into_iter_gives in
    record {
      origin = refl;
      stop = c.requires.ready.going;
      sound = c.requires.ready.sound;
      left = omega (arith, c.requires.range.few, ap (λ (parts : List Part). length (operations_of parts)) all);
      each = subst (λ parts. All (IsOperationIn c.args.shape.now) (operations_of parts)) all c.requires.range.each;
      run = rw c.in_ok-values.ensures
          (run_begins c.args.w.now _ _ [] (λ books. after_values-none _ ∙ ap (λ parts. run_parts 1 parts books) (sym all)));
    }

pub run_operation-requires-clause-stands : goal.run_operation-requires-clause-stands
run_operation-requires-clause-stands g c = turned_stands c.loop-part.invariant.run c.requires.stands

-- the parts that are left, of which this is the first
from_here : (g : _) (c : In-Some g) (p : Part) → c.in-Some.part.now ≡ p → iter_rest c.loop-part.part-iterator ≡ p ∷ iter_rest c.next.new.self
from_here g c p is = c.in-Some.ensures.steps ∙ ap (λ q. q ∷ iter_rest c.next.new.self) is

-- the whole run, from this part
whole : (g : _) (c : In-Some g) (p : Part) → c.in-Some.part.now ≡ p
    → Turned g.W.Words g.W.Shape.Shape c.args.shape.now c.args.w.now c.loop-part.w
    (SoFar (run_parts 1 c.args.script.now) c.loop-part.values (run_parts c.loop-part.number (p ∷ iter_rest c.next.new.self)))
whole g c p is = rw (from_here g c p is) at c.loop-part.invariant.run

-- the numbers of all operations that are left are in their ranges
ranges : (g : _) (c : In-Some g) (p : Part) → c.in-Some.part.now ≡ p
    → All (IsOperationIn c.args.shape.now) (operations_of (p ∷ iter_rest c.next.new.self))
ranges g c p is = subst (λ parts. All (IsOperationIn c.args.shape.now) (operations_of parts)) (from_here g c p is) c.loop-part.invariant.each

pub returns-in-Declines-clause-runs : goal.returns-in-Declines-clause-runs
returns-in-Declines-clause-runs g c =
    one_declined _ c.loop-part.values c.loop-part.number c.in_ok-value-in-One.ensures.goes_on
    (iter_rest c.next.new.self) (whole g (goal.at.returns-in-Declines-clause-runs g c).In-Some (part.One c.in-One.operation) c.in-One.is)
    (rw c.in-Declines.is at c.in_ok-value-in-One.ensures.step)

pub returns-in-FindsNoBlock-clause-runs : goal.returns-in-FindsNoBlock-clause-runs
returns-in-FindsNoBlock-clause-runs g c =
    one_full _ c.loop-part.values c.loop-part.number c.in_ok-value-in-One.ensures.goes_on
    (iter_rest c.next.new.self) (whole g (goal.at.returns-in-FindsNoBlock-clause-runs g c).In-Some (part.One c.in-One.operation) c.in-One.is)
    (rw c.in-FindsNoBlock.is at c.in_ok-value-in-One.ensures.step)

pub loop-part-preserved-in-One : goal.loop-part-preserved-in-One
loop-part-preserved-in-One g c =
    let i = c.loop-part.invariant in
    let op = c.in-One.operation in
    let rest = iter_rest c.next.new.self in
    let goes = c.in_ok-value-in-One.ensures.goes_on in
    let here = (goal.at.loop-part-preserved-in-One g c).In-Some in
    record {
      origin = goes.origin ∙ i.origin;
      stop = goes.stops;
      sound = goes.sound;
      left = omega (arith, i.left, ap (λ parts. length (operations_of parts)) (from_here g here (part.One op) c.in-One.is));
      each = All-back (IsOperationIn c.args.shape.now) (op ∷ []) (operations_of rest) (ranges g here (part.One op) c.in-One.is);
      run = rw c.in_ok-push-in-Gives.ensures.ok
          (one_gives _ c.loop-part.values c.loop-part.number goes rest
          (whole g here (part.One op) c.in-One.is) (rw c.in-Gives.is at c.in_ok-value-in-One.ensures.step));
    }

pub run_either-requires-clause-stands : goal.run_either-requires-clause-stands
run_either-requires-clause-stands g c = turned_stands c.loop-part.invariant.run c.requires.stands

pub run_either-requires-clause-range : goal.run_either-requires-clause-range
run_either-requires-clause-range g c =
    All-front (IsOperationIn c.args.shape.now) (c.in-Either.first ++ c.in-Either.second) (operations_of (iter_rest c.next.new.self))
    (ranges g (goal.at.run_either-requires-clause-range g c).In-Some (part.Either c.in-Either.first c.in-Either.second) c.in-Either.is)

pub returns-in_default : goal.returns-in_default
returns-in_default g c =
    let hands = c.in_ok-refused-in-Either.ensures.hands_on in
    let i = c.loop-part.invariant in
    record {
      runs = part_refused _ c.loop-part.values c.loop-part.number (part.Either c.in-Either.first c.in-Either.second) (iter_rest c.next.new.self) _ hands
          (whole g (goal.at.returns-in_default g c).In-Some (part.Either c.in-Either.first c.in-Either.second) c.in-Either.is)
          c.in_ok-refused-in-Either.ensures.runs c.in_default.not-Done;
      stands = c.in_ok-refused-in-Either.ensures.stands;
      hands_on = record {
        shape = hands.shape ∙ i.run.kept;
        origin = hands.origin ∙ i.origin;
        begins = begins_trans _ _ _ i.run.begins hands.begins;
        done = hands.done;
        yields = hands.yields;
        sound = hands.sound;
      };
    }

pub loop-part-preserved : goal.loop-part-preserved
loop-part-preserved g c =
    let i = c.loop-part.invariant in
    let p = part.Either c.in-Either.first c.in-Either.second in
    let rest = iter_rest c.next.new.self in
    let hands = c.in_ok-refused-in-Either.ensures.hands_on in
    let here = (goal.at.loop-part-preserved g c).In-Some in
    let more = length-append c.in-Either.first c.in-Either.second in
    record {
      origin = hands.origin ∙ i.origin;
      stop = hands.done;
      sound = hands.sound;
      left = omega (
        arith,
        i.left,
        c.len-in-Either.ensures,
        c.len-in-Either-2.ensures,
        more,
        length-append (c.in-Either.first ++ c.in-Either.second) (operations_of rest),
        ap (λ parts. length (operations_of parts)) (from_here g here p c.in-Either.is),
      );
      each = All-back (IsOperationIn c.args.shape.now) (c.in-Either.first ++ c.in-Either.second) (operations_of rest) (ranges g here p c.in-Either.is);
      run = rw c.in_ok-append-in-Done.ensures.ok
          (subst (λ n. Turned g.W.Words g.W.Shape.Shape c.args.shape.now c.args.w.now c.run_either.new.w
          (SoFar (run_parts 1 c.args.script.now) (c.loop-part.values ++ c.in-Done.more) (run_parts (c.loop-part.number + n) rest)))
          (omega (arith, more, c.len-in-Either.ensures, c.len-in-Either-2.ensures))
          (part_done _ c.loop-part.values c.loop-part.number p rest _ hands (whole g here p c.in-Either.is)
          c.in_ok-refused-in-Either.ensures.runs c.in-Done.more c.in-Done.is));
    }

pub returns-clause-runs : goal.returns-clause-runs
returns-clause-runs g c =
    script_ends c.loop-part.values c.loop-part.number
    (rw (nil_from_length _ c.in-None.ensures.steps.0) at c.loop-part.invariant.run)

pub returns-clause-stands : goal.returns-clause-stands
returns-clause-stands g c = turned_stands c.loop-part.invariant.run c.requires.stands
