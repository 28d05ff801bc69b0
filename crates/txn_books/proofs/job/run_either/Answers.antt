use Rattle.txn_books.proofs.Common.{◌≡◌, ℕ, Result, Ok, Err, IfOk, subst, ◌∙◌, arith, Trace, Begins, begins_trans, Reply, Stops, run_from, All-front, All-back}
use Rattle.txn_books.proofs.Common.{IsOperationIn}
use Rattle.txn_words.proofs.Common.{count_writes}
use Rattle.txn_words.specs.Marks.{TakesBack}
use Rattle.txn_words.proofs.GoingBack.{marked_stays, same_as_at_mark}
use Rattle.txn_books.proofs.OnBooks.Turning.{Turned}
use Rattle.txn_books.proofs.OnBooks.Scripted.{turned_marked, marked_runs, turned_stands, first_done, gone_back, second_ran}
use Rattle.txn_books.proofs.job.run_either.Goals.{In_ok-back_to}
use Rattle.txn_books.proofs.job.run_either.Goals as goal

-- what follows from what holds of an answer holds of it
ok_less : {A E : Type 0} (P Q : A → Type 0) (r : Result A E) → ((x : A) → P x → Q x) → IfOk r P → IfOk r Q
ok_less P Q (Ok x) f h = f x h
ok_less P Q (Err e) f h = tt

-- what was there at a mark begins what is there later
begins_marked : {at_mark marked : Trace} (later : Trace) → marked ≡ at_mark → Begins marked later → Begins at_mark later
begins_marked later same begins = subst (λ (t : Trace). Begins t later) same begins

pub run_operations-requires-clause-stands : goal.run_operations-requires-clause-stands
run_operations-requires-clause-stands g c =
    turned_stands (turned_marked {words = g.W.Words} {shapes = g.W.Shape.Shape} {shape = c.args.shape.now}
    c.mark-before.ensures.shape c.mark-before.ensures.trace) c.requires.stands

pub run_operations-requires-clause-range : goal.run_operations-requires-clause-range
run_operations-requires-clause-range g c = All-front (IsOperationIn c.args.shape.now) c.args.first.now c.args.second.now c.requires.range

-- after going back to a mark from before the first branch, which was refused, the books are those from before it
gone : (g : _) (c : In_ok-back_to g) (writes : ℕ) → writes ≡ count_writes (g.W.Words.trace c.args.w.now)
    → TakesBack (g.W.Shape.Shape.word_count (g.W.Words.shape c.run_operations.new.w))
    (g.W.Shape.Shape.good (g.W.Words.shape c.run_operations.new.w)) writes (g.W.Words.trace c.run_operations.new.w) (g.W.Words.trace c.back_to.new.self)
    → Turned g.W.Words g.W.Shape.Shape c.args.shape.now c.args.w.now c.back_to.new.self
    (λ books after. (after ≡ books) × ((stop : Reply) × (run_from c.args.number c.args.first.now books ≡ Stops stop)))
gone g c writes marked back =
    let words = g.W.Words in let shapes = g.W.Shape.Shape in
    let kept = c.in_ok-values.ensures.hands_on.shape ∙ c.mark-before.ensures.shape in
    let front = begins_marked (words.trace c.run_operations.new.w) c.mark-before.ensures.trace c.in_ok-values.ensures.hands_on.begins in
    gone_back c.args.number c.args.first.now c.in_ok-values.field-0 c.in_default.not-Done
    (marked_runs (run_from c.args.number c.args.first.now)
    c.mark-before.ensures.shape c.mark-before.ensures.trace c.in_ok-named.ensures c.in_ok-values.ensures.runs)
    front c.in_ok-back_to.ensures.begins (c.in_ok-back_to.ensures.shape ∙ kept)
    (same_as_at_mark words shapes c.args.w.now c.run_operations.new.w c.back_to.new.self kept front
    c.in_ok-back_to.ensures.begins
    (rw marked at back))

pub returns-in-Done-clause-runs : goal.returns-in-Done-clause-runs
returns-in-Done-clause-runs g c =
    first_done c.args.number c.args.first.now c.args.second.now c.in-Done.values
    (rw c.in-Done.is at (marked_runs (run_from c.args.number c.args.first.now)
    c.mark-before.ensures.shape c.mark-before.ensures.trace c.in_ok-named.ensures c.in_ok-values.ensures.runs))

pub back_to-requires : goal.back_to-requires
back_to-requires g c =
    let words = g.W.Words in
    let stays = marked_stays (words.trace c.args.w.now) (words.trace c.mark-before.new.self) (words.trace c.run_operations.new.w)
    c.mark-before.result.writes c.mark-before.ensures.writes c.mark-before.ensures.trace
    c.in_ok-values.ensures.hands_on.begins in
    record {
      mark = omega (arith, stays);
      going = c.in_ok-values.ensures.hands_on.done;
      sound = c.in_ok-values.ensures.hands_on.sound;
    }

pub run_operations-requires-2 : goal.run_operations-requires-2
run_operations-requires-2 g c = record {
  ready = record { going = c.in_ok-back_to.ensures.stops; sound = c.in_ok-back_to.ensures.sound };
  stands = turned_stands (gone g (goal.at.run_operations-requires-2 g c).In_ok-back_to _
      c.mark-before.ensures.writes c.in_ok-back_to.ensures.back) c.requires.stands;
  few = omega (arith, c.requires.few, c.len.ensures);
  range = All-back (IsOperationIn c.args.shape.now) c.args.first.now c.args.second.now c.requires.range;
}

pub returns : goal.returns
returns g c =
    let last = c.run_operations-2.ensures.hands_on in
    record {
      runs = ok_less _ _ c.run_operations-2.result (λ answer runs.
          second_ran c.args.number c.args.first.now c.args.second.now answer
          (gone g (goal.at.returns g c).In_ok-back_to _ c.mark-before.ensures.writes c.in_ok-back_to.ensures.back)
          last.shape last.begins
          runs) (rw c.in_ok-named-2.ensures at rw c.len.ensures at c.run_operations-2.ensures.runs);
      stands = c.run_operations-2.ensures.stands;
      hands_on = record {
        shape = last.shape ∙ c.in_ok-back_to.ensures.shape ∙ c.in_ok-values.ensures.hands_on.shape ∙ c.mark-before.ensures.shape;
        origin = last.origin ∙ c.in_ok-back_to.ensures.origin ∙ c.in_ok-values.ensures.hands_on.origin ∙ c.mark-before.ensures.origin;
        begins = begins_trans _ _ _ (begins_trans _ _ _
            (begins_marked _ c.mark-before.ensures.trace c.in_ok-values.ensures.hands_on.begins) c.in_ok-back_to.ensures.begins) last.begins;
        done = last.done;
        yields = last.yields;
        sound = last.sound;
      };
    }
