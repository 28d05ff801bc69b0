-- A run of operations, and one of parts, from any of them on.
use Rattle.books_model.proofs.Common.{◌≡◌, ℕ, ◌+◌, List, [], ◌∷◌, ◌++◌, length, refl, sym, ap, append_assoc, append-nil, ◌∙◌, Op, Part, operations_in, Value}
use Rattle.books_model.proofs.Common.{Decline, Reply, ClearingBooks, Step, Gives, Declines, FindsNoBlock, Run, Ends, Stops, step_of, run_from, run_part}
use Rattle.books_model.proofs.Common.{run_parts, then_run, after_value, after_values, after_step}
use Rattle.std.proofs.Common.{map}
use Rattle.books_model.specs.declared.script.Part.TheVariants as part
use Rattle.books_model.specs.declared.reply.Reply.TheVariants as reply

-- one more value in front
pub after_values-push : (vs : List Value) (v : Value) (run : Run) → after_values (vs ++ v ∷ []) run ≡ after_values vs (after_value v run)
after_values-push vs v (Ends more books) = ap (λ values. Ends values books) (append_assoc vs (v ∷ []) more)
after_values-push vs v (Stops stop) = refl

-- more values in front
pub after_values-append : (vs ws : List Value) (run : Run) → after_values (vs ++ ws) run ≡ after_values vs (after_values ws run)
after_values-append vs ws (Ends more books) = ap (λ values. Ends values books) (append_assoc vs ws more)
after_values-append vs ws (Stops stop) = refl

-- no values in front
pub after_values-none : (run : Run) → after_values [] run ≡ run
after_values-none (Ends more books) = refl
after_values-none (Stops stop) = refl

-- values in front of a run that ends with none are its values
pub after_values-ends : (vs : List Value) (books : ClearingBooks) → after_values vs (Ends [] books) ≡ Ends vs books
after_values-ends vs books = ap (λ values. Ends values books) (append-nil vs)

-- a run that stops has no values
pub after_values-stops : (vs : List Value) (reply : Reply) → after_values vs (Stops reply) ≡ Stops reply
after_values-stops vs reply = refl

module _ (op : Op) (rest : List Op) (whole : Run) (values : List Value) (k : ℕ) (books : ClearingBooks)
    (so_far : after_values values (run_from k (op ∷ rest) books) ≡ whole) where
  -- the run of what is left begins with the step of its first operation
  from_step : (step : Step) → step_of op books ≡ step → after_values values (after_step k step (λ next. run_from (k + 1) rest next)) ≡ whole
  from_step step is = sym (ap (λ s. after_values values (after_step k s (λ next. run_from (k + 1) rest next))) is) ∙ so_far

  -- an operation that gives a value leads on
  pub goes_on : (v : Value) (after : ClearingBooks) → step_of op books ≡ Gives v after → after_values (values ++ v ∷ []) (run_from (k + 1) rest after) ≡ whole
  goes_on v after is = after_values-push values v _ ∙ from_step (Gives v after) is

  -- an operation that is declined stops the run
  pub is_declined : (why : Decline) → step_of op books ≡ Declines why → whole ≡ Stops (reply.Declined k why)
  is_declined why is = sym (from_step (Declines why) is) ∙ after_values-stops values _

  -- an operation that finds no block stops the run
  pub finds_no_block : step_of op books ≡ FindsNoBlock → whole ≡ Stops (reply.Full k)
  finds_no_block is = sym (from_step FindsNoBlock is) ∙ after_values-stops values _

-- the run ends if no operation is left
pub ends : (whole : Run) (values : List Value) (k : ℕ) (books : ClearingBooks) → after_values values (run_from k [] books) ≡ whole → whole ≡ Ends values books
ends whole values k books so_far = sym so_far ∙ after_values-ends values books

module _ (p : Part) (rest : List Part) (whole : Run) (values : List Value) (k : ℕ) (books : ClearingBooks)
    (so_far : after_values values (run_parts k (p ∷ rest) books) ≡ whole) where
  -- the run of what is left begins with that of its first part
  from_part : (run : Run) → run_part k p books ≡ run
      → after_values values (then_run run (λ next. run_parts (k + length (operations_in p)) rest next)) ≡ whole
  from_part run is = sym (ap (λ r. after_values values (then_run r (λ next. run_parts (k + length (operations_in p)) rest next))) is) ∙ so_far

  -- a part that comes to its end leads on
  pub part_ends : (more : List Value) (after : ClearingBooks) → run_part k p books ≡ Ends more after
      → after_values (values ++ more) (run_parts (k + length (operations_in p)) rest after) ≡ whole
  part_ends more after is = after_values-append values more _ ∙ from_part (Ends more after) is

  -- a part that is refused stops the run
  pub part_stops : (stop : Reply) → run_part k p books ≡ Stops stop → whole ≡ Stops stop
  part_stops stop is = sym (from_part (Stops stop) is)

-- the run ends if no part is left
pub parts_end : (whole : Run) (values : List Value) (k : ℕ) (books : ClearingBooks)
    → after_values values (run_parts k [] books) ≡ whole → whole ≡ Ends values books
parts_end whole values k books so_far = sym so_far ∙ after_values-ends values books

-- one value in front of a run
pub after_one : (v : Value) (run : Run) → after_values (v ∷ []) run ≡ after_value v run
after_one v (Ends more books) = refl
after_one v (Stops stop) = refl

-- parts that are operations alone are run as the operations
pub operations_alone : (k : ℕ) (ops : List Op) (books : ClearingBooks) → run_parts k (map part.One ops) books ≡ run_from k ops books
operations_alone k [] books = refl
operations_alone k (o ∷ ops) books = of_step (step_of o books) (λ next. operations_alone (k + 1) ops next) where
  of_step : (s : Step) → ((next : ClearingBooks) → run_parts (k + 1) (map part.One ops) next ≡ run_from (k + 1) ops next)
      → then_run (after_step k s (λ next. run_from (k + 1) [] next)) (λ next. run_parts (k + 1) (map part.One ops) next)
      ≡ after_step k s (λ next. run_from (k + 1) ops next)
  of_step (Gives v next) behind = after_one v _ ∙ ap (after_value v) (behind next)
  of_step (Declines why) behind = refl
  of_step FindsNoBlock behind = refl
