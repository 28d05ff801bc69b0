-- Scripts of a generated day, one after the other.
use Rattle.input_maker.proofs.Common.{ap, ◌≡◌, ◌≢◌, ℕ, ◌+◌, ◌*◌, ◌≤◌, Bool, true, false, List, [], ◌∷◌, length, sum_by, refl, sym, subst, ◌∙◌, true≢false}
use Rattle.input_maker.proofs.Common.{arith, AllByRecursion, sum_by-cons, script_at, GREATEST_CASH, Op, Part, operations_of, Value, ClearingBooks, AreInRange}
use Rattle.input_maker.proofs.Common.{IsOperationFor, Step, Gives, Declines, FindsNoBlock, step_of, outcome_of, all_cash, all_held, ClearingInput, Place}
use Rattle.input_maker.proofs.Common.{books_after, sums-same, made_books, all_quantities, deposits_in, deposits_of, paid_in_by}
use Rattle.books_model.proofs.Common.{HaveSameSizes, Run, Ends, Stops, run_from, after_value, after_step, outcome_from, run_parts}
use Rattle.books_report.proofs.Common.{books_left}
use Rattle.books_model.proofs.Scripts.Runs.{operations_alone}
use Rattle.books_model.specs.declared.reply.Reply.{Reply}
use Rattle.books_model.proofs.Scripts.Outcomes.{WhereEnds}
use Rattle.books_model.proofs.Scripts.RangeLaws.{operation_for, run_stays}
use Rattle.books_model.proofs.Scripts.SizeLaws.{run_keeps}
use Rattle.input_maker.proofs.Rooms.{AreOfDay, quantities_together}
use Rattle.input_maker.proofs.Making.{IsMade, IsMadeScript, IsMadeOnce, operation_fits, pays_little, deposits_most, deposits_none}
use Rattle.input_maker.proofs.Steps.{Goes, Follow, step_goes}
use Rattle.books_model.specs.declared.reply.Reply.TheVariants as reply

-- other books of the day, with so much more cash and the same quantities
pub record Leave (paid : ℕ) (books after : ClearingBooks) : Type 0 where
  pub day : AreOfDay after
  pub cash : all_cash after ≡ all_cash books + paid
  pub quantities : all_quantities after ≡ all_quantities books

-- the same books
leave_all : {books : ClearingBooks} → AreOfDay books → Leave 0 books books
leave_all h = record { day = h; cash = omega arith; quantities = refl }

-- others, and then others again
leave_both : {paid more all : ℕ} {books next after : ClearingBooks} → Leave paid books next → Leave more next after → all ≡ paid + more → Leave all books after
leave_both f g is = record { day = g.day; cash = omega (arith, f.cash, g.cash, is); quantities = g.quantities ∙ f.quantities }

-- an operation that is done leaves books of the day
step_leaves : (books : ClearingBooks) (o : Op) (v : Value) (next : ClearingBooks) → AreOfDay books
    → IsOperationFor made_books o → step_of o books ≡ Gives v next → Follow o books next → Leave (paid_in_by o) books next
step_leaves books o v next h fits is f = record {
  day = day;
  cash = f.cash;
  quantities = quantities_together day ∙ sums-same 9 (all_held next) (all_held books) (λ i less. f.held i) ∙ sym (quantities_together h);
}
  where
    sizes : HaveSameSizes books next
    sizes = subst (λ s. WhereEnds (λ _ after. HaveSameSizes books after) (after_step 1 s (λ next. run_from 2 [] next))) is (run_keeps 1 (o ∷ []) books)

    day : AreOfDay next
    day = record {
      range = subst (λ s. WhereEnds (λ _ after. AreInRange after) (after_step 1 s (λ next. run_from 2 [] next))) is
          (run_stays 1 (o ∷ []) books h.range (operation_for made_books books h.instruments o fits, tt));
      blocks = sizes.blocks ∙ h.blocks;
      instruments = sizes.instruments ∙ h.instruments;
      accounts = f.accounts;
    }

-- the run ends and leaves such books, or it stops, which one of the first kind does not, and not for want of a block
abbrev RunGoes : Bool → (ClearingBooks → Type 0) → Run → Type 0
RunGoes first C (Ends values after) = C after
RunGoes first C (Stops stop) = (first ≡ false) × ((k : ℕ) → stop ≢ reply.Full k)

-- a value in front of those of a run
value_goes : (first : Bool) (C D : ClearingBooks → Type 0) (v : Value) (r : Run) → RunGoes first D r
    → ((after : ClearingBooks) → D after → C after) → RunGoes first C (after_value v r)
value_goes first C D v (Ends values after) h f = f after h
value_goes first C D v (Stops stop) h f = h

-- the run of what is left of a made script
run_goes : (first : Bool) (k : ℕ) (ops : List Op) {books : ClearingBooks} → AreOfDay books
    → all_cash books + length ops * 100 ≤ GREATEST_CASH → AllByRecursion (IsMade first) ops
    → RunGoes first (Leave (deposits_in ops) books) (run_from k ops books)
unfolding Goes
run_goes first k [] h room each = leave_all h
run_goes first k (o ∷ ops) {books} h room each =
    by (step_of o books) refl (step_goes h (omega (arith, room)) each.0) (λ next day enough. run_goes first (k + 1) ops day enough each.1)
  where
    by : (s : Step) → step_of o books ≡ s → Goes first (Follow o books) s
        → ((next : ClearingBooks) → AreOfDay next → all_cash next + length ops * 100 ≤ GREATEST_CASH
        → RunGoes first (Leave (deposits_in ops) next) (run_from (k + 1) ops next))
        → RunGoes first (Leave (deposits_in (o ∷ ops)) books) (after_step k s (λ next. run_from (k + 1) ops next))
    by (Gives v next) is g rest =
        let left = step_leaves books o v next h (operation_fits each.0) is g in
        value_goes first (Leave (deposits_in (o ∷ ops)) books) (Leave (deposits_in ops) next) v (run_from (k + 1) ops next)
        (rest next left.day (omega (arith, room, left.cash, pays_little first o each.0)))
        (λ after more. leave_both left more (sum_by-cons paid_in_by o ops))
    by (Declines why) is g rest = (g, λ j e. cc)
    by FindsNoBlock is g rest = absurd g

-- what a script replies and leaves: one of the first kind is done, and none finds no block
pub record IsOutcome (first : Bool) (paid : ℕ) (books : ClearingBooks) (outcome : Reply × ClearingBooks) : Type 0 where
  pub left : Leave paid books outcome.1
  pub done : first ≡ true → (values : List Value) × (outcome.0 ≡ reply.Done values)
  pub not_full : (k : ℕ) → outcome.0 ≢ reply.Full k

-- the outcome of a run
run_outcome : {first : Bool} {paid : ℕ} {books : ClearingBooks} (r : Run) → AreOfDay books → (first ≡ false → paid ≡ 0)
    → RunGoes first (Leave paid books) r → IsOutcome first paid books (outcome_from books r)
run_outcome (Ends values after) h none g = record { left = g; done = λ _. (values, refl); not_full = λ k e. cc }
run_outcome {books} (Stops stop) h none g = record {
  left = subst (λ n. Leave n books books) (sym (none g.0)) (leave_all h);
  done = λ yes. absurd (true≢false (sym yes ∙ g.0));
  not_full = g.1;
}

-- a made script
pub script_goes : {first : Bool} {script : List Part} {books : ClearingBooks} → AreOfDay books
    → all_cash books + 300 ≤ GREATEST_CASH → IsMadeScript first script → IsOutcome first (deposits_of script) books (outcome_of script books)
script_goes {first} {script} {books} h room m =
    run_outcome (run_parts 1 script books) h (deposits_none first (operations_of script) m.each)
    (subst (RunGoes first (Leave (deposits_of script) books))
    (sym (ap (λ parts. run_parts 1 parts books) m.alone ∙ operations_alone 1 (operations_of script) books))
    (run_goes first 1 (operations_of script) h (omega (arith, room, m.few)) m.each))

module _ (input : ClearingInput) where
  -- the deposits of the script at a place
  abbrev pub deposits_at : Place → ℕ
  deposits_at place = deposits_of (script_at input.callers place.caller place.index)

  -- made scripts, one after the other
  pub scripts_leave : (books : ClearingBooks) (places : List Place)
      → AllByRecursion (λ p. IsMadeOnce (script_at input.callers p.caller p.index)) places → AreOfDay books
      → all_cash books + length places * 300 ≤ GREATEST_CASH
      → Leave (sum_by deposits_at places) books (books_after input books places)
  scripts_leave books [] each h room = leave_all h
  scripts_leave books (p ∷ places) each h room =
      let made = each.0 in
      let script = script_at input.callers p.caller p.index in
      let left = (script_goes h (omega (arith, room)) made.1).left in
      let more = scripts_leave (books_left input books p) places each.1 left.day (omega (arith, room, left.cash, deposits_most made.1)) in
      leave_both
      left more (sum_by-cons deposits_at p places)
