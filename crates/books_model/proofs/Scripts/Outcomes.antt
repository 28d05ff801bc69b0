-- What holds of a step, and of the run of a script, wherever it is done.
use Rattle.books_model.proofs.Common.{◌≡◌, ◌≢◌, ℕ, ◌+◌, Bool, true, false, if◌then◌else◌, List, [], ◌∷◌, ◌++◌, length, refl, ap, subst, ◌∙◌, Op, Decline, Value}
use Rattle.books_model.proofs.Common.{Part, operations_in, Reply, ClearingBooks, Step, Gives, Declines, FindsNoBlock, Run, Ends, Stops, step_of, run_from}
use Rattle.books_model.proofs.Common.{run_part, run_parts, then_run, after_value, after_values, after_step, outcome_from}
use Rattle.books_model.specs.Interpreter.{either_of}
use Rattle.books_model.specs.declared.reply.Value.TheVariants as value
use Rattle.books_model.specs.declared.script.Part.TheVariants as part
use Rattle.books_model.specs.declared.reply.Reply.TheVariants as reply

-- what holds of the value and the books of a step that is done
pub WhereDone : (Value → ClearingBooks → Type 0) → Step → Type 0
WhereDone C (Gives v after) = C v after
WhereDone C (Declines why) = Unit {0}
WhereDone C FindsNoBlock = Unit {0}

-- a step that is done
pub gives : (C : Value → ClearingBooks → Type 0) (v : Value) (after : ClearingBooks) → C v after → WhereDone C (Gives v after)
unfolding WhereDone
gives C v after h = h

-- a step that is declined
pub declines : (C : Value → ClearingBooks → Type 0) (why : Decline) → WhereDone C (Declines why)
unfolding WhereDone
declines C why = tt

-- a step that finds no block
pub finds_no_block : (C : Value → ClearingBooks → Type 0) → WhereDone C FindsNoBlock
unfolding WhereDone
finds_no_block C = tt

-- a choice of steps
pub choice : (C : Value → ClearingBooks → Type 0) (b : Bool) (x y : Step) → (b ≡ true → WhereDone C x)
    → (b ≡ false → WhereDone C y) → WhereDone C (if b then x else y)
choice C true x y p q = p refl
choice C false x y p q = q refl

-- what holds if a step is done holds of its books
pub done : (C : Value → ClearingBooks → Type 0) (s : Step) (v : Value) (after : ClearingBooks) → WhereDone C s → s ≡ Gives v after → C v after
unfolding WhereDone
done C s v after h is = subst (WhereDone C) is h

-- what holds of the values and the books of a run that ends
abbrev pub WhereEnds : (List Value → ClearingBooks → Type 0) → Run → Type 0
WhereEnds C (Ends values after) = C values after
WhereEnds C (Stops stop) = Unit {0}

value_first : (C D : List Value → ClearingBooks → Type 0) (v : Value) (r : Run)
    → ((values : List Value) (after : ClearingBooks) → D values after → C (v ∷ values) after) → WhereEnds D r → WhereEnds C (after_value v r)
value_first C D v (Ends values after) f h = f values after h
value_first C D v (Stops stop) f h = tt

-- a step, and the run of what follows
pub step_first : (C : List Value → ClearingBooks → Type 0) (S : Value → ClearingBooks → Type 0) (k : ℕ) (s : Step)
    (follows : ClearingBooks → Run) → WhereDone S s
    → ((v : Value) (next : ClearingBooks) → S v next → (D : List Value → ClearingBooks → Type 0)
    × (WhereEnds D (follows next)) × ((values : List Value) (after : ClearingBooks) → D values after → C (v ∷ values) after))
    → WhereEnds C (after_step k s follows)
unfolding WhereDone
step_first C S k (Gives v next) follows h f = let g = f v next h in value_first C g.0 v (follows next) g.2 g.1
step_first C S k (Declines why) follows h f = tt
step_first C S k FindsNoBlock follows h f = tt

-- values in front of a run
values_first : (C : List Value → ClearingBooks → Type 0) (values : List Value) (r : Run)
    → WhereEnds (λ more after. C (values ++ more) after) r → WhereEnds C (after_values values r)
values_first C values (Ends more after) h = h
values_first C values (Stops stop) h = tt

-- a run, and what goes on from its books
pub run_first : (C S : List Value → ClearingBooks → Type 0) (r : Run) (follows : ClearingBooks → Run) → WhereEnds S r
    → ((values : List Value) (next : ClearingBooks) → S values next → WhereEnds (λ more after. C (values ++ more) after) (follows next))
    → WhereEnds C (then_run r follows)
run_first C S (Ends values next) follows h f = values_first C values (follows next) (f values next h)
run_first C S (Stops stop) follows h f = tt

-- an alternative, by what holds of its branches
pub either_holds : (C : List Value → ClearingBooks → Type 0) (r s : Run) → WhereEnds (λ values after. C (value.First ∷ values) after) r
    → WhereEnds (λ values after. C (value.Second ∷ values) after) s → WhereEnds C (either_of r s)
either_holds C (Ends values after) s h k = h
either_holds C (Stops stop) s h k = value_first C (λ values after. C (value.Second ∷ values) after) value.Second s (λ values after d. d) k

-- what follows from what holds if a run ends holds there
pub weaker : (C D : List Value → ClearingBooks → Type 0) (r : Run)
    → ((values : List Value) (after : ClearingBooks) → C values after → D values after) → WhereEnds C r → WhereEnds D r
weaker C D (Ends values after) f h = f values after h
weaker C D (Stops stop) f h = tt

-- two facts if a run ends
pub both : (C D : List Value → ClearingBooks → Type 0) (r : Run) → WhereEnds C r → WhereEnds D r → WhereEnds (λ values after. C values after × D values after) r
both C D (Ends values after) h k = (h, k)
both C D (Stops stop) h k = tt

-- the books after a run, or those before it if it stops
pub outcome_holds : (C : ClearingBooks → Type 0) (before : ClearingBooks) (r : Run) → C before → WhereEnds (λ _ after. C after) r → C (outcome_from before r).1
outcome_holds C before (Ends values after) h k = k
outcome_holds C before (Stops stop) h k = h

-- a run that stops has no values
pub stops_refused : (before : ClearingBooks) (r : Run)
    → ((values : List Value) → (outcome_from before r).0 ≢ reply.Done values) → (outcome_from before r).1 ≡ before
stops_refused before (Ends values after) refused = absurd (refused values refl)
stops_refused before (Stops stop) refused = refl

-- what holds if a run ends holds if its reply is Done, if no stop is
pub ends_done : (C : List Value → ClearingBooks → Type 0) (before : ClearingBooks) (r : Run) (values : List Value)
    (after : ClearingBooks) → WhereEnds C r → ((stop : Reply) → r ≡ Stops stop → stop ≢ reply.Done values)
    → outcome_from before r ≡ (reply.Done values, after) → C values after
ends_done C before (Ends found left) values after h no_stop is =
    let same : reply.Done found ≡ reply.Done values = ap (λ (p : Reply × ClearingBooks). p.0) is in
    let v : found ≡ values = cc in
    let b : left ≡ after = ap (λ (p : Reply × ClearingBooks). p.1) is in
    subst (C values) b (subst (λ vs. C vs left) v h)
ends_done C before (Stops stop) values after h no_stop is = absurd (no_stop stop refl (ap (λ (p : Reply × ClearingBooks). p.0) is))

-- a run that stops has a reply that is not Done
abbrev NoDone : Run → Type 0
NoDone r = (values : List Value) (stop : Reply) → r ≡ Stops stop → stop ≢ reply.Done values

no_done_refused : (stop : Reply) → ((values : List Value) → stop ≢ reply.Done values) → NoDone (Stops stop)
no_done_refused stop refused values other is = let same : stop ≡ other = cc in λ done. refused values (same ∙ done)

no_done_ends : (values : List Value) (after : ClearingBooks) → NoDone (Ends values after)
no_done_ends values after others stop is = absurd (cc)

value_no_done : (v : Value) (r : Run) → NoDone r → NoDone (after_value v r)
value_no_done v (Ends found after) h = no_done_ends (v ∷ found) after
value_no_done v (Stops stop) h = h

values_no_done : (vs : List Value) (r : Run) → NoDone r → NoDone (after_values vs r)
values_no_done vs (Ends found after) h = no_done_ends (vs ++ found) after
values_no_done vs (Stops stop) h = h

run_no_done : (k : ℕ) (ops : List Op) (books : ClearingBooks) → NoDone (run_from k ops books)
run_no_done k [] books = no_done_ends [] books
run_no_done k (o ∷ ops) books = of_step (step_of o books) (λ next. run_no_done (k + 1) ops next) where
  of_step : (s : Step) → ((next : ClearingBooks) → NoDone (run_from (k + 1) ops next)) → NoDone (after_step k s (λ next. run_from (k + 1) ops next))
  of_step (Gives v next) behind = value_no_done v _ (behind next)
  of_step (Declines why) behind = no_done_refused (reply.Declined k why) (λ values is. cc)
  of_step FindsNoBlock behind = no_done_refused (reply.Full k) (λ values is. cc)

either_no_done : (r s : Run) → NoDone s → NoDone (either_of r s)
either_no_done (Ends values after) s h = no_done_ends (value.First ∷ values) after
either_no_done (Stops stop) s h = value_no_done value.Second s h

part_no_done : (k : ℕ) (p : Part) (books : ClearingBooks) → NoDone (run_part k p books)
part_no_done k (part.One o) books = run_no_done k (o ∷ []) books
part_no_done k (part.Either first second) books = either_no_done _ _ (run_no_done (k + length first) second books)

pub stops_no_done : (k : ℕ) (parts : List Part) (books : ClearingBooks) → NoDone (run_parts k parts books)
stops_no_done k [] books = no_done_ends [] books
stops_no_done k (p ∷ parts) books =
    of_run (run_part k p books) (part_no_done k p books) (λ next. stops_no_done (k + length (operations_in p)) parts next) where
      of_run : (r : Run) → NoDone r → ((next : ClearingBooks) → NoDone (run_parts (k + length (operations_in p)) parts next))
          → NoDone (then_run r (λ next. run_parts (k + length (operations_in p)) parts next))
      of_run (Ends values next) h behind = values_no_done values _ (behind next)
      of_run (Stops stop) h behind = h
