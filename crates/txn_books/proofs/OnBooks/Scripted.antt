-- The operations of a script one after another on words that stand for books, and what they come to together.
use Rattle.txn_books.proofs.Common.{◌≡◌, ◌≢◌, ℕ, ◌+◌, Bool, true, false, List, [], ◌∷◌, ◌++◌, length, Result, refl, sym, ap, ◌∙◌, subst, after, Begins, Fits}
use Rattle.txn_books.proofs.Common.{begins_refl, begins_trans, each_fresh, fits_begins, Op, Reply, ClearingBooks, Stops, Step, Gives, Declines, FindsNoBlock}
use Rattle.txn_books.proofs.Common.{step_of, after_values, run_from, run_parts, Stop, GoesOn, InEachState, LeadsTo, state_after, leads_then, BooksShape}
use Rattle.txn_books.proofs.Common.{Outcome, Stands, IsGoodFor, step_of_outcome, MeetsStep, ScriptMeans}
use Rattle.books_model.proofs.Common.{Run, Ends, after_step, run_part, outcome_from, operations_in}
use Rattle.std.proofs.Common.{append-nil}
use Rattle.history_model.specs.declared.shape.Shape.{Ghosts as Shapes}
use Rattle.books_model.specs.declared.script.Part.{Part}
use Rattle.books_model.specs.declared.reply.Value.{Value}
use Rattle.books_model.specs.declared.reply.Decline.{Decline}
use Rattle.books_model.specs.Interpreter.{either_of, outcome_of}
use Rattle.books_model.specs.Inner.Steps.{run_with}
use Rattle.books_model.proofs.Scripts.Runs.{after_one, goes_on, is_declined, finds_no_block, ends, part_ends, part_stops, parts_end}
use Rattle.txn_words.specs.declared.words.Words.{Ghosts as AnyWords}
use Rattle.txn_words.proofs.CallLaws.{leads_from_start, leads_marked}
use Rattle.txn_books.specs.Meaning.{is_done}
use Rattle.txn_books.specs.Inner.Scripts.{Runs, HandsOn}
use Rattle.txn_books.proofs.OnBooks.Calls.{leads_less}
use Rattle.txn_books.proofs.OnBooks.Turning.{Turns, Turned, turn_then, turned_less}
use Rattle.books_model.specs.declared.script.Part.TheVariants as part
use Rattle.books_model.specs.declared.reply.Value.TheVariants as value
use Rattle.books_model.specs.declared.reply.Reply.TheVariants as reply
use Rattle.txn_books.specs.declared.operations.Outcome.TheVariants as outcome

-- the values so far, and the run of what is left on the books as they are now, are the whole run
abbrev pub SoFar : (ClearingBooks → Run) → List Value → (ClearingBooks → Run) → ClearingBooks → ClearingBooks → Type 0
SoFar whole values rest books now = after_values values (rest now) ≡ whole books

-- a reply that is not Done stops the run
not_done : (answer : Reply) (after : ClearingBooks) → ((values : List Value) → answer ≢ reply.Done values) → run_with answer after ≡ Stops answer
not_done (reply.Done values) after refused = absurd (refused values refl)
not_done (reply.Declined k why) after refused = refl
not_done (reply.Full k) after refused = refl

-- a first branch that was done is the alternative
either_first : (run second : Run) (values : List Value) (after : ClearingBooks)
    → after_values (value.First ∷ []) run ≡ Ends values after → either_of run second ≡ Ends values after
either_first (Ends more books) second values after is = is
either_first (Stops stop) second values after is = absurd (cc)

-- one that was refused leaves it to the second
either_second : (run second : Run) (stop : Reply) → run ≡ Stops stop → after_values (value.Second ∷ []) second ≡ either_of run second
either_second run second stop is = after_one value.Second second ∙ sym (ap (λ r. either_of r second) is)

stopped : (run : Run) (answer : Reply) (after : ClearingBooks) → ((values : List Value) → answer ≢ reply.Done values)
    → after_values (value.First ∷ []) run ≡ run_with answer after → (stop : Reply) × (run ≡ Stops stop)
stopped (Ends more books) answer after refused is = absurd (let stops = is ∙ not_done answer after refused in cc)
stopped (Stops stop) answer after refused is = (stop, refl)

module _ {W S O : Type 0} {words : AnyWords W S O} {shapes : Shapes S} {shape : BooksShape} where
  -- all is left
  pub run_begins : (w : W) (whole rest : ClearingBooks → Run) (values : List Value)
      → ((books : ClearingBooks) → after_values values (rest books) ≡ whole books) → Turned words shapes shape w w (SoFar whole values rest)
  run_begins w whole rest values all = record {
    kept = refl;
    begins = begins_refl _;
    turns = record { at = λ s fit. record { at = λ books stand. (books, stand, all books) } };
  }

  -- taking a mark changes no books
  pub turned_marked : {u v : W} → words.shape v ≡ words.shape u → words.trace v ≡ words.trace u
      → Turned words shapes shape u v (λ books after. after ≡ books)
  turned_marked {u = u} {v = v} kept same = record {
    kept = kept;
    begins = ([], same ∙ sym (append-nil _));
    turns = record {
      at = λ s fit. record { at = λ books stand. (books, subst (λ t. Stands shape (after t s) books) (sym same) stand, refl) };
    };
  }

  -- what a run came to that was begun at a mark, with these values so far
  pub marked_runs : {u v w : W} {so_far values : List Value} {answer : Reply} (rest : ClearingBooks → Run)
      → words.shape v ≡ words.shape u → words.trace v ≡ words.trace u → so_far ≡ values
      → LeadsTo words shapes v w (Runs shape (λ books. after_values so_far (rest books)) answer)
      → LeadsTo words shapes u w (Runs shape (λ books. after_values values (rest books)) answer)
  marked_runs {u = u} {v = v} {w = w} {answer = answer} rest kept same named runs =
      leads_marked words shapes u v w _ kept same
      (subst (λ (vs : List Value). LeadsTo words shapes v w (Runs shape (λ books. after_values vs (rest books)) answer)) named runs)

  -- one change after another
  turned_then : {u v w : W} {R T : ClearingBooks → ClearingBooks → Type 0} → Turned words shapes shape u v R → Turned words shapes shape v w T
      → Turned words shapes shape u w (λ books last. (after : ClearingBooks) × R books after × T after last)
  turned_then {u = u} {v = v} {w = w} {R = R} {T = T} first second = record {
    kept = second.kept ∙ first.kept;
    begins = begins_trans _ _ _ first.begins second.begins;
    turns = leads_less
        (λ x z k. record {
          at = λ books stand.
              let here = k.1.at books stand in
              let last = k.2.at here.0 here.1 in
              (last.0, last.1, (here.0, here.2, last.2));
        })
        (leads_then words shapes u v w (Turns shape R) (Turns shape T) first.kept second.begins first.turns second.turns);
  }

module _ {W S O : Type 0} {words : AnyWords W S O} {shapes : Shapes S} {shape : BooksShape} {u v : W} where
  -- what an operation turns
  pub of_steps : {op : Op} {come : Outcome} → LeadsTo words shapes u v (MeetsStep shape op come)
      → LeadsTo words shapes u v (Turns shape (λ books after. step_of op books ≡ step_of_outcome come after))
  of_steps h = leads_less (λ x y k. record { at = λ books stand. let last = k.comes books stand in (last.0, last.2, last.1) }) h

  -- and what a run does
  of_runs : {run : ClearingBooks → Run} {answer : Reply} → LeadsTo words shapes u v (Runs shape run answer)
      → LeadsTo words shapes u v (Turns shape (λ books after. run books ≡ run_with answer after))
  of_runs h = leads_less (λ x y k. record { at = λ books stand. let last = k.comes books stand in (last.0, last.2, last.1) }) h

  -- books stand after changes
  pub turned_stands : {R : ClearingBooks → ClearingBooks → Type 0} → Turned words shapes shape u v R
      → InEachState words shapes u (IsGoodFor shape) → InEachState words shapes v (IsGoodFor shape)
  turned_stands {R = R} h stand = state_after words shapes u v (IsGoodFor shape) (IsGoodFor shape) (Turns shape R) h.kept h.begins stand h.turns
      (λ x y good k. let last = k.at good.0 good.1 in (last.0, last.1))

  -- a run, from what changes came to
  pub turned_runs : {run : ClearingBooks → Run} {answer : Reply} {R : ClearingBooks → ClearingBooks → Type 0} → Turned words shapes shape u v R
      → ((books after : ClearingBooks) → R books after → run books ≡ run_with answer after) → LeadsTo words shapes u v (Runs shape run answer)
  turned_runs h means = leads_less (λ x y k. record {
    comes = λ books stand. let last =
        k.at books stand in (last.0, means books last.0 last.2, last.1);
  }) h.turns

  -- no operation is left
  pub run_ends : {whole : ClearingBooks → Run} (values : List Value) (number : ℕ)
      → Turned words shapes shape u v (SoFar whole values (run_from number [])) → LeadsTo words shapes u v (Runs shape whole (reply.Done values))
  run_ends values number h = turned_runs h (λ books now so_far. ends _ values number now so_far)

  -- no part is left
  pub script_ends : {whole : ClearingBooks → Run} (values : List Value) (number : ℕ)
      → Turned words shapes shape u v (SoFar whole values (run_parts number [])) → LeadsTo words shapes u v (Runs shape whole (reply.Done values))
  script_ends values number h = turned_runs h (λ books now so_far. parts_end _ values number now so_far)

  -- the first branch was done
  pub first_done : (k : ℕ) (first second : List Op) (values : List Value)
      → LeadsTo words shapes u v (Runs shape (λ books. after_values (value.First ∷ []) (run_from k first books)) (reply.Done values))
      → LeadsTo words shapes u v (Runs shape (run_part k (part.Either first second)) (reply.Done values))
  first_done k first second values h = leads_less (λ x y runs. record {
    comes = λ books stand.
        let last = runs.comes books stand in
        (last.0, either_first (run_from k first books) (run_from (k + length first) second books) values last.0 last.1, last.2);
  }) h

  -- the first branch was refused, and its writes went back
  pub gone_back : {back : W} (k : ℕ) (first : List Op) (answer : Reply) → ((values : List Value) → answer ≢ reply.Done values)
      → LeadsTo words shapes u v (Runs shape (λ books. after_values (value.First ∷ []) (run_from k first books)) answer)
      → Begins (words.trace u) (words.trace v) → Begins (words.trace v) (words.trace back) → words.shape back ≡ words.shape u
      → LeadsTo words shapes u back (λ before now. now ≡ before)
      → Turned words shapes shape u back (λ books after. (after ≡ books) × ((stop : Reply) × (run_from k first books ≡ Stops stop)))
  gone_back {back = back} k first answer refused runs front behind kept same = record {
    kept = kept;
    begins = begins_trans _ _ _ front behind;
    turns = record {
      at = λ s fit.
          let there = runs.at s (fits_begins _ _ (words.trace v) (words.trace back) s behind fit) in
          let as_before = same.at s fit in
          record {
            at = λ books stand.
                let last = there.comes books stand in (
                  books,
                  subst (λ z. Stands shape z books) (sym as_before) stand,
                  (refl, stopped (run_from k first books) answer last.0 refused last.1),
                );
          };
    };
  }

module _ {W S O : Type 0} {words : AnyWords W S O} {shapes : Shapes S} {shape : BooksShape} {u v w : W} where
  -- and then the second was run
  pub second_ran : (k : ℕ) (first second : List Op) (answer : Reply)
      → Turned words shapes shape u v (λ books after. (after ≡ books) × ((stop : Reply) × (run_from k first books ≡ Stops stop)))
      → words.shape w ≡ words.shape v → Begins (words.trace v) (words.trace w)
      → LeadsTo words shapes v w (Runs shape (λ books. after_values (value.Second ∷ []) (run_from (k + length first) second books)) answer)
      → LeadsTo words shapes u w (Runs shape (run_part k (part.Either first second)) answer)
  second_ran k first second answer gone kept begins runs =
      turned_runs (turned_then gone (record { kept = kept; begins = begins; turns = of_runs runs }))
      (λ books last h.
      sym (either_second (run_from k first books) (run_from (k + length first) second books) h.1.1.0 h.1.1.1)
      ∙ ap (λ b. after_values (value.Second ∷ []) (run_from (k + length first) second b)) (sym h.1.0) ∙ h.2)

-- what a part of one operation comes to
one_of : (number : ℕ) (op : Op) (now : ClearingBooks) (step : Step) → step_of op now ≡ step
    → run_part number (part.One op) now ≡ after_step number step (λ next. run_from (number + 1) [] next)
one_of number op now step did = ap (λ s. after_step number s (λ next. run_from (number + 1) [] next)) did

module _ {W S O A : Type 0} {words : AnyWords W S O} {shapes : Shapes S} {shape : BooksShape} {u v w : W} {r : Result A Stop} {op : Op}
    (whole : ClearingBooks → Run) (values : List Value) (number : ℕ) (goes : GoesOn words v w r) where
  -- one operation more
  stepped : {come : Outcome} (here : ClearingBooks → Run) → Turned words shapes shape u v (SoFar whole values here)
      → LeadsTo words shapes v w (MeetsStep shape op come)
      → Turned words shapes shape u w (λ books last. (now : ClearingBooks) × SoFar whole values here books now × (step_of op now ≡ step_of_outcome come last))
  stepped here before steps = turn_then goes before (of_steps steps)

  module _ (rest : List Op) (before : Turned words shapes shape u v (SoFar whole values (run_from number (op ∷ rest)))) where
    -- it gives a value
    pub run_gives : {given : Value} → LeadsTo words shapes v w (MeetsStep shape op (outcome.Gives given))
        → Turned words shapes shape u w (SoFar whole (values ++ given ∷ []) (run_from (number + 1) rest))
    run_gives {given} steps = turned_less (stepped (run_from number (op ∷ rest)) before steps)
        (λ books last sized k. goes_on op rest _ values number k.0 k.1 given last k.2)

    -- it is declined
    pub run_declined : {why : Decline} → LeadsTo words shapes v w (MeetsStep shape op (outcome.Declines why))
        → LeadsTo words shapes u w (Runs shape whole (reply.Declined number why))
    run_declined {why} steps = turned_runs (stepped (run_from number (op ∷ rest)) before steps)
        (λ books last k. is_declined op rest _ values number k.0 k.1 why k.2)

    -- it finds no block
    pub run_full : LeadsTo words shapes v w (MeetsStep shape op outcome.FindsNoBlock) → LeadsTo words shapes u w (Runs shape whole (reply.Full number))
    run_full steps = turned_runs (stepped (run_from number (op ∷ rest)) before steps) (λ books last k. finds_no_block op rest _ values number k.0 k.1 k.2)

  module _ (rest : List Part) (before : Turned words shapes shape u v (SoFar whole values (run_parts number (part.One op ∷ rest)))) where
    -- it gives a value
    pub one_gives : {given : Value} → LeadsTo words shapes v w (MeetsStep shape op (outcome.Gives given))
        → Turned words shapes shape u w (SoFar whole (values ++ given ∷ []) (run_parts (number + 1) rest))
    one_gives {given} steps = turned_less (stepped (run_parts number (part.One op ∷ rest)) before steps) (λ books last sized k.
        part_ends (part.One op) rest _ values number k.0 k.1 (given ∷ []) last (one_of number op k.0 (Gives given last) k.2))

    -- it is declined
    pub one_declined : {why : Decline} → LeadsTo words shapes v w (MeetsStep shape op (outcome.Declines why))
        → LeadsTo words shapes u w (Runs shape whole (reply.Declined number why))
    one_declined {why} steps = turned_runs (stepped (run_parts number (part.One op ∷ rest)) before steps) (λ books last k.
        part_stops (part.One op) rest _ values number k.0 k.1 (reply.Declined number why) (one_of number op k.0 (Declines why) k.2))

    -- it finds no block
    pub one_full : LeadsTo words shapes v w (MeetsStep shape op outcome.FindsNoBlock) → LeadsTo words shapes u w (Runs shape whole (reply.Full number))
    one_full steps = turned_runs (stepped (run_parts number (part.One op ∷ rest)) before steps) (λ books last k.
        part_stops (part.One op) rest _ values number k.0 k.1 (reply.Full number) (one_of number op k.0 FindsNoBlock k.2))

module _ {W S O A : Type 0} {words : AnyWords W S O} {shapes : Shapes S} {shape : BooksShape} {u v w : W} {r : Result A Stop}
    (whole : ClearingBooks → Run) (values : List Value) (number : ℕ) (p : Part) (rest : List Part) (answer : Reply)
    (hands : HandsOn words v w r) (before : Turned words shapes shape u v (SoFar whole values (run_parts number (p ∷ rest))))
    (runs : LeadsTo words shapes v w (Runs shape (run_part number p) answer)) where
  -- one part more
  ran : Turned words shapes shape u w (λ books last. (now : ClearingBooks)
      × SoFar whole values (run_parts number (p ∷ rest)) books now × (run_part number p now ≡ run_with answer last))
  ran = turned_then before (record { kept = hands.shape; begins = hands.begins; turns = of_runs runs })

  -- it is done
  pub part_done : (more : List Value) → answer ≡ reply.Done more
      → Turned words shapes shape u w (SoFar whole (values ++ more) (run_parts (number + length (operations_in p)) rest))
  part_done more is = turned_less ran (λ books last sized k.
      part_ends p rest _ values number k.0 k.1 more last (k.2 ∙ ap (λ a. run_with a last) is))

  -- it is refused
  pub part_refused : ((values : List Value) → answer ≢ reply.Done values) → LeadsTo words shapes u w (Runs shape whole answer)
  part_refused refused = turned_runs ran (λ books last k.
      part_stops p rest _ values number k.0 k.1 answer (k.2 ∙ not_done answer last refused) ∙ sym (not_done answer last refused))

-- the reply of a run is the interpreter's
outcome_reply : (books after : ClearingBooks) (answer : Reply) → (outcome_from books (run_with answer after)).0 ≡ answer
outcome_reply books after (reply.Done values) = refl
outcome_reply books after (reply.Declined k why) = refl
outcome_reply books after (reply.Full k) = refl

-- and so are its books, if it was done
outcome_left : (books after : ClearingBooks) (answer : Reply) → is_done answer ≡ true → (outcome_from books (run_with answer after)).1 ≡ after
outcome_left books after (reply.Done values) is = refl
outcome_left books after (reply.Declined k why) is = cc
outcome_left books after (reply.Full k) is = cc

-- a run is what its script means
pub run_means : (shape : BooksShape) (script : List Part) (answer : Reply) (kept : Bool) (old new : List ℕ)
    → kept ≡ is_done answer → Runs shape (run_parts 1 script) answer old new → ScriptMeans shape script old kept answer new
run_means shape script answer kept old new where_done runs = record {
  replies = λ books stand.
      let last = runs.comes books stand in
      sym (ap (λ (run : Run). (outcome_from books run).0) last.1 ∙ outcome_reply books last.0 answer);
  kept_where_done = where_done;
  leaves = λ is_kept books stand.
      let last = runs.comes books stand in
      let left : (outcome_of script books).1 ≡ last.0 = ap (λ (run : Run). (outcome_from books run).1) last.1
      ∙ outcome_left books last.0 answer (sym where_done ∙ is_kept) in
      subst (λ z. Stands shape new z) (sym left) last.2;
}

-- a run that is not done leaves the books
run_stays : (books : ClearingBooks) (run : Run) → is_done (outcome_from books run).0 ≡ false → (outcome_from books run).1 ≡ books
run_stays books (Ends values after) is = cc
run_stays books (Stops stop) is = refl

-- words whose script is not kept stand for the interpreter's books as they are
pub refused_stands : (shape : BooksShape) (script : List Part) (words : List ℕ) (kept : Bool) (answer : Reply)
    (left : List ℕ) → ScriptMeans shape script words kept answer left → kept ≡ false
    → (books : ClearingBooks) → Stands shape words books → Stands shape words (outcome_of script books).1
refused_stands shape script words kept answer left means is_reverted books stand =
    let not_done : is_done (outcome_of script books).0 ≡ false = sym (ap is_done (means.replies books stand)) ∙ sym means.kept_where_done ∙ is_reverted in
    subst (λ z. Stands shape words z) (sym (run_stays books (run_parts 1 script books) not_done)) stand

module _ {W O : Type 0} (words : AnyWords W BooksShape O) (shapes : Shapes BooksShape) (shape : BooksShape) where
  -- before any event every state is good
  pub fresh_good : (w : W) → words.trace w ≡ [] → words.shape w ≡ shape → InEachState words shapes w (shapes.good shape)
  fresh_good w fresh e = subst (λ z. InEachState words shapes w (shapes.good z)) e (record { at = (each_fresh _ _ (words.trace w) fresh).at })

  module _ (v w : W) (fresh : words.trace v ≡ []) (e : words.shape v ≡ shape) where
    -- a run that began with no event, on each list that fits
    pub fresh_means : (script : List Part) (answer : Reply) (kept : Bool)
        → kept ≡ is_done answer → LeadsTo words shapes v w (Runs shape (run_parts 1 script) answer)
        → (s : List ℕ) → Fits (shapes.word_count shape) (shapes.good shape) (words.trace w) s → ScriptMeans shape script s kept answer (after (words.trace w) s)
    fresh_means script answer kept where_done runs s fit =
        run_means shape script answer kept s (after (words.trace w) s) where_done
        (leads_from_start words shapes v w (Runs shape (run_parts 1 script) answer) fresh runs s
        (subst (λ z. Fits (shapes.word_count z) (shapes.good z) (words.trace w) s) (sym e) fit))

    -- what it leaves is good
    pub fresh_leaves : (P : List ℕ → Type 0) → words.shape w ≡ words.shape v → InEachState words shapes w P
        → (s : List ℕ) → Fits (shapes.word_count shape) (shapes.good shape) (words.trace w) s → P (after (words.trace w) s)
    fresh_leaves P same stand s fit = stand.at s (subst (λ z. Fits (shapes.word_count z) (shapes.good z) (words.trace w) s) (sym (same ∙ e)) fit)
