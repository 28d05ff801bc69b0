-- Calls on books one after another, first looks and then changes, and what an operation that makes them comes to.
use Rattle.txn_books.proofs.Common.{◌≡◌, ℕ, Bool, not, List, Result, if◌then◌else◌, refl, sym, ◌∙◌, subst, Begins, begins_refl, begins_trans, Op, ClearingBooks}
use Rattle.txn_books.proofs.Common.{step_of, Stop, GoesOn, InEachState, LeadsTo, state_after, leads_then, BooksShape, Outcome, Stands, IsGoodFor, OfModel}
use Rattle.txn_books.proofs.Common.{Tells, Changes, ChangesWithRoom, TellsAndChanges, step_of_outcome, MeetsStep}
use Rattle.history_model.specs.declared.shape.Shape.{Ghosts as Shapes}
use Rattle.txn_words.specs.declared.words.Words.{Ghosts as AnyWords}
use Rattle.txn_books.proofs.OnBooks.Calls.{leads_less}
use Rattle.txn_books.proofs.OnBooks.Looking.{IsSized, Saw, saw_first, saw_told, saw_then, told_saw}
use Rattle.txn_books.proofs.OneState.Whole.{one_books}

-- from state to state: whatever books the words stood for, they stand for some that R leads to
pub record Turns (shape : BooksShape) (R : ClearingBooks → ClearingBooks → Type 0) (old new : List ℕ) : Type 0 where
  pub at : (books : ClearingBooks) → Stands shape old books → (after : ClearingBooks) × Stands shape new after × R books after

module _ {W S O : Type 0} (words : AnyWords W S O) (shapes : Shapes S) (shape : BooksShape) where
  -- calls led from v to w, and saw this of the books
  pub record Looked (v w : W) (P : ClearingBooks → Type 0) : Type 0 where
    pub kept : words.shape w ≡ words.shape v
    pub begins : Begins (words.trace v) (words.trace w)
    pub saw : LeadsTo words shapes v w (Saw shape P)

  -- calls led from v to w, and the books from one side of R to the other
  pub record Turned (v w : W) (R : ClearingBooks → ClearingBooks → Type 0) : Type 0 where
    pub kept : words.shape w ≡ words.shape v
    pub begins : Begins (words.trace v) (words.trace w)
    pub turns : LeadsTo words shapes v w (Turns shape R)

module _ {W S O : Type 0} {words : AnyWords W S O} {shapes : Shapes S} {shape : BooksShape} {v : W} where
  -- before any call
  pub unlooked : Looked words shapes shape v v (λ _. Unit {0})
  unlooked = record { kept = refl; begins = begins_refl _; saw = saw_first (λ books sized. tt) }

  -- what is known before any call
  pub known : {P : ClearingBooks → Type 0} → InEachState words shapes v (OfModel (Stands shape) P) → Looked words shapes shape v v P
  known each = record { kept = refl; begins = begins_refl _; saw = record { at = λ s fit. record { same = refl; saw = each.at s fit } } }

module _ {W S O A : Type 0} {words : AnyWords W S O} {shapes : Shapes S} {shape : BooksShape} {v w : W} {r : Result A Stop} (goes : GoesOn words v w r) where
  -- the first look
  pub looked : {B : Type 0} {says : ClearingBooks → B} {answer : B}
      → LeadsTo words shapes v w (Tells (Stands shape) says answer) → Looked words shapes shape v w (λ books. answer ≡ says books)
  looked told = record { kept = goes.shape; begins = goes.begins; saw = saw_told told }

  -- one look more
  pub look_then : {B : Type 0} {u : W} {P : ClearingBooks → Type 0} {says : ClearingBooks → B} {answer : B}
      → Looked words shapes shape u v P → LeadsTo words shapes v w (Tells (Stands shape) says answer)
      → Looked words shapes shape u w (λ books. P books × (answer ≡ says books))
  look_then {P = P} {says = says} {answer = answer} before told = record {
    kept = goes.shape ∙ before.kept;
    begins = begins_trans _ _ _ before.begins goes.begins;
    saw = saw_then before.kept goes.begins
        (λ books sized p q. (p, q)) before.saw (saw_told told);
  }

  -- a first change
  pub turned : {R : ClearingBooks → ClearingBooks → Type 0} → LeadsTo words shapes v w (Turns shape R) → Turned words shapes shape v w R
  turned turns = record { kept = goes.shape; begins = goes.begins; turns = turns }

  -- a change after looks
  pub look_turn : {u : W} {P : ClearingBooks → Type 0} {R : ClearingBooks → ClearingBooks → Type 0}
      → Looked words shapes shape u v P → LeadsTo words shapes v w (Turns shape R)
      → Turned words shapes shape u w (λ books after. P books × R books after)
  look_turn {u = u} {P = P} {R = R} before turns = record {
    kept = goes.shape ∙ before.kept;
    begins = begins_trans _ _ _ before.begins goes.begins;
    turns = leads_less
        (λ x z k. record {
          at = λ books stand.
              let last = k.2.at books (subst (λ y. Stands shape y books) (sym k.1.same) stand) in
              (last.0, last.1, (k.1.saw books stand, last.2));
        })
        (leads_then words shapes u v w (Saw shape P) (Turns shape R) before.kept goes.begins before.saw turns);
  }

  -- one change after another
  pub turn_then : {u : W} {R T : ClearingBooks → ClearingBooks → Type 0} → Turned words shapes shape u v R → LeadsTo words shapes v w (Turns shape T)
      → Turned words shapes shape u w (λ books last. (after : ClearingBooks) × R books after × T after last)
  turn_then {u = u} {R = R} {T = T} before turns = record {
    kept = goes.shape ∙ before.kept;
    begins = begins_trans _ _ _ before.begins goes.begins;
    turns = leads_less
        (λ x z k. record {
          at = λ books stand.
              let first = k.1.at books stand in
              let last = k.2.at first.0 first.1 in
              (last.0, last.1, (first.0, first.2, last.2));
        })
        (leads_then words shapes u v w (Turns shape R) (Turns shape T) before.kept goes.begins before.turns turns);
  }

module _ {W S O : Type 0} {words : AnyWords W S O} {shapes : Shapes S} {shape : BooksShape} {v w : W} where
  -- what each kind of change turns
  pub of_change : {change : ClearingBooks → ClearingBooks} → LeadsTo words shapes v w (Changes (Stands shape) change)
      → LeadsTo words shapes v w (Turns shape (λ books after. after ≡ change books))
  of_change {change = change} h = leads_less (λ x y c. record { at = λ books stand. (change books, c books stand, refl) }) h

  pub of_room : {lacks : ClearingBooks → Bool} {change : ClearingBooks → ClearingBooks} {had_room : Bool}
      → LeadsTo words shapes v w (ChangesWithRoom (Stands shape) lacks change had_room)
      → LeadsTo words shapes v w (Turns shape (λ books after. (had_room ≡ not (lacks books)) × (after ≡ (if had_room then change books else books))))
  of_room {change = change} {had_room = had_room} h =
      leads_less
      (λ x y c. record { at = λ books stand. ((if had_room then change books else books), c.left books stand, (c.answer books stand, refl)) }) h

  pub of_taking : {A : Type 0} {says : ClearingBooks → A} {change : ClearingBooks → ClearingBooks} {answer : A}
      → LeadsTo words shapes v w (TellsAndChanges (Stands shape) says change answer)
      → LeadsTo words shapes v w (Turns shape (λ books after. (answer ≡ says books) × (after ≡ change books)))
  of_taking {change = change} h =
      leads_less (λ x y c. record { at = λ books stand. (change books, c.left books stand, (c.told books stand, refl)) }) h

  -- what looks tell together
  pub tells : {A : Type 0} {says : ClearingBooks → A} {answer : A} {P : ClearingBooks → Type 0}
      → Looked words shapes shape v w P → ((books : ClearingBooks) → IsSized shape books → P books → answer ≡ says books)
      → LeadsTo words shapes v w (Tells (Stands shape) says answer)
  tells {says = says} {answer = answer} {P = P} h means = told_saw means h.saw

  -- less of what looks saw
  pub looked_less : {P Q : ClearingBooks → Type 0} → Looked words shapes shape v w P
      → ((books : ClearingBooks) → IsSized shape books → P books → Q books) → Looked words shapes shape v w Q
  looked_less h less = record {
    kept = h.kept;
    begins = h.begins;
    saw = leads_less
        (λ x y k. record { same = k.same; saw = λ books stand. less books (stand.sizes, stand.range) (k.saw books stand) }) h.saw;
  }

  -- less of what changes did
  pub turned_less : {R T : ClearingBooks → ClearingBooks → Type 0} → Turned words shapes shape v w R
      → ((books after : ClearingBooks) → IsSized shape books → R books after → T books after) → Turned words shapes shape v w T
  turned_less h less = record {
    kept = h.kept;
    begins = h.begins;
    turns = leads_less
        (λ x y k. record { at = λ books stand. let last = k.at books stand in (last.0, last.1, less books last.0 (stand.sizes, stand.range) last.2) }) h.turns;
  }

  -- an operation that only looked
  pub answers : {op : Op} {outcome : Outcome} {P : ClearingBooks → Type 0} → Looked words shapes shape v w P
      → ((books : ClearingBooks) → IsSized shape books → P books → step_of op books ≡ step_of_outcome outcome books)
      → LeadsTo words shapes v w (MeetsStep shape op outcome)
  answers h means = leads_less
      (λ x y k. record {
        comes = λ books stand. (
          books,
          means books (stand.sizes, stand.range) (k.saw books stand),
          subst (λ z. Stands shape z books) (sym k.same) stand,
        );
      }) h.saw

  -- an operation that changed the books
  pub comes : {op : Op} {outcome : Outcome} {R : ClearingBooks → ClearingBooks → Type 0} → Turned words shapes shape v w R
      → ((books after : ClearingBooks) → IsSized shape books → R books after
      → step_of op books ≡ step_of_outcome outcome after) → LeadsTo words shapes v w (MeetsStep shape op outcome)
  comes h means = leads_less
      (λ x y k. record { comes = λ books stand. let last = k.at books stand in (last.0, means books last.0 (stand.sizes, stand.range) last.2, last.1) }) h.turns

  -- what was seen holds of the books that stand after looks
  pub each_looked : {P Q : ClearingBooks → Type 0} → Looked words shapes shape v w P
      → InEachState words shapes v (IsGoodFor shape) → ((books : ClearingBooks) → IsSized shape books → P books → Q books)
      → InEachState words shapes w (OfModel (Stands shape) Q)
  each_looked {P = P} {Q = Q} h stand means =
      state_after words shapes v w (IsGoodFor shape) (OfModel (Stands shape) Q) (Saw shape P) h.kept h.begins stand h.saw
      (λ x y good k books there. means books (there.sizes, there.range) (k.saw books (subst (λ z. Stands shape z books) k.same there)))

  -- and of those that stand after a change, what R says of them
  pub each_turned : {R : ClearingBooks → ClearingBooks → Type 0} {Q : ClearingBooks → Type 0}
      → Turned words shapes shape v w R → InEachState words shapes v (IsGoodFor shape)
      → ((books after : ClearingBooks) → IsSized shape books → R books after → Q after) → InEachState words shapes w (OfModel (Stands shape) Q)
  each_turned {R = R} {Q = Q} h stand means =
      state_after words shapes v w (IsGoodFor shape) (OfModel (Stands shape) Q) (Turns shape R) h.kept h.begins stand h.turns
      (λ x y good k others there.
      let last = k.at good.0 good.1 in
      subst Q (one_books shape y last.0 others last.1 there) (means good.0 last.0 (good.1.sizes, good.1.range) last.2))
