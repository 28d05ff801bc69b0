-- Several looks one after another: what the books say all that while, since none changes them.
use Rattle.txn_books.proofs.Common.{◌≡◌, ℕ, List, refl, sym, ◌∙◌, subst, Begins, InEachState, LeadsTo, state_after, leads_then, ClearingBooks, AreInRange}
use Rattle.txn_books.proofs.Common.{BooksShape, shape_of, Stands, IsGoodFor, Tells}
use Rattle.history_model.specs.declared.shape.Shape.{Ghosts as Shapes}
use Rattle.txn_words.specs.declared.words.Words.{Ghosts as AnyWords}
use Rattle.txn_books.proofs.OnBooks.Calls.{leads_less}

-- books of the shape's sizes, in range
abbrev pub IsSized : BooksShape → ClearingBooks → Type 0
IsSized shape books = (shape_of books ≡ shape) × AreInRange books

-- from state to state: nothing changes, and this was seen of the books
pub record Saw (shape : BooksShape) (P : ClearingBooks → Type 0) (old new : List ℕ) : Type 0 where
  pub same : new ≡ old
  pub saw : (books : ClearingBooks) → Stands shape old books → P books

module _ {W S O : Type 0} {words : AnyWords W S O} {shapes : Shapes S} {shape : BooksShape} where
  -- what was told was seen, and the other way round
  pub saw_told : {A : Type 0} {v w : W} {says : ClearingBooks → A} {answer : A}
      → LeadsTo words shapes v w (Tells (Stands shape) says answer) → LeadsTo words shapes v w (Saw shape (λ books. answer ≡ says books))
  saw_told h = leads_less (λ x y t. record { same = t.same; saw = t.told }) h

  pub told_saw : {A : Type 0} {v w : W} {says : ClearingBooks → A} {answer : A} {P : ClearingBooks → Type 0}
      → ((books : ClearingBooks) → IsSized shape books → P books → answer ≡ says books)
      → LeadsTo words shapes v w (Saw shape P) → LeadsTo words shapes v w (Tells (Stands shape) says answer)
  told_saw means h =
      leads_less (λ x y k. record { same = k.same; told = λ books stand. means books (stand.sizes, stand.range) (k.saw books stand) }) h

  -- before the first look
  pub saw_first : {v : W} {P : ClearingBooks → Type 0} → ((books : ClearingBooks) → IsSized shape books → P books) → LeadsTo words shapes v v (Saw shape P)
  saw_first first = record { at = λ s fit. record { same = refl; saw = λ books stand. first books (stand.sizes, stand.range) } }

  -- one more look
  pub saw_then : {u v w : W} {P Q R : ClearingBooks → Type 0} → words.shape v ≡ words.shape u
      → Begins (words.trace v) (words.trace w) → ((books : ClearingBooks) → IsSized shape books → P books → Q books → R books)
      → LeadsTo words shapes u v (Saw shape P) → LeadsTo words shapes v w (Saw shape Q) → LeadsTo words shapes u w (Saw shape R)
  saw_then {u} {v} {w} {P} {Q} e begins both first second = leads_less
      (λ x z k. record {
        same = k.2.same ∙ k.1.same;
        saw = λ books stand. both books (stand.sizes, stand.range) (k.1.saw books stand)
            (k.2.saw books (subst (λ y. Stands shape y books) (sym k.1.same) stand));
      })
      (leads_then words shapes u v w (Saw shape P) (Saw shape Q) e begins first second)

  -- books stand after looks
  pub saw_stands : {u v : W} {P : ClearingBooks → Type 0} → words.shape v ≡ words.shape u
      → Begins (words.trace u) (words.trace v) → InEachState words shapes u (IsGoodFor shape) → LeadsTo words shapes u v (Saw shape P)
      → InEachState words shapes v (IsGoodFor shape)
  saw_stands {u} {v} {P} e begins stand looks = state_after words shapes u v (IsGoodFor shape) (IsGoodFor shape) (Saw shape P)
      e begins stand looks (λ x y good k. subst (IsGoodFor shape) (sym k.same) good)
