-- The interpreter, run down the items of a day: by the lemma for every store it replies what they reply, and the words before
-- and after each stand for its books.
use Rattle.worker_pool.proofs.Common.{◌≡◌, ◌≢◌, ℕ, ◌≤◌, Bool, true, false, List, [], ◌∷◌, map, length, take, refl, sym, ap, ◌∙◌, subst, script_at, IsGood}
use Rattle.worker_pool.proofs.Common.{replay, Reply, RefusedChangesNothing, ClearingInput, books_after, BooksShape, words_of, IsGoodFor, Stands, ScriptMeans}
use Rattle.worker_pool.proofs.Common.{IsRunInOrder, ClosedView, Done, places_of_items}
use Rattle.books_model.proofs.Common.{ClearingBooks}
use Rattle.books_report.proofs.Common.{outcome_of}
use Rattle.std.proofs.Common.{true≢false}
use Rattle.books_model.specs.declared.reply.Value.{Value}
use Rattle.books_report.specs.Output.{replies_of}
use Rattle.txn_books.specs.Meaning.{is_done}
use Rattle.txn_commit.proofs.Orders.Interpreters.{answers_down, state_down, IsInterpreterStep}
use Rattle.txn_commit.proofs.Orders.Stores.{all_answers, at_the_end, runs_to}
use Rattle.books_model.specs.declared.reply.Reply.TheVariants as reply

not_done : (answer : Reply) → is_done answer ≡ false → (r : Reply) → answer ≡ r → (values : List Value) → r ≢ reply.Done values
not_done answer refusal r same values e = let done : is_done answer ≡ true = ap is_done (same ∙ e) in absurd (true≢false (sym done ∙ refusal))

module _ (input : ClearingInput) (shape : BooksShape) where
  abbrev pub Means : ℕ → ℕ → List ℕ → Bool → Reply → List ℕ → Type 0
  Means c i = ScriptMeans shape (script_at input.callers c i)

  abbrev replied : ℕ → ℕ → ClearingBooks → Reply
  replied c i books = (outcome_of (script_at input.callers c i) books).0

  abbrev left : ℕ → ℕ → ClearingBooks → ClearingBooks
  left c i books = (outcome_of (script_at input.callers c i) books).1

  -- a script is a step of the interpreter
  is_step : RefusedChangesNothing → IsInterpreterStep Means (Stands shape) replied left
  is_step refused = record {
    replies = λ c i s t kept answer books means stands. means.replies books stands;
    keeps = λ c i s t kept answer books means stands is. means.leaves is books stands;
    reverts = λ c i s t kept answer books means stands is.
        refused (script_at input.callers c i) books (not_done answer (sym means.kept_where_done ∙ is) (replied c i books) (means.replies books stands));
  }

  replies_down : (done : List Done) (books : ClearingBooks) → answers_down replied left done books ≡ replies_of input books (places_of_items done)
  unfolding answers_down
  replies_down [] books = refl
  replies_down (item ∷ done) books = ap (λ rs. replied item.caller item.index books ∷ rs) (replies_down done (left item.caller item.index books))

  books_down : (done : List Done) (books : ClearingBooks) → state_down left done books ≡ books_after input books (places_of_items done)
  unfolding state_down
  books_down [] books = refl
  books_down (item ∷ done) books = books_down done (left item.caller item.index books)

  module _ (refused : RefusedChangesNothing) (closed : ClosedView BooksShape) (done : List Done)
      (run : IsRunInOrder (IsGood (words_of shape) (IsGoodFor shape)) Means closed done) (opening : Stands shape closed.base input.books) where
    pub replies_are : map (λ (item : Done). item.reply) done ≡ replies_of input input.books (places_of_items done)
    replies_are = all_answers (IsGood (words_of shape) (IsGoodFor shape)) Means closed done run (Stands shape) replied left (is_step refused) input.books
        opening
        ∙ replies_down done input.books

    pub stands_after : (k : ℕ) → k ≤ length done
        → Stands shape (replay closed.base (take k run.entries)) (books_after input input.books (places_of_items (take k done)))
    stands_after k le = subst (λ books. Stands shape (replay closed.base (take k run.entries)) books)
        (books_down (take k done) input.books)
        (runs_to (IsGood (words_of shape) (IsGoodFor shape)) Means closed done run (Stands shape) replied left (is_step refused) input.books
        opening k le).state

    pub stands_closed : Stands shape closed.words (books_after input input.books (places_of_items done))
    stands_closed = subst (λ books. Stands shape closed.words books) (books_down done input.books)
        (at_the_end (IsGood (words_of shape) (IsGoodFor shape)) Means closed done run (Stands shape) replied left (is_step refused) input.books
        opening)
