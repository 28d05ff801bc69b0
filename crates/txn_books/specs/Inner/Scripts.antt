-- What a script, or a branch of it, comes to, and what a call leaves that may find no memory of its own.
use Rattle.std.specs.Prelude.{◌≡◌, ◌↔◌, ℕ, List, None, Some, Result, Err, OnOk}
use Rattle.history_model.specs.Traces.{Begins}
use Rattle.books_model.specs.declared.reply.Reply.{Reply}
use Rattle.books_model.specs.Books.{ClearingBooks}
use Rattle.books_model.specs.Interpreter.{Run}
use Rattle.books_model.specs.Inner.Steps.{run_with}
use Rattle.txn_words.specs.declared.words.Stop.{Stop}
use Rattle.txn_words.specs.declared.words.Stop.TheVariants.{Yield}
use Rattle.txn_words.specs.declared.words.Words.{Ghosts as AnyWords}
use Rattle.txn_books.specs.declared.shape.BooksShape.{BooksShape}
use Rattle.txn_books.specs.Standing.{Stands}

-- from state to state: the interpreter's run on the books ends with this reply, and the words then stand for the books
-- that it leaves; if an operation is refused, for some books of which nothing is said
pub record Runs (shape : BooksShape) (run : ClearingBooks → Run) (answer : Reply) (old new : List ℕ) : Type 0 where
  pub comes : (books : ClearingBooks) → Stands shape old books → (after : ClearingBooks)
      × (run books ≡ run_with answer after) × Stands shape new after

-- what a call on words leaves that may find no memory of its own: it goes on to the end unless the words stop, and
-- yields exactly if they do
pub record HandsOn {W S O A : Type 0} (words : AnyWords W S O) (old new : W) (result : Result A Stop) : Type 0 where
  pub shape : words.shape new ≡ words.shape old
  pub origin : words.origin new ≡ words.origin old
  pub begins : Begins (words.trace old) (words.trace new)
  pub done : OnOk result (words.stop new ≡ None)
  pub yields : (result ≡ Err Yield) ↔ (words.stop new ≡ Some Yield)
  pub sound : words.is_sound new
