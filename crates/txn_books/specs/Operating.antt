-- What an operation on words that stand for books comes to.
use Rattle.std.specs.Prelude.{◌≡◌, ℕ, List}
use Rattle.books_model.specs.declared.script.Op.{Op}
use Rattle.books_model.specs.Books.{ClearingBooks, empty_books}
use Rattle.books_model.specs.Ranges.{IsOperationFor}
use Rattle.books_model.specs.Interpreter.{Step, Gives, Declines, FindsNoBlock, step_of}
use Rattle.txn_books.specs.declared.shape.BooksShape.{BooksShape}
use Rattle.txn_books.specs.declared.operations.Outcome.{Outcome}
use Rattle.txn_books.specs.declared.operations.Outcome.TheVariants as outcome
use Rattle.txn_books.specs.Standing.{Stands}

-- the numbers of an operation are in their ranges, for books of these sizes
abbrev pub IsOperationIn : BooksShape → Op → Type 0
IsOperationIn shape op = IsOperationFor (empty_books shape.blocks shape.instruments shape.ring) op

-- the interpreter's step with this outcome, and these books after it if it gives a value
abbrev pub step_of_outcome : Outcome → ClearingBooks → Step
step_of_outcome (outcome.Gives v) after = Gives v after
step_of_outcome (outcome.Declines why) after = Declines why
step_of_outcome outcome.FindsNoBlock after = FindsNoBlock

-- from state to state: the outcome is the interpreter's, and the words then stand for the books that its step leaves;
-- if it is declined or finds no block, for some books of which nothing is said
pub record MeetsStep (shape : BooksShape) (op : Op) (outcome : Outcome) (old new : List ℕ) : Type 0 where
  pub comes : (books : ClearingBooks) → Stands shape old books
      → (after : ClearingBooks) × (step_of op books ≡ step_of_outcome outcome after) × Stands shape new after
