-- What a script on words that stand for books means.
use Rattle.std.specs.Prelude.{◌≡◌, ℕ, Bool, true, false, List}
use Rattle.books_model.specs.declared.script.Part.{Part}
use Rattle.books_model.specs.declared.reply.Reply.{Reply}
use Rattle.books_model.specs.declared.reply.Reply.TheVariants as reply
use Rattle.books_model.specs.Books.{ClearingBooks, empty_books}
use Rattle.books_model.specs.Ranges.{IsScriptFor}
use Rattle.books_model.specs.Interpreter.{outcome_of}
use Rattle.txn_books.specs.declared.shape.BooksShape.{BooksShape}
use Rattle.txn_books.specs.Standing.{Stands}

-- a script on the words of books of a shape, with its number
pub record ScriptOn : Type 0 where
  pub shape : BooksShape
  pub script : List Part
  pub tag : ℕ

-- the numbers of a script are in their ranges, for books of these sizes
abbrev pub IsScriptIn : BooksShape → List Part → Type 0
IsScriptIn shape script = IsScriptFor (empty_books shape.blocks shape.instruments shape.ring) script

-- the script was done
abbrev pub is_done : Reply → Bool
is_done (reply.Done values) = true
is_done (reply.Declined k why) = false
is_done (reply.Full k) = false

-- what a script on these words means, for all books for which they stand: the reply is the interpreter's, the writes
-- are kept exactly if it was done, and then the words that are left stand for the interpreter's books
pub record ScriptMeans (shape : BooksShape) (script : List Part) (words : List ℕ) (kept : Bool) (answer : Reply)
    (left : List ℕ) : Type 0 where
  pub replies : (books : ClearingBooks) → Stands shape words books → answer ≡ (outcome_of script books).0
  pub kept_where_done : kept ≡ is_done answer
  pub leaves : kept ≡ true → (books : ClearingBooks) → Stands shape words books
      → Stands shape left (outcome_of script books).1
