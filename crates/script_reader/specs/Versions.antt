-- What the version of a text decides: a word of its header, and the ranges of three kinds of number. All else is the same.
use Rattle.std.specs.Prelude.{◌≡◌, ℕ, ◌≤◌, Bool, ◌||◌, if◌then◌else◌, List, All, Some, codes}
use Rattle.std.specs.Str.{bytes_eq}
use Rattle.std.specs.FinMap as map
use Rattle.books_model.specs.declared.limits.TheConstants.{MOST_BLOCKS, GREATEST_CASH, GREATEST_AMOUNT}
use Rattle.books_model.specs.declared.script.Op.{Op}
use Rattle.books_model.specs.declared.script.Op.TheVariants as op
use Rattle.books_model.specs.declared.script.Part.{Part}
use Rattle.books_model.specs.Books.{ClearingBooks}
use Rattle.books_model.specs.Scripts.{operations_of}
use Rattle.script_reader.specs.declared.limits.TheConstants.{MOST_BLOCKS_OF_ONE, GREATEST_CASH_OF_ONE, GREATEST_AMOUNT_OF_ONE}
use Rattle.script_reader.specs.declared.books.version.Version.{Version}
use Rattle.script_reader.specs.declared.books.version.Version.TheVariants.{One, Two}
use Rattle.script_reader.specs.Input.{ClearingInput}

-- the second word of the header
abbrev pub version_word : Version → List ℕ
version_word One = codes "1"
version_word Two = codes "2"

-- a word is that of a version
abbrev pub is_version : List ℕ → Bool
is_version word = bytes_eq word (version_word One) || bytes_eq word (version_word Two)

-- the version of such a word
abbrev pub version_of : List ℕ → Version
version_of word = if bytes_eq word (version_word One) then One else Two

-- the most blocks of a header
abbrev pub most_blocks : Version → ℕ
most_blocks One = MOST_BLOCKS_OF_ONE
most_blocks Two = MOST_BLOCKS

-- the most cash of an account's line
abbrev pub greatest_cash : Version → ℕ
greatest_cash One = GREATEST_CASH_OF_ONE
greatest_cash Two = GREATEST_CASH

-- the greatest amount of an operation
abbrev pub greatest_amount : Version → ℕ
greatest_amount One = GREATEST_AMOUNT_OF_ONE
greatest_amount Two = GREATEST_AMOUNT

-- the amount of an operation that has one
abbrev pub amount_of : Op → ℕ
amount_of (op.Deposit a x) = x
amount_of (op.Withdraw a x) = x
amount_of (op.Move a b x) = x
amount_of _ = 0

-- the blocks and the cash of books are in the ranges of the version
pub record AreBooksWithin (version : Version) (books : ClearingBooks) : Type 0 where
  pub blocks : books.blocks ≤ most_blocks version
  pub cash : (a cash : ℕ) → map.get books.accounts a ≡ Some cash → cash ≤ greatest_cash version

-- and so are the amounts of a script
abbrev pub IsScriptWithin : Version → List Part → Type 0
IsScriptWithin version script = All (λ o. amount_of o ≤ greatest_amount version) (operations_of script)

-- and all these of an input
pub record IsInputWithin (version : Version) (input : ClearingInput) : Type 0 where
  pub books : AreBooksWithin version input.books
  pub scripts : All (λ c. All (IsScriptWithin version) c.scripts) input.callers
