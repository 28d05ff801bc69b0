-- The ranges of sizes, of the numbers in books, and of the numbers in scripts.
use Rattle.std.specs.Prelude.{◌≡◌, ℕ, ◌≤◌, List, length, sum_by, All, Some, IsSome}
use Rattle.std.specs.FinMap as map
use Rattle.books_model.specs.declared.limits.TheConstants.{MOST_BLOCKS, MOST_INSTRUMENTS, MOST_RING, GREATEST_ACCOUNT, GREATEST_CASH, GREATEST_AMOUNT}
use Rattle.books_model.specs.declared.limits.TheConstants.{GREATEST_PRICE, GREATEST_QUANTITY, GREATEST_RATE}
use Rattle.books_model.specs.declared.limits.TheConstants.{GREATEST_SHORTFALL, MOST_OPERATIONS, MOST_ALTERNATIVES}
use Rattle.books_model.specs.declared.script.Op.{Op}
use Rattle.books_model.specs.declared.script.Op.TheVariants as op
use Rattle.books_model.specs.declared.script.Part.{Part}
use Rattle.books_model.specs.Books.{ClearingBooks, used}
use Rattle.books_model.specs.Scripts.{operations_of, alternatives_in}

-- from one number to another, both included
abbrev pub IsWithin : ℕ → ℕ → ℕ → Type 0
IsWithin low high n = (low ≤ n) × (n ≤ high)

abbrev pub IsAccountNumber : ℕ → Type 0
IsAccountNumber a = IsWithin 1 GREATEST_ACCOUNT a

-- an instrument number of the books
abbrev pub IsInstrumentOf : ClearingBooks → ℕ → Type 0
IsInstrumentOf books i = IsWithin 1 books.instruments i

-- a margin call: an account number, which need not be that of an account, and a shortfall
abbrev pub IsCall : ℕ × ℕ → Type 0
IsCall call = IsAccountNumber call.0 × IsWithin 1 GREATEST_SHORTFALL call.1

-- sizes and numbers are in their ranges, each position is of an account and of an instrument with a price, and neither
-- the blocks nor the queue hold more than they can
pub record AreInRange (books : ClearingBooks) : Type 0 where
  pub blocks : IsWithin 1 MOST_BLOCKS books.blocks
  pub instruments : IsWithin 1 MOST_INSTRUMENTS books.instruments
  pub ring : IsWithin 1 MOST_RING books.ring
  pub accounts : (a cash : ℕ) → map.get books.accounts a ≡ Some cash → IsAccountNumber a × (cash ≤ GREATEST_CASH)
  pub prices : (i price : ℕ) → map.get books.prices i ≡ Some price
      → IsInstrumentOf books i × IsWithin 1 GREATEST_PRICE price
  pub positions : (a i quantity : ℕ) → map.get books.positions (a, i) ≡ Some quantity
      → IsSome (map.get books.accounts a) × IsSome (map.get books.prices i) × IsWithin 1 GREATEST_QUANTITY quantity
  pub calls : All IsCall books.calls
  pub queue : length books.calls ≤ books.ring
  pub blocks_used : used books ≤ books.blocks

-- the numbers of an operation are in their ranges
abbrev pub IsOperationFor : ClearingBooks → Op → Type 0
IsOperationFor books (op.OpenAccount a) = IsAccountNumber a
IsOperationFor books (op.Close a) = IsAccountNumber a
IsOperationFor books (op.Deposit a x) = IsAccountNumber a × IsWithin 1 GREATEST_AMOUNT x
IsOperationFor books (op.Withdraw a x) = IsAccountNumber a × IsWithin 1 GREATEST_AMOUNT x
IsOperationFor books (op.Move a b x) = IsAccountNumber a × IsAccountNumber b × IsWithin 1 GREATEST_AMOUNT x
IsOperationFor books (op.Price i p) = IsInstrumentOf books i × IsWithin 1 GREATEST_PRICE p
IsOperationFor books (op.Trade a b i q) =
    IsAccountNumber a × IsAccountNumber b × IsInstrumentOf books i × IsWithin 1 GREATEST_QUANTITY q
IsOperationFor books (op.Margin a m) = IsAccountNumber a × IsWithin 1 GREATEST_RATE m
IsOperationFor books op.Next = Unit {0}
IsOperationFor books (op.Show a) = IsAccountNumber a
IsOperationFor books (op.Sum a b) = IsAccountNumber a × IsAccountNumber b

-- a script that books can be given: not too many operations and alternatives, and each number in its range
pub record IsScriptFor (books : ClearingBooks) (script : List Part) : Type 0 where
  pub few : length (operations_of script) ≤ MOST_OPERATIONS
  pub few_alternatives : sum_by alternatives_in script ≤ MOST_ALTERNATIVES
  pub each : All (IsOperationFor books) (operations_of script)
