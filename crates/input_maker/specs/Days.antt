-- What a generated day comes to, in whatever order its scripts are run.
use Rattle.std.specs.Prelude.{◌≡◌, ◌≢◌, ℕ, ◌+◌, Bool, true, false, List, ◌∷◌, ◌++◌, sum_by}
use Rattle.std.specs.List.{list_all}
use Rattle.std.specs.FinMap as map
use Rattle.script_reader.specs.Gathered.{script_at}
use Rattle.books_model.specs.declared.script.Op.{Op}
use Rattle.books_model.specs.declared.script.Op.TheVariants as op
use Rattle.books_model.specs.declared.script.Part.{Part}
use Rattle.books_model.specs.Scripts.{operations_of}
use Rattle.books_model.specs.declared.reply.Value.{Value}
use Rattle.books_model.specs.declared.reply.Reply.TheVariants as reply
use Rattle.books_model.specs.Books.{ClearingBooks}
use Rattle.books_model.specs.Laws.{all_cash}
use Rattle.script_reader.specs.Input.{ClearingInput}
use Rattle.script_reader.specs.Journal.{Place, IsJournal}
use Rattle.books_report.specs.Output.{reply_to, books_left, books_after}
use Rattle.input_maker.specs.Made.{made_books, made_input}
use Rattle.input_maker.specs.Statements.{AreForMake}

-- what an operation pays in
abbrev pub paid_in_by : Op → ℕ
paid_in_by (op.Deposit a x) = x
paid_in_by _ = 0

-- the deposits of operations, and of a script
abbrev pub deposits_in : List Op → ℕ
deposits_in ops = sum_by paid_in_by ops

abbrev pub deposits_of : List Part → ℕ
deposits_of script = deposits_in (operations_of script)

-- all deposits of an input
abbrev pub all_deposits : ClearingInput → ℕ
all_deposits input = sum_by (λ c. sum_by deposits_of c.scripts) input.callers

-- what all accounts hold of all instruments together
abbrev pub all_quantities : ClearingBooks → ℕ
all_quantities books = sum_by (λ e. e.1) (map.entries books.positions)

-- whether an operation is one of the first kind of scripts
abbrev pub is_of_first_kind : Op → Bool
is_of_first_kind (op.Deposit a x) = true
is_of_first_kind (op.Price i p) = true
is_of_first_kind op.Next = true
is_of_first_kind (op.Sum a b) = true
is_of_first_kind _ = false

-- each operation of the script is
abbrev pub IsOfFirstKind : List Part → Type 0
IsOfFirstKind script = list_all is_of_first_kind (operations_of script) ≡ true

-- in some order of the scripts of a generated input, these stand before the one at a place, and these behind it
pub record StandsIn (seed callers scripts : ℕ) (before : List Place) (place : Place) (behind : List Place) : Type 0 where
  pub range : AreForMake seed callers scripts
  pub journal : IsJournal (made_input seed callers scripts) (before ++ place ∷ behind)

-- the books at a place
abbrev pub books_at : ℕ → ℕ → ℕ → List Place → ClearingBooks
books_at seed callers scripts before = books_after (made_input seed callers scripts) made_books before

-- the closing cash is the opening cash and all deposits, in every order
abbrev pub MadeCash : Type 0
MadeCash =
    (seed callers scripts : ℕ) (order : List Place) → AreForMake seed callers scripts
    → IsJournal (made_input seed callers scripts) order
    → all_cash (books_at seed callers scripts order) ≡ 200000000 + all_deposits (made_input seed callers scripts)

-- all quantities are what they were
abbrev pub MadeQuantities : Type 0
MadeQuantities =
    (seed callers scripts : ℕ) (order : List Place) → AreForMake seed callers scripts
    → IsJournal (made_input seed callers scripts) order
    → all_quantities (books_at seed callers scripts order) ≡ 160000

-- no script of the first kind is declined
abbrev pub FirstKindIsDone : Type 0
FirstKindIsDone =
    (seed callers scripts : ℕ) (before : List Place) (place : Place) (behind : List Place)
    → StandsIn seed callers scripts before place behind
    → IsOfFirstKind (script_at (made_input seed callers scripts).callers place.caller place.index)
    → (values : List Value)
    × (reply_to (made_input seed callers scripts) (books_at seed callers scripts before) place ≡ reply.Done values)

-- none of the second kind changes the sum of all cash
abbrev pub SecondKindKeepsCash : Type 0
SecondKindKeepsCash =
    (seed callers scripts : ℕ) (before : List Place) (place : Place) (behind : List Place)
    → StandsIn seed callers scripts before place behind
    → (¬ IsOfFirstKind (script_at (made_input seed callers scripts).callers place.caller place.index))
    → all_cash (books_left (made_input seed callers scripts) (books_at seed callers scripts before) place)
    ≡ all_cash (books_at seed callers scripts before)

-- blocks never run out
abbrev pub NoneIsFull : Type 0
NoneIsFull =
    (seed callers scripts : ℕ) (before : List Place) (place : Place) (behind : List Place)
    → StandsIn seed callers scripts before place behind
    → (k : ℕ) → reply_to (made_input seed callers scripts) (books_at seed callers scripts before) place ≢ reply.Full k
