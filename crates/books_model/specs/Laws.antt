-- Laws of the language, in the words of clearing.
use Rattle.std.specs.Prelude.{◌≡◌, ◌≢◌, ℕ, ◌+◌, ◌==◌, if◌then◌else◌, List, [], ◌∷◌, ◌++◌, drop, length, map, sum_by}
use Rattle.std.specs.List.{flat_map, zip}
use Rattle.std.specs.FinMap as finmap
use Rattle.books_model.specs.declared.script.Op.{Op}
use Rattle.books_model.specs.declared.script.Op.TheVariants as op
use Rattle.books_model.specs.declared.script.Part.{Part}
use Rattle.books_model.specs.declared.script.Part.TheVariants as part
use Rattle.books_model.specs.declared.reply.Value.{Value}
use Rattle.books_model.specs.declared.reply.Value.TheVariants as value
use Rattle.books_model.specs.declared.reply.Reply.TheVariants as reply
use Rattle.books_model.specs.Books.{ClearingBooks, HaveSameSizes}
use Rattle.books_model.specs.Ranges.{AreInRange, IsScriptFor}
use Rattle.books_model.specs.Interpreter.{Gives, step_of, run_from, outcome_from, outcome_of}

-- the cash of all accounts
abbrev pub all_cash : ClearingBooks → ℕ
all_cash books = sum_by (λ e. e.1) (finmap.entries books.accounts)

-- what all accounts hold of an instrument
abbrev pub all_held : ClearingBooks → ℕ → ℕ
all_held books i = sum_by (λ e. if e.0.1 == i then e.1 else 0) (finmap.entries books.positions)

-- an operation that is done leads from books to others
abbrev pub Leads : Op → ClearingBooks → ClearingBooks → Type 0
Leads o before after = (v : Value) × (step_of o before ≡ Gives v after)

-- a script whose reply is not Done leaves the books
abbrev pub RefusedChangesNothing : Type 0
RefusedChangesNothing = (script : List Part) (books : ClearingBooks)
    → ((values : List Value) → (outcome_of script books).0 ≢ reply.Done values) → (outcome_of script books).1 ≡ books

-- a move keeps all cash
abbrev pub MoveKeepsAllCash : Type 0
MoveKeepsAllCash =
    (a b x : ℕ) (before after : ClearingBooks) → Leads (op.Move a b x) before after → all_cash after ≡ all_cash before

-- a trade keeps all cash
abbrev pub TradeKeepsAllCash : Type 0
TradeKeepsAllCash =
    (a b i q : ℕ) (before after : ClearingBooks) → Leads (op.Trade a b i q) before after
    → all_cash after ≡ all_cash before

-- a trade keeps what all accounts hold of each instrument
abbrev pub TradeKeepsQuantities : Type 0
TradeKeepsQuantities =
    (a b i q : ℕ) (before after : ClearingBooks) → Leads (op.Trade a b i q) before after → (j : ℕ)
    → all_held after j ≡ all_held before j

-- a deposit adds its amount to all cash
abbrev pub DepositAddsItsAmount : Type 0
DepositAddsItsAmount =
    (a x : ℕ) (before after : ClearingBooks) → Leads (op.Deposit a x) before after
    → all_cash after ≡ all_cash before + x

-- a withdrawal takes its amount from all cash
abbrev pub WithdrawTakesItsAmount : Type 0
WithdrawTakesItsAmount =
    (a x : ℕ) (before after : ClearingBooks) → Leads (op.Withdraw a x) before after
    → all_cash after + x ≡ all_cash before

-- books in range stay in range, whatever script for them is run: so blocks and queue never hold more than they can
abbrev pub BooksStayInRange : Type 0
BooksStayInRange = (script : List Part) (books : ClearingBooks) → AreInRange books → IsScriptFor books script → AreInRange (outcome_of script books).1

-- no script changes the sizes of books
abbrev pub ScriptsKeepSizes : Type 0
ScriptsKeepSizes = (script : List Part) (books : ClearingBooks) → HaveSameSizes books (outcome_of script books).1

-- a script for books is one for others with as many instruments
abbrev pub ScriptsGoByInstruments : Type 0
ScriptsGoByInstruments = (script : List Part) (books others : ClearingBooks) → others.instruments ≡ books.instruments
    → IsScriptFor books script → IsScriptFor others script

-- the margin call that an operation queues, from what it tells
abbrev pub queued_by : Op → Value → List (ℕ × ℕ)
queued_by (op.Margin a m) (value.Number shortfall) = if shortfall == 0 then [] else (a, shortfall) ∷ []
queued_by _ _ = []

-- the operations of a script that were done, each with its value: of an alternative those of the branch that its value names
abbrev pub done_of : List Part → List Value → List (Op × Value)
done_of (part.One o ∷ parts) (v ∷ values) = (o, v) ∷ done_of parts values
done_of (part.Either first second ∷ parts) (value.First ∷ values) = zip first values ++ done_of parts (drop (length first) values)
done_of (part.Either first second ∷ parts) (value.Second ∷ values) = zip second values ++ done_of parts (drop (length second) values)
done_of _ _ = []

-- the margin calls that a script queues
abbrev pub queued : List Part → List Value → List (ℕ × ℕ)
queued script values = flat_map (λ d. queued_by d.0 d.1) (done_of script values)

-- the margin call that a value tells of
abbrev pub taken_by : Value → List (ℕ × ℕ)
taken_by (value.Call a d) = (a, d) ∷ []
taken_by _ = []

-- What was queued, and behind it what a script queues, is what the script takes, and behind it what is queued after it.
abbrev pub QueueIsFirstInFirstOut : Type 0
QueueIsFirstInFirstOut = (script : List Part) (values : List Value) (before after : ClearingBooks) → outcome_of script before ≡ (reply.Done values, after)
    → before.calls ++ queued script values ≡ flat_map taken_by values ++ after.calls

-- a script without alternatives is its operations, run in order: the first that is refused is its reply
abbrev pub OperationsAlone : Type 0
OperationsAlone = (ops : List Op) (books : ClearingBooks) → outcome_of (map part.One ops) books ≡ outcome_from books (run_from 1 ops books)
