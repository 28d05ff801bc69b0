-- Laws of the language of orders.
use Rattle.std.specs.Prelude.{◌≡◌, ◌≢◌, ◌↔◌, ℕ, ◌<◌, List, [], ◌∷◌, All}
use Rattle.order_text.specs.declared.order.Resting.{Resting}
use Rattle.order_text.specs.declared.script.OrderOp.{OrderOp}
use Rattle.order_text.specs.declared.reply.OrderValue.{OrderValue}
use Rattle.books_report.specs.declared.stores.reply.StoreReply.TheVariants as reply
use Rattle.order_text.specs.Orders.{OrderBook, best_buy, best_sell, empty_book}
use Rattle.order_text.specs.Interpreter.{order_outcome_of, order_step_of}
use Rattle.books_report.specs.Stores.Interpreter.Step.{Gives}
use Rattle.books_report.specs.Journals.{places_run}
use Rattle.order_text.specs.Language.{order_language}
use Rattle.order_text.specs.Input.{BookInput, IsBookInput}
use Rattle.order_text.specs.Journal.{IsOrderPlace}
use Rattle.order_text.specs.Grammar.{IsOrderFault, IsOrderReason}
use Rattle.order_text.specs.Output.{AreByNumber, OrderRan, closing_of}
use Rattle.script_reader.specs.declared.fault.Fault.{Fault}
use Rattle.script_reader.specs.ListLanguage.{IsOperationIn}
use Rattle.order_text.specs.Ranges.{IsBlockCount, IsBookOf, IsInstrumentCount, IsOrderOp, IsOrderScript}

-- a script that is not done leaves the book
abbrev pub RefusedChangesNoOrder : Type 0
RefusedChangesNoOrder = (script : List OrderOp) (book : OrderBook)
    → ((values : List OrderValue) → (order_outcome_of script book).0 ≢ reply.Done values)
    → (order_outcome_of script book).1 ≡ book

-- each instrument's best buy price is below its best sell price, if both are there
abbrev pub BestPricesApart : List Resting → Type 0
BestPricesApart orders = (instrument : ℕ) → best_buy instrument orders ≢ 0 → best_sell instrument orders ≢ 0
    → best_buy instrument orders < best_sell instrument orders

-- the empty book is a book, in which they are so
abbrev pub EmptyIsApart : Type 0
EmptyIsApart = (blocks instruments : ℕ) → IsBlockCount blocks → IsInstrumentCount instruments
    → IsBookOf instruments (empty_book blocks) × BestPricesApart (empty_book blocks).orders

-- after each operation it still is a book
abbrev pub OperationsKeepBooks : Type 0
OperationsKeepBooks = (instruments : ℕ) (op : OrderOp) (book next : OrderBook) (value : OrderValue)
    → IsBookOf instruments book → IsOrderOp instruments op → order_step_of op book ≡ Gives value next
    → IsBookOf instruments next

-- and they still are so
abbrev pub OperationsKeepApart : Type 0
OperationsKeepApart = (instruments : ℕ) (op : OrderOp) (book next : OrderBook) (value : OrderValue)
    → IsBookOf instruments book → IsOrderOp instruments op → order_step_of op book ≡ Gives value next
    → BestPricesApart book.orders → BestPricesApart next.orders

-- and both after every script
abbrev pub ScriptsKeepApart : Type 0
ScriptsKeepApart = (instruments : ℕ) (script : List OrderOp) (book : OrderBook)
    → IsBookOf instruments book → IsOrderScript instruments script → BestPricesApart book.orders
    → IsBookOf instruments (order_outcome_of script book).1 × BestPricesApart (order_outcome_of script book).1.orders

-- the ranges of an operation's numbers are those of its line, in every text
abbrev pub RangesAreThoseOfLines : Type 0
RangesAreThoseOfLines = (blocks instruments : ℕ) (o : OrderOp) → IsInstrumentCount instruments
    → IsOrderOp instruments o ↔ IsOperationIn order_language (blocks ∷ instruments ∷ []) o

-- a fault of a text has one of five reasons
abbrev pub FiveReasons : Type 0
FiveReasons = (text : List ℕ) (number : ℕ) (why : Fault) → IsOrderFault text number why → IsOrderReason why

-- the orders that rest after scripts of an input are printed by rising number
abbrev pub PrintedByNumber : Type 0
PrintedByNumber = (input : BookInput) (scripts : List OrderRan) → IsBookInput input → All (IsOrderPlace input) (places_run scripts)
    → AreByNumber (closing_of input scripts)
