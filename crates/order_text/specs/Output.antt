-- The output: a journal of the scripts in the order in which they were run, and the orders that rest then.
use Rattle.std.specs.Prelude.{ℕ, ◌<◌, Bool, if◌then◌else◌, List, [], ◌∷◌, AllPairs, codes}
use Rattle.std.specs.List.{flat_map}
use Rattle.order_text.specs.declared.order.Resting.{Resting}
use Rattle.order_text.specs.declared.script.OrderOp.{OrderOp}
use Rattle.order_text.specs.declared.reply.OrderValue.{OrderValue}
use Rattle.order_text.specs.Replies.{OrderReply}
use Rattle.order_text.specs.Orders.{OrderBook, empty_book}
use Rattle.order_text.specs.Interpreter.{order_step_of}
use Rattle.order_text.specs.Language.{order_language}
use Rattle.order_text.specs.Input.{BookInput}
use Rattle.order_text.specs.Words.{value_word}
use Rattle.script_reader.specs.Text.{number, line}
use Rattle.script_reader.specs.Journal.{Place}
use Rattle.script_reader.specs.ListLanguage.{head_words}
use Rattle.books_report.specs.Stores.Output as stores
use Rattle.books_report.specs.Journals.{RanOf}
use Rattle.books_report.specs.Stores.Output.{IsOutputOf, StoreOf, state_after, state_left}

-- a script that was run: its place, how often it was restarted, and its reply
abbrev pub OrderRan : Type 0
OrderRan = RanOf OrderReply

-- the header of the input's text
abbrev pub order_header_line : BookInput → List ℕ
order_header_line input = line (head_words order_language (input.blocks ∷ input.instruments ∷ []))

-- the word of a side
abbrev pub side_word : Bool → List ℕ
side_word buys = if buys then codes "buy" else codes "sell"

-- the line of a resting order
abbrev pub order_line : Resting → List ℕ
order_line r =
    line (codes "order" ∷ number r.number ∷ number r.instrument ∷ side_word r.buys ∷ number r.price ∷ number r.quantity ∷ [])

-- an order goes before another by its number, and a list of orders is in this order
abbrev pub IsBefore : Resting → Resting → Type 0
IsBefore r s = r.number < s.number

abbrev pub AreByNumber : List Resting → Type 0
AreByNumber closing = AllPairs IsBefore closing

-- the store of an input: it begins with an empty book
abbrev pub order_store : BookInput → StoreOf OrderOp OrderValue OrderBook
order_store input = record {
  callers = input.callers;
  begins = empty_book input.blocks;
  step = order_step_of;
  value_word = value_word;
  header = order_header_line input;
  closing = λ book. flat_map order_line book.orders;
}

-- the whole text of a journal and of closing orders
abbrev pub text_of : BookInput → List OrderRan → List Resting → List ℕ
text_of input scripts closing = stores.text_of (order_store input) scripts (flat_map order_line closing)

-- what the interpreter replies to the scripts at these places, run one after the other from this book
abbrev pub replies_of : BookInput → OrderBook → List Place → List OrderReply
replies_of input = stores.replies_of (order_store input)

-- the book that they leave
abbrev pub book_after : BookInput → OrderBook → List Place → OrderBook
book_after input = state_after (order_store input)

-- the scripts are those of the input, run one after the other in some order from an empty book
abbrev pub AreRun : BookInput → ℕ → List OrderRan → Type 0
AreRun input = stores.AreRun (order_store input)

-- the orders that rest after scripts of which the first met an empty book
abbrev pub closing_of : BookInput → List OrderRan → List Resting
closing_of input scripts = (state_left (order_store input) scripts).orders

-- the text is an output of the input: the journal of its scripts, as they were run, and then the orders that rest
abbrev pub IsOrderOutput : BookInput → ℕ → List ℕ → Type 0
IsOrderOutput input = IsOutputOf (order_store input)
