-- What a day of a limit order book is, and what is printed of it.
use Rattle.std.specs.Prelude.{◌≡◌, ℕ, List, Option}
use Rattle.std.specs.Io.KnownBytes.{Appends}
use Rattle.history_model.specs.Fitting.{IsGood}
use Rattle.order_text.specs.Grammar.{SpellsOrders}
use Rattle.order_text.specs.Input.{BookInput}
use Rattle.order_text.specs.Orders.{empty_book}
use Rattle.order_text.specs.Output.{IsOrderOutput, closing_of, text_of}
use Rattle.txn_commit.specs.Lists.{AreDealt}
use Rattle.txn_stores.specs.Journals.{scripts_done}
use Rattle.order_match.specs.Days.{shape_of, IsOrderDay, OrderDay}
use Rattle.order_match.specs.Layout.{words_of}
use Rattle.order_match.specs.Standing.{IsGoodFor, Stands}
use Rattle.word_table.specs.Closing.{AreRecords, IsCoherent, IsLegalInEachOrder}
use Rattle.twoplsf.specs.Command.{IsOrdersCommand}
use Rattle.twoplsf.specs.Stores.{OfInput, PrintsText}

-- a day of the input by so many workers: a table with a seat for each, of the sizes that the input says, whose words
-- stood for no order; all that was committed on it, with the attempts that gave way, has an arrangement, and each
-- arrangement is a legal history; each caller was run by the seat of its number modulo the workers; and its text is the
-- journal of its items, with the orders that rest at the end
pub record IsOrdersDayOf (input : BookInput) (workers : ℕ) (day : OrderDay) : Type 0 where
  pub shape : day.closed.shape ≡ shape_of input
  pub seats : day.closed.seats ≡ workers
  pub opening : Stands day.closed.shape day.closed.base (empty_book input.blocks)
  pub coherent : IsCoherent (IsGood (words_of day.closed.shape) (IsGoodFor day.closed.shape)) day.closed
  pub legal : IsLegalInEachOrder (IsGood (words_of day.closed.shape) (IsGoodFor day.closed.shape)) day.closed
  pub records : AreRecords day.closed
  pub is_day : IsOrderDay input day.closed day.done.items
  pub dealt : AreDealt workers day.done.items
  pub text_is : day.text.items
      ≡ text_of input (scripts_done day.done.items) (closing_of input (scripts_done day.done.items))
  pub output : IsOrderOutput input workers day.text.items

-- the bytes are the text of some input of a limit order book
abbrev pub IsOrdersText : List ℕ → Type 0
IsOrdersText bytes = (input : BookInput) × SpellsOrders bytes input

-- the words are `orders W`, the bytes are the text of an input of a limit order book, and this text is an output of that
-- input with each number of restarts below W
abbrev pub IsOrderOutputFor : List (List ℕ) → List ℕ → List ℕ → Type 0
IsOrderOutputFor words bytes text =
    OfInput IsOrdersCommand SpellsOrders words bytes (λ input workers. IsOrderOutput input workers text)

-- one whole text was printed, an output of a limit order book for the words and the bytes
abbrev pub PrintsOrderOutput : List (List ℕ) → List ℕ → Option (List ℕ) → Option (List ℕ) → Type 0
PrintsOrderOutput words bytes before now = PrintsText (IsOrderOutputFor words bytes) before now

-- the day of `orders`: that of the input that the bytes spell, by as many workers as the words say; and its text was
-- printed
abbrev pub IsOrdersDayFor : List (List ℕ) → List ℕ → Option (List ℕ) → Option (List ℕ) → OrderDay → Type 0
IsOrdersDayFor words bytes before now day = OfInput IsOrdersCommand SpellsOrders words bytes
    (λ input workers. IsOrdersDayOf input workers day × Appends before now day.text.items)
