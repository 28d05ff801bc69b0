-- What all workers of a limit order book did together.
use Rattle.std.specs.Prelude.{◌≤◌, ℕ, List, length, take}
use Rattle.word_table.specs.Closing.{ClosedView}
use Rattle.txn_commit.specs.declared.lists.Done.{Done}
use Rattle.txn_stores.specs.declared.run.StoreDay.{StoreDay}
use Rattle.txn_stores.specs.Days.{IsDay}
use Rattle.txn_stores.specs.Journals.{places_of_done}
use Rattle.order_text.specs.declared.reply.OrderValue.{OrderValue}
use Rattle.order_text.specs.Input.{BookInput}
use Rattle.order_text.specs.Laws.{BestPricesApart}
use Rattle.order_text.specs.Orders.{empty_book}
use Rattle.order_text.specs.Output.{book_after, order_store}
use Rattle.order_text.specs.Replies.{OrderReply}
use Rattle.order_match.specs.declared.shape.OrderShape.{OrderShape}
use Rattle.order_match.specs.Standing.{Stands}

-- the sizes of the book of an input
abbrev pub shape_of : BookInput → OrderShape
shape_of input = record { blocks = input.blocks; instruments = input.instruments }

-- a day of the input, over a table that is closed: the scripts that were run are a journal with the replies of the
-- interpreter, run down it from an empty book, and before and after each the words stand for its book, in which the best
-- prices are apart
pub record IsOrderDay (input : BookInput) (closed : ClosedView OrderShape) (done : List (Done OrderReply)) : Type 0 where
  pub day : IsDay (order_store input) Stands closed done
  pub prices_apart : (k : ℕ) → k ≤ length done
      → BestPricesApart (book_after input (empty_book input.blocks) (places_of_done (take k done))).orders

-- what a day came to
abbrev pub OrderDay : Type 0
OrderDay = StoreDay OrderValue OrderShape
