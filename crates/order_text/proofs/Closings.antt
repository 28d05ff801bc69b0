-- After scripts of an input a book is left in which best prices are apart; what an output prints is such a book's orders,
-- so their numbers rise.
use Rattle.order_text.proofs.Common.{◌≡◌, List, [], ◌∷◌, All, sym, arith, Less, Resting, BookInput, IsBookInput, BestPricesApart, OrderBook, by_number}
use Rattle.order_text.proofs.Common.{empty_book, IsBookOf, IsOrderScript}
use Rattle.books_report.proofs.Common.{script_at, Place, places_run}
use Rattle.std.specs.List.Sorted.{IsStrictlySortedBy}
use Rattle.std.proofs.lemmas.Cmp.{ranked}
use Rattle.std.proofs.lemmas.List.Elements.{All-tail}
use Rattle.std.proofs.lemmas.List.Kept.{AllPairs-cons}
use Rattle.books_report.specs.Stores.Output.{outcome_at}
use Rattle.order_text.specs.Journal.{IsOrderPlace}
use Rattle.order_text.specs.Output.{AreByNumber, IsBefore, OrderRan, book_after, closing_of, order_store}
use Rattle.order_text.proofs.Apart.{empty_is, scripts_keep}
use Rattle.order_text.proofs.Members.{of_each, of_one}

-- numbers that rise from each to the next rise from each to all later ones
pub pairs_rise : (orders : List Resting) → IsStrictlySortedBy by_number orders → AreByNumber orders
unfolding IsStrictlySortedBy
pairs_rise [] rising = λ i j d before within. absurd (omega arith)
pairs_rise (r ∷ rs) rising = AllPairs-cons IsBefore r rs
    (of_each (IsBefore r) rs (λ z t. ranked r.number z.number Less (sym (of_one (λ w. by_number r w ≡ Less) rs z rising.0 t)))) (pairs_rise rs rising.1)

module _ (input : BookInput) (is : IsBookInput input) where
  -- the script at a place is one for the book
  script_is : (place : Place) → IsOrderPlace input place → IsOrderScript input.instruments (script_at (order_store input).callers place.caller place.index)
  script_is place there = is.callers.scripts place.caller (record { name = []; scripts = [] }) there.0 place.index [] there.1

  kept_after : (places : List Place) (book : OrderBook) → All (IsOrderPlace input) places → IsBookOf input.instruments book → BestPricesApart book.orders
      → IsBookOf input.instruments (book_after input book places) × BestPricesApart (book_after input book places).orders
  kept_after [] book there kept apart = (kept, apart)
  kept_after (place ∷ places) book there kept apart =
      let next = scripts_keep input.instruments (script_at (order_store input).callers place.caller place.index) book kept
      (script_is place (there 0 place (omega arith))) apart in
      kept_after places (outcome_at (order_store input) book place).1 (All-tail (IsOrderPlace input) place places there) next.0 next.1

  -- what is left of the empty book
  left_after : (places : List Place) → All (IsOrderPlace input) places
      → IsBookOf input.instruments (book_after input (empty_book input.blocks) places)
      × BestPricesApart (book_after input (empty_book input.blocks) places).orders
  left_after places there =
      let begun = empty_is input.blocks input.instruments is.blocks is.instruments in
      kept_after places (empty_book input.blocks) there begun.0 begun.1

  pub apart_after : (places : List Place) → All (IsOrderPlace input) places
      → BestPricesApart (book_after input (empty_book input.blocks) places).orders
  apart_after places there = (left_after places there).1

pub printed_by_number : (input : BookInput) (scripts : List OrderRan) → IsBookInput input → All (IsOrderPlace input) (places_run scripts)
    → AreByNumber (closing_of input scripts)
printed_by_number input scripts is there =
    pairs_rise (closing_of input scripts) (left_after input is (places_run scripts) there).0.room.rising
