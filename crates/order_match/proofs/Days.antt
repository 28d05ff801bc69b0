-- In the books of a day the best prices are apart.
use Rattle.order_match.proofs.Common.{List, All-map, order_store, OrderShape, Stands}
use Rattle.word_table.proofs.Common.{ClosedView}
use Rattle.txn_stores.proofs.Common.{IsDay, place_of_done}
use Rattle.order_text.proofs.Common.{BookInput, IsBookInput}
use Rattle.std.proofs.Common.{take}
use Rattle.std.proofs.lemmas.List.Elements.{All-take}
use Rattle.txn_commit.specs.declared.lists.Done.{Done}
use Rattle.txn_stores.specs.Journals.{places_of_done}
use Rattle.txn_stores.proofs.Days.{all_of}
use Rattle.order_text.specs.Journal.{IsOrderPlace}
use Rattle.order_text.specs.Replies.{OrderReply}
use Rattle.order_text.proofs.Closings.{apart_after}
use Rattle.order_match.specs.Days.{IsOrderDay}

pub day_apart : (input : BookInput) (closed : ClosedView OrderShape) (done : List (Done OrderReply)) → IsBookInput input
    → IsDay (order_store input) Stands closed done → IsOrderDay input closed done
day_apart input closed done valid day = record {
  day = day;
  prices_apart = λ k within. apart_after input valid (places_of_done (take k done))
      (All-map (IsOrderPlace input) place_of_done (take k done)
      (All-take (λ item. IsOrderPlace input (place_of_done item)) k done (all_of (IsOrderPlace input) place_of_done done day.journal.only)));
}
