use Rattle.history_model.specs.Fitting.{IsGood}
use Rattle.order_match.specs.Layout.{words_of}
use Rattle.order_match.specs.Standing.{IsGoodFor}
use Rattle.stores_tests.proofs.orders.first_wrong.Given as goal

-- the words stand for a book
abbrev pub invariant-loop-number : goal.invariant-loop-number
invariant-loop-number g l = record {
  good : IsGood (words_of l.shape) (IsGoodFor l.shape) l.words.items;
}
