use Rattle.history_model.specs.Fitting.{IsGood}
use Rattle.txn_records.specs.Layout.{words_of}
use Rattle.txn_records.specs.Standing.{IsGoodFor}
use Rattle.stores_tests.proofs.records.first_wrong.Given as goal

-- the words stand for records
abbrev pub invariant-loop-number : goal.invariant-loop-number
invariant-loop-number g l = record {
  good : IsGood (words_of l.shape) (IsGoodFor l.shape) l.words.items;
}
