use Rattle.txn_books.proofs.Common.{arith}
use Rattle.txn_books.proofs.OneState.Chained.{price_differs, key_differs}
use Rattle.txn_books.proofs.laws.keys_differ.Goals as goal

pub returns : goal.returns
returns c = record {
  prices = price_differs;
  positions = λ a i b j p q e. key_differs (a, i) (b, j) p q e;
  apart = λ i a j p le e. omega (arith, p.0, p.1, le, e);
}
