use Rattle.order_text.proofs.Apart.{apart_kept, books_kept, empty_is, scripts_keep}
use Rattle.order_text.proofs.laws.best_prices_apart.Goals as goal

pub returns-clause-empty : goal.returns-clause-empty
returns-clause-empty c = empty_is

pub returns-clause-books : goal.returns-clause-books
returns-clause-books c = books_kept

pub returns-clause-operations : goal.returns-clause-operations
returns-clause-operations c = apart_kept

pub returns-clause-scripts : goal.returns-clause-scripts
returns-clause-scripts c = scripts_keep
