use Rattle.txn_books.proofs.Common.{sym, ap, Gives}
use Rattle.txn_books.proofs.OnBooks.Turning.{looked, answers}
use Rattle.books_model.specs.declared.reply.Value.TheVariants as value
use Rattle.txn_books.proofs.operations.sum.Goals as goal

pub returns-clause-step : goal.returns-clause-step
returns-clause-step g c =
    answers (looked c.in_ok-total.ensures.goes_on c.in_ok-total.ensures.told) (λ books sized told. ap (λ n. Gives (value.Number n) books) (sym told))
