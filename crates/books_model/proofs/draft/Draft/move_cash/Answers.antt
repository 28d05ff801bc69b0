use Rattle.books_model.proofs.Common.{arith}
use Rattle.books_model.proofs.draft.Draft.move_cash.Goals as goal

pub pay-requires-clause-apart : goal.pay-requires-clause-apart
pay-requires-clause-apart c = λ same. omega (arith, same, c.if-payer-payee.false)
