use Rattle.books_model.proofs.Common.{ap, ◌∙◌}
use Rattle.books_model.proofs.Drafts.{put_cash-apart}
use Rattle.std.specs.FinMap as map
use Rattle.books_model.proofs.draft.Draft.pay.Goals as goal

-- the second account has its cash after the first one's has changed
pub set_cash-requires-2-clause-was : goal.set_cash-requires-2-clause-was
set_cash-requires-2-clause-was c =
    ap (λ books. map.get books.accounts c.args.payee) c.in_ok-set_cash.ensures.ok
    ∙ put_cash-apart c.args.self.now.after c.args.payer c.args.payee _ c.requires.apart
    ∙ c.requires.payee
