use Rattle.books_model.proofs.Common.{sym, ap, ◌∙◌, nat_cmp_total}
use Rattle.books_model.proofs.Maps.Trees.{get-lookup}
use Rattle.std.specs.FinMap as map
use Rattle.books_model.proofs.books.Books.cash.Goals as goal

pub returns : goal.returns
returns c = c.copied.ensures ∙ c.get.ensures.value
    ∙ sym (get-lookup nat_cmp_total c.self.inside.accounts.entries c.args.account) ∙ ap (λ b. map.get b.accounts c.args.account) c.self.view_is
