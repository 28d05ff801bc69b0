use Rattle.books_model.proofs.Common.{sym, ap, ◌∙◌, nat_cmp_total}
use Rattle.books_model.proofs.Maps.Trees.{get-lookup}
use Rattle.std.specs.FinMap as map
use Rattle.books_model.proofs.books.Books.price.Goals as goal

pub returns : goal.returns
returns c = c.copied.ensures ∙ c.get.ensures.value
    ∙ sym (get-lookup nat_cmp_total c.self.inside.prices.entries c.args.instrument) ∙ ap (λ b. map.get b.prices c.args.instrument) c.self.view_is
