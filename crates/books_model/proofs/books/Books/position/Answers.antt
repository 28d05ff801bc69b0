use Rattle.books_model.proofs.Common.{sym, ap, ◌∙◌}
use Rattle.books_model.proofs.Maps.Trees.{get-lookup, positions_total}
use Rattle.std.specs.FinMap as map
use Rattle.books_model.proofs.books.Books.position.Goals as goal

pub returns : goal.returns
returns c =
    c.copied.ensures ∙ c.get.ensures.value
    ∙ sym (get-lookup positions_total c.self.inside.positions.entries (c.args.account, c.args.instrument))
    ∙ ap (λ b. map.get b.positions (c.args.account, c.args.instrument)) c.self.view_is
