use Rattle.books_model.proofs.Common.{◌≡◌, ◌+◌, ap, ◌∙◌, arith, nat_cmp_total, used, the_view}
use Rattle.books_model.proofs.Maps.Trees.{len-from_entries, positions_total}
use Rattle.books_model.proofs.books.Books.used.Goals.{After-len-3}
use Rattle.books_model.proofs.books.Books.used.Goals as goal

-- the lengths of the three maps are those of the view
sum_is_used : (c : After-len-3) → c.len.result + c.len-2.result + c.len-3.result ≡ used (the_view c.self.inside)
sum_is_used c =
    let accounts = len-from_entries nat_cmp_total c.self.inside.accounts.entries c.len.ensures.ordered in
    let positions = len-from_entries positions_total c.self.inside.positions.entries c.len-2.ensures.ordered in
    let prices = len-from_entries nat_cmp_total c.self.inside.prices.entries c.len-3.ensures.ordered in
    omega (arith, c.len.ensures.len, c.len-2.ensures.len, c.len-3.ensures.len)

pub overflow_add-result-2 : goal.overflow_add-result-2
overflow_add-result-2 c = omega (arith, sum_is_used c, c.self.invariant.blocks_used, c.self.invariant.blocks.1)

pub overflow_cast-result : goal.overflow_cast-result
overflow_cast-result c = omega (arith, sum_is_used c, c.self.invariant.blocks_used, c.self.invariant.blocks.1)

pub returns : goal.returns
returns c = sum_is_used c ∙ ap used c.self.view_is
