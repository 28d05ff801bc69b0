use Rattle.books_model.proofs.Common.{◌≡◌, ◌≤◌, ap, subst, sym, ◌∙◌, arith, nat_cmp_total, exact_unsigned, put_price, used, AreInRange, the_view}
use Rattle.books_model.proofs.Maps.Trees.{from_entries-inserted}
use Rattle.books_model.proofs.InRange.{put_price-in_range, used_after_price}
use Rattle.books_model.proofs.books.Books.add_price.Goals.{In_ok-insert}
use Rattle.books_model.proofs.books.Books.add_price.Goals as goal

-- the fields after the insertion show the books with the price
view_after : (c : In_ok-insert) → the_view (record c.self.inside { prices = c.insert.new.self }) ≡ put_price c.args.self.now c.args.instrument c.args.price
view_after c =
    ap (λ prices. record (the_view c.self.inside) { prices = prices })
    (from_entries-inserted nat_cmp_total exact_unsigned c.self.inside.prices.entries c.insert.new.self.entries
    c.args.instrument c.args.price c.in_ok-insert.ensures.updates.0)
    ∙ ap (λ books. put_price books c.args.instrument c.args.price) c.self.view_is

pub invariant_of-self-2 : goal.invariant_of-self-2
invariant_of-self-2 c =
    let in_range : AreInRange c.args.self.now = subst AreInRange c.self.view_is c.self.invariant in
    let room : used (put_price c.args.self.now c.args.instrument c.args.price) ≤ c.args.self.now.blocks =
    omega (arith, used_after_price c.args.self.now c.args.instrument c.args.price c.requires.absent, c.requires.room) in
    subst AreInRange (sym (view_after c)) (put_price-in_range c.args.self.now c.args.instrument c.args.price in_range
    c.requires.instrument c.requires.price room)

pub returns-clause-ok : goal.returns-clause-ok
returns-clause-ok c = view_after c
