use Rattle.books_model.proofs.Common.{◌≡◌, ◌≤◌, ap, subst, sym, ◌∙◌, arith, put_quantity, used, AreInRange, the_view}
use Rattle.books_model.proofs.Maps.Trees.{from_entries-inserted, positions_total, exact_positions}
use Rattle.books_model.proofs.InRange.{put_quantity-in_range, used_after_position}
use Rattle.books_model.proofs.books.Books.add_position.Goals.{In_ok-insert}
use Rattle.books_model.proofs.books.Books.add_position.Goals as goal

-- the fields after the insertion show the books with the position
view_after : (c : In_ok-insert) → the_view (record c.self.inside { positions = c.insert.new.self })
    ≡ put_quantity c.args.self.now c.args.account c.args.instrument c.args.quantity
view_after c =
    ap (λ positions. record (the_view c.self.inside) { positions = positions })
    (from_entries-inserted positions_total exact_positions c.self.inside.positions.entries c.insert.new.self.entries
    (c.args.account, c.args.instrument) c.args.quantity c.in_ok-insert.ensures.updates.0)
    ∙ ap (λ books. put_quantity books c.args.account c.args.instrument c.args.quantity) c.self.view_is

pub invariant_of-self-2 : goal.invariant_of-self-2
invariant_of-self-2 c =
    let in_range : AreInRange c.args.self.now = subst AreInRange c.self.view_is c.self.invariant in
    let room : used (put_quantity c.args.self.now c.args.account c.args.instrument c.args.quantity)
    ≤ c.args.self.now.blocks = omega (
      arith,
      used_after_position c.args.self.now c.args.account c.args.instrument
          c.args.quantity c.requires.absent,
      c.requires.room,
    ) in
    subst AreInRange (sym (view_after c)) (put_quantity-in_range c.args.self.now c.args.account c.args.instrument
    c.args.quantity in_range c.requires.account c.requires.price c.requires.quantity room)

pub returns-clause-ok : goal.returns-clause-ok
returns-clause-ok c = view_after c
