use Rattle.order_text.proofs.Common.{List, not, ◌==◌, Option, sym, ap, ◌∙◌, subst, the_view, Resting, Gives, with_order, OrderBook, all_but, HasRoom}
use Rattle.order_text.proofs.Rooms.{fewer_have_room}
use Rattle.order_text.specs.declared.reply.OrderValue.TheVariants as value
use Rattle.order_text.proofs.book.Book.cancel.Goals as goal

-- the others are left
pub invariant_of-self : goal.invariant_of-self
invariant_of-self c = let b : OrderBook = the_view c.self.inside in
    subst (λ (l : List Resting). HasRoom (record b { orders = l })) (sym c.take_out.ensures)
    (fewer_have_room (λ r. not (r.number == c.args.number)) b c.self.invariant)

pub returns-in-Some : goal.returns-in-Some
returns-in-Some c = let n = c.args.number in let b : OrderBook = the_view c.self.inside in record {
  step = ap (λ (o : Option Resting). with_order o
      (λ order. Gives (value.Cancelled order.quantity) (record c.args.self.now { orders = all_but n c.args.self.now.orders })))
      (sym c.order_at.ensures ∙ c.in-Some.is)
      ∙ (ap (λ (x : OrderBook). Gives (value.Cancelled c.in-Some.order.quantity) (record x { orders = all_but n x.orders })) (sym c.self.view_is)
      ∙ ap (λ (l : List Resting). Gives (value.Cancelled c.in-Some.order.quantity) (record b { orders = l })) (sym c.take_out.ensures));
}
