use Rattle.order_text.proofs.Common.{◌≡◌, ℕ, ◌+◌, ◌≤◌, ◌&&◌, ◌++◌, List, length, nat_lt, false, refl, sym, ap, ◌∙◌, subst, arith, the_view, Resting, Trade}
use Rattle.order_text.proofs.Common.{incoming, partners, rest_of, trades_down, OrderBook, blocks_of, HasRoom}
use Rattle.std.proofs.Common.{◌*◌}
use Rattle.order_text.specs.declared.limits.TheConstants.{MOST_BLOCKS}
use Rattle.order_text.proofs.Rooms.{entered_has_room, no_more_after}
use Rattle.order_text.proofs.book.Book.enter.Goals as goal

pub lacks_blocks-requires : goal.lacks_blocks-requires
lacks_blocks-requires c = let b : OrderBook = the_view c.self.inside in let room : HasRoom b = c.self.invariant in
    let order : Resting = incoming b c.args.buys c.args.instrument c.args.price c.args.quantity in
    let few : blocks_of c.in_ok-matched.matched.orders.items ≤ MOST_BLOCKS =
    subst (λ (l : List Resting). blocks_of l ≤ MOST_BLOCKS) (sym c.in_ok-matched.ensures.orders)
    (omega (arith, no_more_after (trades_down c.args.quantity (partners order b.orders)) b.orders, room.enough, room.blocks_are.1)) in
    record { few = omega (arith, few, c.len.ensures, c.in_ok-matched.matched.orders.ok.0) }

-- the orders after the trades, and what is left of the new one
pub invariant_of-self : goal.invariant_of-self
invariant_of-self c = let b : OrderBook = the_view c.self.inside in
    let order : Resting = incoming b c.args.buys c.args.instrument c.args.price c.args.quantity in
    let m = c.in_ok-matched.matched in let trades : List Trade = trades_down c.args.quantity (partners order b.orders) in
    let len : c.len.result ≡ length m.orders.items = omega (arith, c.len.ensures, m.orders.ok.0) in
    let fits : (nat_lt 0 m.left && nat_lt b.blocks (blocks_of m.orders.items + 2)) ≡ false =
    ap (λ (n : ℕ). nat_lt 0 m.left && nat_lt b.blocks (2 * n + 2)) (sym len) ∙ (sym c.lacks_blocks.ensures ∙ c.if-lacks_blocks.false) in
    subst (λ (l : List Resting). HasRoom (record { blocks = b.blocks; last = b.last + 1; orders = l }))
    (sym (c.in_ok-self-inside.ensures ∙ ap (λ (l : List Resting). l ++ rest_of order m.left) c.in_ok-matched.ensures.orders))
    (entered_has_room b.blocks b.last b.orders trades order c.self.invariant refl m.left c.if-self.false
    (ap (λ (l : List Resting). nat_lt 0 m.left && nat_lt b.blocks (blocks_of l + 2)) (sym c.in_ok-matched.ensures.orders) ∙ fits))
