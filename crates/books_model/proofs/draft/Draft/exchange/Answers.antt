use Rattle.books_model.proofs.Common.{ℕ, is_some, not, sym, ap, ◌∙◌}
use Rattle.books_model.proofs.Drafts.{room_left, put_position-apart}
use Rattle.books_model.proofs.draft.Draft.exchange.Goals.{else-is_none-via-then-is_none+else-is_full, else-is_none-via-else-is_none}
use Rattle.std.specs.FinMap as map
use Rattle.books_model.proofs.draft.Draft.exchange.Goals as goal

-- the buyer holds what it held after the seller's position is lowered
pub set_quantity-requires-2-clause-was : goal.set_quantity-requires-2-clause-was
set_quantity-requires-2-clause-was c =
    ap (λ books. map.get books.positions (c.args.buys.account, c.args.instrument)) c.in_ok-set_quantity.ensures.ok
    ∙ put_position-apart c.args.self.now.after c.args.buys.account c.args.sells.account c.args.instrument _ c.requires.apart
    ∙ c.requires.buyer.held

-- the buyer has a position, or a block is left after the seller's is lowered
pub set_quantity-requires-2-clause-room : goal.set_quantity-requires-2-clause-room
set_quantity-requires-2-clause-room c = λ none. elim c.else-is_none.branch [
  | else-is_none-via-then-is_none+else-is_full w ↦
      room_left c.set_quantity.new.self.after w.is_full.ensures.range (sym w.is_full.ensures.value ∙ w.if-is_full.false)
  | else-is_none-via-else-is_none w ↦
      let some = c.is_none.ensures ∙ ap not w.if-is_none.false in
      let no_more = sym some ∙ ap (λ x. is_some {T = ℕ} x) none in
      absurd (cc)
]
