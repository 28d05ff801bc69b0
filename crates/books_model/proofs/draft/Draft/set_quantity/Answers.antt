use Rattle.books_model.proofs.Common.{sym, ◌∙◌, arith}
use Rattle.books_model.proofs.Drafts.{unheld-in_range, held-in_range}
use Rattle.books_model.proofs.draft.Draft.set_quantity.Goals as goal

pub change_position-requires-clause-range : goal.change_position-requires-clause-range
change_position-requires-clause-range c = unheld-in_range c.args.self.now.after c.args.account c.args.instrument c.ranges-2.ensures.range

pub change_position-requires-2-clause-range : goal.change_position-requires-2-clause-range
change_position-requires-2-clause-range c =
    held-in_range c.args.self.now.after c.args.account c.args.instrument c.args.quantity c.ranges-2.ensures.range
    c.requires.account c.requires.price (omega (arith, c.if-quantity-eq0.false), c.requires.range) (λ none. c.requires.room (sym c.requires.was ∙ none))
