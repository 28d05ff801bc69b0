use Rattle.books_model.proofs.Common.{sym, subst, ◌∙◌, IsWithin}
use Rattle.books_model.proofs.Drafts.{priced-in_range}
use Rattle.books_model.proofs.draft.Draft.put_price.Goals as goal

pub change_price-requires-clause-range : goal.change_price-requires-clause-range
change_price-requires-clause-range c =
    let instrument = subst (λ n. IsWithin 1 n c.args.instrument) (sym c.ranges-2.ensures.sizes.instruments) c.requires.instrument in
    priced-in_range c.args.self.now.after c.args.instrument c.args.price c.ranges-2.ensures.range instrument
    c.requires.range (λ none. c.requires.room (sym c.requires.was ∙ none))
