use Rattle.books_model.proofs.Common.{is_some, ap}
use Rattle.books_model.proofs.InRange.{change-in_range}
use Rattle.books_model.proofs.draft.Draft.set_cash.Goals as goal

pub change_account-requires-clause-range : goal.change_account-requires-clause-range
change_account-requires-clause-range c =
    change-in_range c.args.self.now.after c.args.account c.args.cash c.ranges-2.ensures.range (ap is_some c.requires.was) c.requires.range
