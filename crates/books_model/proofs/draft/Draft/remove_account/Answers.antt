use Rattle.books_model.proofs.Drafts.{closed-in_range}
use Rattle.books_model.proofs.draft.Draft.remove_account.Goals as goal

pub change_account-requires-clause-range : goal.change_account-requires-clause-range
change_account-requires-clause-range c = closed-in_range c.args.self.now.after c.args.account c.ranges-2.ensures.range c.requires.nothing
