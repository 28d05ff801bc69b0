use Rattle.books_model.proofs.Common.{◌∙◌}
use Rattle.books_model.proofs.Maps.Changes.{changed-found, changed-missed}
use Rattle.books_model.proofs.overlay.change_of.Goals as goal

pub returns-clause-changed : goal.returns-clause-changed
returns-clause-changed g c = changed-found g.met.K.Ord.total c.args.changes.now.entries c.args.key c.copied.result (c.copied.ensures ∙ c.get.ensures.value)

pub returns-clause-same : goal.returns-clause-same
returns-clause-same g c = changed-missed g.met.K.Ord.total c.args.changes.now.entries c.args.key c.copied.result (c.copied.ensures ∙ c.get.ensures.value)
