use Rattle.books_model.proofs.Common.{Change}
use Rattle.books_model.proofs.Maps.Changes.{changed-noted, KnowBefore-noted}
use Rattle.books_model.proofs.overlay.note_change.Goals as goal

pub returns-clause-ok : goal.returns-clause-ok
returns-clause-ok g c =
    let change : Change = record { before = c.value_before-before.result; now = c.args.now } in
    λ m. changed-noted g.met.K.Ord.total g.met.K.Key.exact c.args.changes.now.entries c.insert.new.self.entries
    c.args.key change c.in_ok-insert.ensures.updates.0 m

pub returns-clause-known : goal.returns-clause-known
returns-clause-known g c =
    let change : Change = record { before = c.value_before-before.result; now = c.args.now } in
    λ m was known. KnowBefore-noted g.met.K.Ord.total g.met.K.Key.exact c.args.changes.now.entries
    c.insert.new.self.entries c.args.key change c.in_ok-insert.ensures.updates.0 m (c.value_before-before.ensures m was known) known
