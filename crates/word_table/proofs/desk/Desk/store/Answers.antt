use Rattle.word_table.proofs.Common.{number}
use Rattle.word_table.proofs.Calls.Committing.{noted_old}
use Rattle.word_table.proofs.desk.Desk.store.Goals as goal

pub returns-clause-noted : goal.returns-clause-noted
returns-clause-noted g c before old trace =
    noted_old (number c.args.pass.now.view) c.args.a c.args.value c.args.pass.now.view c.store_value.new.self.view before old c.store_value.ensures.view trace
