use Rattle.script_reader.proofs.Common.{codes, sym, ◌∙◌}
use Rattle.script_reader.proofs.LineFaults.LineKinds.{only_word}
use Rattle.script_reader.proofs.books.OperationRows.{free}
use Rattle.script_reader.proofs.books.operations.operation_of.Goals as goal

pub returns-in_default-clause-found : goal.returns-in_default-clause-found
returns-in_default-clause-found c = free (tt, only_word (codes "next") c.args.words.now (sym c.is_only.ensures ∙ c.if-is_only.true))
