use Rattle.script_reader.proofs.books.Texts.Deciding.{one_fault}
use Rattle.script_reader.proofs.laws.one_fault.Goals as goal

pub returns : goal.returns
returns c = one_fault
