use Rattle.script_reader.proofs.books.OperationRows.{each_within_two}
use Rattle.script_reader.proofs.laws.each_input_is_within_two.Goals as goal

pub returns : goal.returns
returns c = each_within_two
