use Rattle.script_reader.proofs.books.Texts.OneInput.{one_input}
use Rattle.script_reader.proofs.laws.one_input.Goals as goal

pub returns : goal.returns
returns c = one_input
