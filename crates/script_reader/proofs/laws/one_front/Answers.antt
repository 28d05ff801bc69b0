use Rattle.script_reader.proofs.books.Texts.FrontLaws.{one_front}
use Rattle.script_reader.proofs.laws.one_front.Goals as goal

pub returns : goal.returns
returns c = one_front
