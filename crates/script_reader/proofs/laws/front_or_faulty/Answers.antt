use Rattle.script_reader.proofs.books.Texts.FrontLaws.{front_either, never_both}
use Rattle.script_reader.proofs.laws.front_or_faulty.Goals as goal

pub returns : goal.returns
returns c = record { either = front_either; not_both = never_both }
