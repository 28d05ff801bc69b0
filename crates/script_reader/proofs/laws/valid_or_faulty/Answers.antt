use Rattle.script_reader.proofs.books.Texts.Deciding.{either, not_both}
use Rattle.script_reader.proofs.laws.valid_or_faulty.Goals as goal

pub returns : goal.returns
returns c = record { either = either; not_both = not_both }
