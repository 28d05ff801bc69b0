use Rattle.script_reader.proofs.language.Listed.Telling.{one_text}
use Rattle.script_reader.proofs.laws.one_text_in.Goals as goal

pub returns : goal.returns
returns g c = one_text g.L.Language.language g.met.L.Language.lawful
