use Rattle.script_reader.proofs.language.Listed.Telling.{one_fault}
use Rattle.script_reader.proofs.laws.one_fault_in.Goals as goal

pub returns : goal.returns
returns g c = one_fault g.L.Language.language g.met.L.Language.lawful
