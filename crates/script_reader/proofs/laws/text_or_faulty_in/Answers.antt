use Rattle.script_reader.proofs.language.Listed.Reached.{either, never_both}
use Rattle.script_reader.proofs.laws.text_or_faulty_in.Goals as goal

pub returns : goal.returns
returns g c = record {
  either = either g.met.L.Language.lawful;
  not_both = never_both g.met.L.Language.lawful;
}
