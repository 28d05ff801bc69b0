use Rattle.script_reader.proofs.Common.{sym, ◌∙◌}
use Rattle.script_reader.proofs.text.Tokens.Naming.{IsName-text}
use Rattle.script_reader.proofs.text.names.name_of.Goals as goal

pub returns-in_default-clause-none : goal.returns-in_default-clause-none
returns-in_default-clause-none c = absurd (c.in_default.ensures.cases.0 (IsName-text c.args.word.now (sym c.is_name.ensures ∙ c.if-not-is_name.false)))
