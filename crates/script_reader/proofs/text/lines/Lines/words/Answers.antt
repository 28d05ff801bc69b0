use Rattle.script_reader.proofs.Common.{refl, sym, subst, ◌∙◌, IsFreeOf, LINE_FEED}
use Rattle.script_reader.proofs.text.lines.Lines.words.Goals as goal

pub returns-in-None-clause-end : goal.returns-in-None-clause-end
returns-in-None-clause-end c = (refl, subst (IsFreeOf LINE_FEED) c.self.view_is c.in-None.ensures.none, refl)

pub returns-in-Some-clause-found : goal.returns-in-Some-clause-found
returns-in-Some-clause-found c = (c.in-Some.ensures.found.0, sym c.self.view_is ∙ c.in-Some.ensures.found.1)
