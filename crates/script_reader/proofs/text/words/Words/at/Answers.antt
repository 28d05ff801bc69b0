use Rattle.script_reader.proofs.Common.{sym, ap, ◌∙◌, arith, word_at}
use Rattle.script_reader.proofs.text.Tokens.Parting.{cut_first, cut_later}
use Rattle.script_reader.proofs.text.words.Words.at.Goals as goal

pub between-requires-clause-within : goal.between-requires-clause-within
between-requires-clause-within c =
    (cut_first c.self.invariant c.self.view_is).within

pub returns-then-index-eq0 : goal.returns-then-index-eq0
returns-then-index-eq0 c =
    c.between.ensures
    ∙ (cut_first c.self.invariant c.self.view_is).word
    ∙ ap (word_at c.args.self.now) (sym c.if-index-eq0.true)

pub overflow_add-self-inside : goal.overflow_add-self-inside
overflow_add-self-inside c =
    let part = cut_later c.self.invariant
    c.self.view_is c.args.index c.if-index-eq0.false c.requires.early c.requires.there in
    omega (arith, part.rises, part.within, c.self.told.0.0)

pub between-requires-2-clause-rises : goal.between-requires-2-clause-rises
between-requires-2-clause-rises c =
    (cut_later c.self.invariant
    c.self.view_is c.args.index c.if-index-eq0.false c.requires.early c.requires.there).rises

pub between-requires-2-clause-within : goal.between-requires-2-clause-within
between-requires-2-clause-within c =
    (cut_later c.self.invariant
    c.self.view_is c.args.index c.if-index-eq0.false c.requires.early c.requires.there).within

pub returns : goal.returns
returns c =
    c.between-2.ensures
    ∙ (cut_later c.self.invariant
    c.self.view_is c.args.index c.if-index-eq0.false c.requires.early c.requires.there).word
