use Rattle.script_reader.proofs.Common.{◌<◌, refl, sym, ◌∙◌, arith, word_at}
use Rattle.script_reader.proofs.text.Tokens.Numerals.{greatest_u64, read_is}
use Rattle.script_reader.proofs.language.Listed.Heads.{one_size_words}
use Rattle.script_reader.proofs.text.words.Words.one_size.Goals as goal

pub returns-clause-found : goal.returns-clause-found
returns-clause-found c =
    let found = c.in_ok-number.ensures.found in
    let range = c.in_ok-size.ensures.range in
    let small : c.in_ok-size.size < greatest_u64 = omega (arith, range.0.1, range.1, c.requires.exact) in (
      (omega (arith, range.0.0, range.1), omega (arith, range.0.1, range.1), omega (arith, small), tt),
      one_size_words c.args.title.now c.args.name.now c.args.range c.args.self.now c.in_ok-size.size (c.if-not-has_one_size.ensures.length refl)
          (sym c.has_one_size.ensures.value ∙ c.if-not-has_one_size.false)
          (read_is (word_at c.args.self.now 3) c.in_ok-size.size (found.0, sym found.1 ∙ sym range.1) small),
    )
