use Rattle.script_reader.proofs.Common.{◌<◌, refl, sym, ◌∙◌, arith, word_at}
use Rattle.script_reader.proofs.text.Tokens.Numerals.{greatest_u64, read_is}
use Rattle.script_reader.proofs.language.Listed.Heads.{two_sizes_words}
use Rattle.script_reader.proofs.text.words.Words.two_sizes.Goals as goal

pub returns-clause-found : goal.returns-clause-found
returns-clause-found c =
    let found = c.in_ok-a.ensures.found in
    let within = c.in_ok-both_within.ensures.ok in
    let small : c.in_ok-a.a < greatest_u64 = omega (arith, within.0.1, c.requires.exact.0) in
    let other : c.in_ok-a.b < greatest_u64 = omega (arith, within.1.1, c.requires.exact.1) in (
      (
        omega (arith, within.0.0),
        omega (arith, within.0.1),
        omega (arith, small),
        (omega (arith, within.1.0), omega (arith, within.1.1), omega (arith, other), tt),
      ),
      two_sizes_words c.args.title.now c.args.name.now c.args.range c.args.other.now c.args.other_range c.args.self.now c.in_ok-a.a c.in_ok-a.b
          (c.if-not-has_two_sizes.ensures.length refl)
          (sym c.has_two_sizes.ensures.value ∙ c.if-not-has_two_sizes.false)
          (read_is (word_at c.args.self.now 3) c.in_ok-a.a (found.0, sym found.2) small)
          (read_is (word_at c.args.self.now 5) c.in_ok-a.b (found.1, sym found.3) other),
    )
