use Rattle.script_reader.proofs.Common.{true, refl, word_at}
use Rattle.script_reader.proofs.HandedOn.{handed_on}
use Rattle.script_reader.proofs.Conditions.{and_true}
use Rattle.script_reader.proofs.text.Tokens.Ranging.{has_numbers, limit_fault, read_within}
use Rattle.script_reader.proofs.text.Tokens.Pairs.{behind_three, not_both, number_fault, pair_false}
use Rattle.script_reader.proofs.text.words.Words.two_numbers.Goals as goal

pub returns-in_err-a-clause-err : goal.returns-in_err-a-clause-err
returns-in_err-a-clause-err c = rw (handed_on c.from_residual.ensures.1)
    (number_fault c.args.self.now _ c.in_err-a.ensures.err.0 (behind_three c.args.self.now c.requires.three) (not_both _ _ true c.in_err-a.ensures.err.1))

pub returns-in_err-both_within-clause-err : goal.returns-in_err-both_within-clause-err
returns-in_err-both_within-clause-err c =
    let words = c.args.self.now in
    let found = c.in_ok-a.ensures.found in
    rw (handed_on c.from_residual-in_err-both_within.ensures.1)
    (limit_fault words _ c.in_err-both_within.ensures.err.0 (behind_three words c.requires.three)
    (and_true found.0 (and_true found.1 refl))
    (not_both _ _ true (pair_false (word_at words 1)
    (word_at words 2) c.requires.exact.0 c.requires.exact.1 found.2 found.3 c.in_err-both_within.ensures.err.1)))

pub returns-clause-found : goal.returns-clause-found
returns-clause-found c =
    let words = c.args.self.now in
    let found = c.in_ok-a.ensures.found in
    let first = read_within (word_at words 1) c.requires.exact.0 found.2 c.in_ok-both_within.ensures.ok.0 in
    let second = read_within (word_at words 2) c.requires.exact.1 found.3 c.in_ok-both_within.ensures.ok.1 in (
      has_numbers (behind_three words c.requires.three) (and_true found.0 (and_true found.1 refl)) (and_true first.ranged (and_true second.ranged refl)),
      first.value,
      second.value,
    )
