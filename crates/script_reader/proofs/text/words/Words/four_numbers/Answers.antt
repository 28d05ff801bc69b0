use Rattle.script_reader.proofs.Common.{true, ◌&&◌, refl, is_number, word_at, is_in_range}
use Rattle.script_reader.proofs.HandedOn.{handed_on}
use Rattle.script_reader.proofs.Conditions.{and_true}
use Rattle.script_reader.proofs.text.Tokens.Ranging.{behind_five, has_numbers, limit_fault, ranged_true, read_within}
use Rattle.script_reader.proofs.text.Tokens.Pairs.{not_both, number_fault, pair_false}
use Rattle.script_reader.proofs.text.words.Words.four_numbers.Goals as goal

pub returns-in_err-a-clause-err : goal.returns-in_err-a-clause-err
returns-in_err-a-clause-err c = rw (handed_on c.from_residual.ensures.1)
    (number_fault c.args.self.now _ c.in_err-a.ensures.err.0 (behind_five c.args.self.now c.requires.five)
    (not_both _ _ (is_number (word_at c.args.self.now 3) && (is_number (word_at c.args.self.now 4) && true)) c.in_err-a.ensures.err.1))

pub returns-in_err-c-clause-err : goal.returns-in_err-c-clause-err
returns-in_err-c-clause-err c = rw (handed_on c.from_residual-in_err-c.ensures.1)
    (number_fault c.args.self.now _ c.in_err-c.ensures.err.0 (behind_five c.args.self.now c.requires.five)
    (and_true c.in_ok-a.ensures.found.0 (and_true c.in_ok-a.ensures.found.1 (not_both _ _ true c.in_err-c.ensures.err.1))))

pub returns-in_err-both_within-clause-err : goal.returns-in_err-both_within-clause-err
returns-in_err-both_within-clause-err c =
    let words = c.args.self.now in
    let one = c.in_ok-a.ensures.found in
    let other = c.in_ok-c.ensures.found in
    rw (handed_on c.from_residual-in_err-both_within.ensures.1)
    (limit_fault words _ c.in_err-both_within.ensures.err.0 (behind_five words c.requires.five)
    (and_true one.0 (and_true one.1 (and_true other.0 (and_true other.1 refl))))
    (not_both _ _ (is_in_range (word_at words 3, c.args.third) && (is_in_range (word_at words 4, c.args.fourth) && true))
    (pair_false (word_at words 1) (word_at words 2) c.requires.exact.0 c.requires.exact.1 one.2 one.3 c.in_err-both_within.ensures.err.1)))

pub returns-in_err-both_within-2-clause-err : goal.returns-in_err-both_within-2-clause-err
returns-in_err-both_within-2-clause-err c =
    let words = c.args.self.now in
    let one = c.in_ok-a.ensures.found in
    let other = c.in_ok-c.ensures.found in
    let exact = c.requires.exact in
    let within = c.in_ok-both_within.ensures.ok in
    rw (handed_on c.from_residual-in_err-both_within-2.ensures.1)
    (limit_fault words _ c.in_err-both_within-2.ensures.err.0 (behind_five words c.requires.five)
    (and_true one.0 (and_true one.1 (and_true other.0 (and_true other.1 refl))))
    (and_true (ranged_true (word_at words 1) exact.0 one.2 within.0) (and_true (ranged_true (word_at words 2) exact.1 one.3 within.1)
    (not_both _ _ true (pair_false (word_at words 3) (word_at words 4) exact.2 exact.3 other.2 other.3 c.in_err-both_within-2.ensures.err.1)))))

pub returns-clause-found : goal.returns-clause-found
returns-clause-found c =
    let words = c.args.self.now in
    let one = c.in_ok-a.ensures.found in
    let other = c.in_ok-c.ensures.found in
    let exact = c.requires.exact in
    let first = read_within (word_at words 1) exact.0 one.2 c.in_ok-both_within.ensures.ok.0 in
    let second = read_within (word_at words 2) exact.1 one.3 c.in_ok-both_within.ensures.ok.1 in
    let third = read_within (word_at words 3) exact.2 other.2 c.in_ok-both_within-2.ensures.ok.0 in
    let fourth = read_within (word_at words 4) exact.3 other.3 c.in_ok-both_within-2.ensures.ok.1 in (
      has_numbers (behind_five words c.requires.five) (and_true one.0 (and_true one.1 (and_true other.0 (and_true other.1 refl))))
          (and_true first.ranged (and_true second.ranged (and_true third.ranged (and_true fourth.ranged refl)))),
      first.value,
      second.value,
      third.value,
      fourth.value,
    )
