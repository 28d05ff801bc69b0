use Rattle.script_reader.proofs.Common.{true, ◌&&◌, refl, ◌∙◌, is_number, word_at, is_in_range}
use Rattle.script_reader.proofs.HandedOn.{handed_on}
use Rattle.script_reader.proofs.Conditions.{and_true}
use Rattle.script_reader.proofs.text.Tokens.Ranging.{behind_four, has_numbers, limit_fault, ranged_false, ranged_true, read_within}
use Rattle.script_reader.proofs.text.Tokens.Pairs.{not_both, number_fault, pair_false}
use Rattle.script_reader.proofs.text.words.Words.three_numbers.Goals as goal

pub returns-in_err-a-clause-err : goal.returns-in_err-a-clause-err
returns-in_err-a-clause-err c = rw (handed_on c.from_residual.ensures.1)
    (number_fault c.args.self.now _ c.in_err-a.ensures.err.0 (behind_four c.args.self.now c.requires.four)
    (not_both _ _ (is_number (word_at c.args.self.now 3) && true) c.in_err-a.ensures.err.1))

pub returns-in_err-c-clause-err : goal.returns-in_err-c-clause-err
returns-in_err-c-clause-err c = rw (handed_on c.from_residual-in_err-c.ensures.1)
    (number_fault c.args.self.now _ c.in_err-c.ensures.err.0 (behind_four c.args.self.now c.requires.four)
    (and_true c.in_ok-a.ensures.found.0 (and_true c.in_ok-a.ensures.found.1 (λ i. c.in_err-c.ensures.err.1 i && true))))

pub returns-in_err-both_within-clause-err : goal.returns-in_err-both_within-clause-err
returns-in_err-both_within-clause-err c =
    let words = c.args.self.now in
    let found = c.in_ok-a.ensures.found in
    rw (handed_on c.from_residual-in_err-both_within.ensures.1)
    (limit_fault words _ c.in_err-both_within.ensures.err.0 (behind_four words c.requires.four)
    (and_true found.0 (and_true found.1 (and_true c.in_ok-c.ensures.found.0 refl)))
    (not_both _ _ (is_in_range (word_at words 3, c.args.third) && true)
    (pair_false (word_at words 1) (word_at words 2) c.requires.exact.0 c.requires.exact.1 found.2 found.3 c.in_err-both_within.ensures.err.1)))

pub returns-in_err-within-clause-err : goal.returns-in_err-within-clause-err
returns-in_err-within-clause-err c =
    let words = c.args.self.now in
    let found = c.in_ok-a.ensures.found in
    let exact = c.requires.exact in
    let within = c.in_ok-both_within.ensures.ok in
    let beyond = ranged_false (word_at words 3) exact.2 c.in_ok-c.ensures.found.1 c.in_err-within.ensures.range in
    rw (handed_on c.from_residual-in_err-within.ensures.1)
    (limit_fault words _ c.in_err-within.ensures.err (behind_four words c.requires.four)
    (and_true found.0 (and_true found.1 (and_true c.in_ok-c.ensures.found.0 refl)))
    (and_true (ranged_true (word_at words 1) exact.0 found.2 within.0) (and_true (ranged_true (word_at words 2) exact.1 found.3 within.1)
    (λ i. beyond i && true))))

pub returns-clause-found : goal.returns-clause-found
returns-clause-found c =
    let words = c.args.self.now in
    let found = c.in_ok-a.ensures.found in
    let exact = c.requires.exact in
    let first = read_within (word_at words 1) exact.0 found.2 c.in_ok-both_within.ensures.ok.0 in
    let second = read_within (word_at words 2) exact.1 found.3 c.in_ok-both_within.ensures.ok.1 in
    let third = read_within (word_at words 3) exact.2 c.in_ok-c.ensures.found.1 c.in_ok-within.ensures.range.0 in (
      has_numbers (behind_four words c.requires.four) (and_true found.0 (and_true found.1 (and_true c.in_ok-c.ensures.found.0 refl)))
          (and_true first.ranged (and_true second.ranged (and_true third.ranged refl))),
      first.value,
      second.value,
      c.in_ok-within.ensures.range.1 ∙ third.value,
    )
