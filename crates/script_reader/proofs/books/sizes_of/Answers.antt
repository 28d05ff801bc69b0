use Rattle.script_reader.proofs.Common.{lit<, ◌≡◌, ℕ, Bool, true, false, min, not, ◌&&◌, ◌∷◌, [], Some, refl, sym, ap, subst, ◌∙◌, MOST_INSTRUMENTS, MOST_RING}
use Rattle.script_reader.proofs.Common.{IsWithin, Version, most_blocks, Fault, is_number, word_at, Words, is_in_range, sizes, books_size_words, are_numbers}
use Rattle.script_reader.proofs.Common.{are_in_range, word_value, first_reason, header_fault, header_version}
use Rattle.script_reader.specs.Forms.{is_header}
use Rattle.script_reader.proofs.HandedOn.{handed_on}
use Rattle.script_reader.proofs.books.Versions.{blocks_exact}
use Rattle.script_reader.proofs.Conditions.{and_true}
use Rattle.script_reader.proofs.text.Tokens.Numerals.{greatest_u64}
use Rattle.script_reader.proofs.text.Tokens.Ranging.{IsReadWithin, read_within, ranged_true, ranged_false}
use Rattle.script_reader.proofs.text.Tokens.Pairs.{not_both, pair_false}
use Rattle.script_reader.specs.declared.fault.Fault.TheVariants as fault
use Rattle.script_reader.proofs.books.sizes_of.Goals as goal

-- what is wrong with a header whose words and whose numbers are tested
tested : (words : Words) {header numbers ranges : Bool} → is_header words ≡ header → are_numbers (books_size_words words) ≡ numbers
    → are_in_range (books_size_words words) (sizes (header_version words)) ≡ ranges
    → header_fault words ≡ first_reason ((not header, fault.Header) ∷ (not numbers, fault.Number) ∷ (not ranges, fault.Limit) ∷ [])
tested words h n r i = first_reason ((not (h i), fault.Header) ∷ (not (n i), fault.Number) ∷ (not (r i), fault.Limit) ∷ [])

-- a header with a word that is no number in a number's place
no_number : (words : Words) {why : Fault} → why ≡ fault.Number → is_header words ≡ true → are_numbers (books_size_words words) ≡ false
    → header_fault words ≡ Some why
no_number words is h n = tested words h n refl ∙ ap Some (sym is)

-- a header whose numbers are not in their ranges
beyond : (words : Words) {why : Fault} → why ≡ fault.Limit → is_header words ≡ true → are_numbers (books_size_words words) ≡ true
    → are_in_range (books_size_words words) (sizes (header_version words)) ≡ false → header_fault words ≡ Some why
beyond words is h n r = tested words h n r ∙ ap Some (sym is)

-- the blocks that a header gives
blocks_read : (words : Words) {version : Version} {range : ℕ × ℕ} {n : ℕ} → range ≡ (1, most_blocks version) → version ≡ header_version words
    → n ≡ min (word_value words 3) greatest_u64 → IsWithin range.0 range.1 n → IsReadWithin (word_at words 3) 1 (most_blocks (header_version words)) n
blocks_read words {n} is of e within = read_within (word_at words 3) (blocks_exact (header_version words)) e
    (subst (λ r. IsWithin r.0 r.1 n) (is ∙ ap (λ v. (1, most_blocks v)) of) within)

pub returns-in_err-blocks-clause-err : goal.returns-in_err-blocks-clause-err
returns-in_err-blocks-clause-err c = rw (handed_on c.from_residual.ensures.1)
    (no_number c.args.words.now c.in_err-blocks.ensures.err.0 c.requires.header (not_both _ _ (is_number
    (word_at c.args.words.now 7) && true) c.in_err-blocks.ensures.err.1))

pub returns-in_err-ring-clause-err : goal.returns-in_err-ring-clause-err
returns-in_err-ring-clause-err c = rw (handed_on c.from_residual-in_err-ring.ensures.1)
    (no_number c.args.words.now c.in_err-ring.ensures.err.0 c.requires.header
    (and_true c.in_ok-blocks.ensures.found.0 (and_true c.in_ok-blocks.ensures.found.1 (λ i. c.in_err-ring.ensures.err.1 i && true))))

pub returns-in_err-both_within-clause-err : goal.returns-in_err-both_within-clause-err
returns-in_err-both_within-clause-err c =
    let words = c.args.words.now in
    let found = c.in_ok-blocks.ensures.found in
    rw (handed_on c.from_residual-in_err-both_within.ensures.1)
    (beyond words c.in_err-both_within.ensures.err.0 c.requires.header (and_true found.0 (and_true found.1 (and_true c.in_ok-ring.ensures.found.0 refl)))
    (not_both _ _ (is_in_range (word_at words 7, (1, MOST_RING)) && true) (pair_false (word_at words 3) (word_at words 5) {r = (
      1,
      most_blocks
          (header_version words),
    )} {s = (1, MOST_INSTRUMENTS)}
    (blocks_exact (header_version words)) (lit< tt) found.2 found.3
    (subst (λ r. ¬ (IsWithin r.0 r.1 c.in_ok-blocks.blocks × IsWithin 1 MOST_INSTRUMENTS c.in_ok-blocks.instruments)) (c.blocks-2.ensures.range
    ∙ ap (λ v. (1, most_blocks v)) c.requires.version) c.in_err-both_within.ensures.err.1))))

pub returns-in_err-within-clause-err : goal.returns-in_err-within-clause-err
returns-in_err-within-clause-err c =
    let words = c.args.words.now in
    let found = c.in_ok-blocks.ensures.found in
    let within = c.in_ok-both_within.ensures.ok in
    let blocks = blocks_read words c.blocks-2.ensures.range c.requires.version found.2 within.0 in
    let instruments = ranged_true (word_at words 5) {high = MOST_INSTRUMENTS} (lit< tt) found.3 within.1 in
    let ring = ranged_false (word_at words 7) {high = MOST_RING} (lit< tt) c.in_ok-ring.ensures.found.1 c.in_err-within.ensures.range in
    rw (handed_on c.from_residual-in_err-within.ensures.1)
    (beyond words c.in_err-within.ensures.err c.requires.header (and_true found.0 (and_true found.1 (and_true c.in_ok-ring.ensures.found.0 refl)))
    (and_true blocks.ranged (and_true instruments (λ i. ring i && true))))

pub returns-clause-fine : goal.returns-clause-fine
returns-clause-fine c =
    let words = c.args.words.now in
    let found = c.in_ok-blocks.ensures.found in
    let within = c.in_ok-both_within.ensures.ok in
    let blocks = blocks_read words c.blocks-2.ensures.range c.requires.version found.2 within.0 in
    let instruments = ranged_true (word_at words 5) {high = MOST_INSTRUMENTS} (lit< tt) found.3 within.1 in
    let ring = ranged_true (word_at words 7) {high = MOST_RING} (lit< tt) c.in_ok-ring.ensures.found.1 c.in_ok-within.ensures.range.0 in
    tested words c.requires.header (and_true found.0 (and_true found.1 (and_true c.in_ok-ring.ensures.found.0 refl)))
    (and_true blocks.ranged (and_true instruments (and_true ring refl)))

pub returns-clause-found : goal.returns-clause-found
returns-clause-found c =
    let words = c.args.words.now in
    let found = c.in_ok-blocks.ensures.found in
    let within = c.in_ok-both_within.ensures.ok in (
      (blocks_read words c.blocks-2.ensures.range c.requires.version found.2 within.0).value,
      (read_within (word_at words 5) {high = MOST_INSTRUMENTS} (lit< tt) found.3 within.1).value,
      c.in_ok-within.ensures.range.1
          ∙ (read_within (word_at words 7) {high = MOST_RING} (lit< tt) c.in_ok-ring.ensures.found.1 c.in_ok-within.ensures.range.0).value,
    )
