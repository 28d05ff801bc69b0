use Rattle.script_reader.proofs.Common.{lit<, ◌≡◌, ◌≤◌, ◌∷◌, [], Bool, false, not, ◌==◌, codes, Some, refl, sym, ap, subst, ◌∙◌, arith, list_any}
use Rattle.script_reader.proofs.Common.{GREATEST_ACCOUNT, IsWithin, Version, accounts, quantities, word_value, IsRow, books_words, fault_of, HasNumbers}
use Rattle.script_reader.proofs.Common.{numbers_fault}
use Rattle.script_reader.proofs.HandedOn.{handed_on}
use Rattle.script_reader.proofs.books.RowRanges.{position_ranges}
use Rattle.script_reader.proofs.books.Printing.Printed.{reasons, is_low_in}
use Rattle.script_reader.proofs.books.WithoutFault.BooksFaultless.{printed}
use Rattle.script_reader.proofs.LineFaults.Refusing.{has_no_block, late_row, numbers_row, read_row, some_is, position_fault, gives_position}
use Rattle.script_reader.proofs.text.Tokens.Ranging.{first_read, second_read}
use Rattle.script_reader.proofs.Finding.{position_low, given_is_found}
use Rattle.script_reader.proofs.books.position_of.Goals.{In_ok-account, Else-is_some, Else-is_none, Else-is_none-2}
use Rattle.std.specs.FinMap as map
use Rattle.script_reader.specs.declared.books.Row.TheVariants as row
use Rattle.script_reader.proofs.books.position_of.Goals as goal

numbers_of : (c : In_ok-account) → HasNumbers c.args.words.now (position_ranges c.args.books.now.instruments)
numbers_of c = subst (λ r. HasNumbers c.args.words.now (accounts ∷ r ∷ quantities ∷ [])) c.instruments_of-instruments.ensures.number
    c.in_ok-account.ensures.found.0

account_within : (c : In_ok-account) → IsWithin 1 GREATEST_ACCOUNT c.in_ok-account.account
account_within c = first_read (codes "position") (lit< tt) c.requires (numbers_of c) c.in_ok-account.ensures.found.1

instrument_within : (c : In_ok-account) → IsWithin 1 c.args.books.now.instruments c.in_ok-account.instrument
instrument_within c =
    second_read (codes "position") (lit< tt) c.requires (numbers_of c) c.in_ok-account.ensures.found.2

pub overflow_cast-account : goal.overflow_cast-account
overflow_cast-account c = omega (arith, (account_within c).1)

pub overflow_cast-instrument : goal.overflow_cast-instrument
overflow_cast-instrument c = omega (arith, (instrument_within c).1, c.ranges-2.ensures.instruments.1)

pub overflow_sub-instrument : goal.overflow_sub-instrument
overflow_sub-instrument c = (instrument_within c).0

pub returns-then-has_calls-clause-err : goal.returns-then-has_calls-clause-err
returns-then-has_calls-clause-err c version =
    late_row (position_fault version c.ranges-2.ensures c.args.words.now c.requires)
    (sym (some_is c.args.books.now.calls) ∙ sym c.has_calls.ensures ∙ c.if-has_calls.true)

pub returns-in_err-account-clause-err : goal.returns-in_err-account-clause-err
returns-in_err-account-clause-err c =
    rw (handed_on c.from_residual.ensures.1) (λ version. numbers_row (position_fault version c.ranges-2.ensures c.args.words.now c.requires)
    (sym (some_is c.args.books.now.calls) ∙ sym c.has_calls.ensures ∙ c.if-has_calls.false)
    (subst (λ r. numbers_fault c.args.words.now (accounts ∷ r ∷ quantities ∷ []) ≡ Some c.in_err-account.field-0.0)
    c.instruments_of-instruments.ensures.number c.in_err-account.ensures.err))

-- what is wrong with the line, its numbers read
wrong : (version : Version) (c : In_ok-account) {low account price full : Bool}
    → is_low_in 2 (word_value c.args.words.now 1, word_value c.args.words.now 2) (printed version c.args.books.now) ≡ low
    → not (list_any (λ e. e.0 == word_value c.args.words.now 1) (map.entries c.args.books.now.accounts)) ≡ account
    → not (list_any (λ e. e.0 == word_value c.args.words.now 2) (map.entries c.args.books.now.prices)) ≡ price
    → has_no_block c.args.books.now ≡ full
    → fault_of (books_words version c.args.books.now) c.args.words.now ≡ reasons false false false false low account price full
wrong version c = read_row (position_fault version c.ranges-2.ensures c.args.words.now c.requires)
    (sym (some_is c.args.books.now.calls) ∙ sym c.has_calls.ensures ∙ c.if-has_calls.false) (numbers_of c) refl

-- the position rises, its account is given, and its instrument has a price
rises : (version : Version) (c : Else-is_some) → 1 ≤ c.in_ok-account.instrument
    → is_low_in 2 (word_value c.args.words.now 1, word_value c.args.words.now 2) (printed version c.args.books.now) ≡ false
rises version c some = position_low _ version c.args.books.now some c.in_ok-account.ensures.found.1 c.in_ok-account.ensures.found.2
    c.position_after.ensures.first ∙ sym c.is_some.ensures ∙ c.if-is_some.false

given : (c : Else-is_none) → not (list_any (λ e. e.0 == word_value c.args.words.now 1) (map.entries c.args.books.now.accounts)) ≡ false
given c = ap not (given_is_found c.args.books.now.accounts
    c.in_ok-account.ensures.found.1 c.cash.result c.cash.ensures ∙ c.is_none.ensures ∙ ap not c.if-is_none.false)

priced : (c : Else-is_none-2) → not (list_any (λ e. e.0 == word_value c.args.words.now 2) (map.entries c.args.books.now.prices)) ≡ false
priced c = ap not (given_is_found c.args.books.now.prices
    c.in_ok-account.ensures.found.2 c.price.result c.price.ensures ∙ c.is_none-2.ensures ∙ ap not c.if-is_none-2.false)

pub returns-then-is_some-clause-err : goal.returns-then-is_some-clause-err
returns-then-is_some-clause-err c version =
    let at = goal.at.returns-then-is_some-clause-err c in
    let found = c.in_ok-account.ensures.found in
    wrong version at.In_ok-account (position_low _ version c.args.books.now (instrument_within at.In_ok-account).0 found.1 found.2
    c.position_after.ensures.first ∙ sym c.is_some.ensures ∙ c.if-is_some.true) refl refl refl

pub returns-then-is_none-clause-err : goal.returns-then-is_none-clause-err
returns-then-is_none-clause-err c version =
    let at = goal.at.returns-then-is_none-clause-err c in
    wrong version at.In_ok-account (rises version at.Else-is_some (instrument_within at.In_ok-account).0)
    (ap not (given_is_found c.args.books.now.accounts
    c.in_ok-account.ensures.found.1 c.cash.result c.cash.ensures ∙ c.is_none.ensures ∙ ap not c.if-is_none.true)) refl refl

pub returns-then-is_none-2-clause-err : goal.returns-then-is_none-2-clause-err
returns-then-is_none-2-clause-err c version =
    let at = goal.at.returns-then-is_none-2-clause-err c in
    wrong version at.In_ok-account (rises version at.Else-is_some (instrument_within at.In_ok-account).0) (given at.Else-is_none)
    (ap not (given_is_found c.args.books.now.prices
    c.in_ok-account.ensures.found.2 c.price.result c.price.ensures ∙ c.is_none-2.ensures ∙ ap not c.if-is_none-2.true)) refl

pub returns-then-is_full-clause-err : goal.returns-then-is_full-clause-err
returns-then-is_full-clause-err c version =
    let at = goal.at.returns-then-is_full-clause-err c in
    wrong version at.In_ok-account (rises version at.Else-is_some (instrument_within at.In_ok-account).0) (given at.Else-is_none)
    (priced at.Else-is_none-2) (sym c.is_full.ensures ∙ c.if-is_full.true)

pub returns-clause-row : goal.returns-clause-row
returns-clause-row c version =
    let at = goal.at.returns-clause-row c in
    let found = c.in_ok-account.ensures.found in
    subst (IsRow version c.args.books.now c.args.words.now) (sym (λ i. row.Position (found.1 i) (found.2 i) (found.3 i)))
    (gives_position version c.ranges-2.ensures c.requires
    (wrong version at.In_ok-account (rises version at.Else-is_some (instrument_within at.In_ok-account).0) (given at.Else-is_none)
    (priced at.Else-is_none-2) (sym c.is_full.ensures ∙ c.if-is_full.false)))
