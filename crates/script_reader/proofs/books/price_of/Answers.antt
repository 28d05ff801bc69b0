use Rattle.script_reader.proofs.Common.{lit<, ◌≡◌, ◌∷◌, [], false, codes, Some, refl, sym, subst, ◌∙◌, arith, IsWithin, Version, prices, IsRow, HasNumbers}
use Rattle.script_reader.proofs.Common.{numbers_fault}
use Rattle.script_reader.proofs.HandedOn.{handed_on}
use Rattle.script_reader.proofs.books.RowRanges.{price_ranges}
use Rattle.script_reader.proofs.books.Printing.Printed.{is_late_in}
use Rattle.script_reader.proofs.books.WithoutFault.BooksFaultless.{printed}
use Rattle.script_reader.proofs.LineFaults.Refusing.{prices_late, late_row, numbers_row, read_row, price_fault, gives_price}
use Rattle.script_reader.proofs.text.Tokens.Ranging.{first_read}
use Rattle.script_reader.proofs.Finding.{price_low}
use Rattle.script_reader.proofs.books.price_of.Goals.{Else-is_past_prices, In_ok-instrument}
use Rattle.script_reader.specs.declared.books.Row.TheVariants as row
use Rattle.script_reader.proofs.books.price_of.Goals as goal

early : (version : Version) (c : Else-is_past_prices) → is_late_in 1 (printed version c.args.books.now) ≡ false
early version c = prices_late version c.args.books.now ∙ sym c.is_past_prices.ensures ∙ c.if-is_past_prices.false

numbers_of : (c : In_ok-instrument) → HasNumbers c.args.words.now (price_ranges c.args.books.now.instruments)
numbers_of c = subst (λ r. HasNumbers c.args.words.now (r ∷ prices ∷ [])) c.instruments_of-instruments.ensures.number c.in_ok-instrument.ensures.found.0

instrument_within : (c : In_ok-instrument) → IsWithin 1 c.args.books.now.instruments c.in_ok-instrument.instrument
instrument_within c = first_read (codes "price") (lit< tt) c.requires (numbers_of c)
    c.in_ok-instrument.ensures.found.1

pub overflow_cast-instrument : goal.overflow_cast-instrument
overflow_cast-instrument c = omega (arith, (instrument_within c).1, c.ranges-2.ensures.instruments.1)

pub overflow_sub-instrument : goal.overflow_sub-instrument
overflow_sub-instrument c = (instrument_within c).0

pub returns-then-is_past_prices-clause-err : goal.returns-then-is_past_prices-clause-err
returns-then-is_past_prices-clause-err c version =
    late_row (price_fault version c.ranges-2.ensures c.args.words.now c.requires)
    (prices_late version c.args.books.now ∙ sym c.is_past_prices.ensures ∙ c.if-is_past_prices.true)

pub returns-in_err-instrument-clause-err : goal.returns-in_err-instrument-clause-err
returns-in_err-instrument-clause-err c =
    rw (handed_on c.from_residual.ensures.1) (λ version. numbers_row (price_fault version c.ranges-2.ensures c.args.words.now c.requires)
    (early version (goal.at.returns-in_err-instrument-clause-err c).Else-is_past_prices)
    (subst (λ r. numbers_fault c.args.words.now (r ∷ prices ∷ []) ≡ Some c.in_err-instrument.field-0.0)
    c.instruments_of-instruments.ensures.number c.in_err-instrument.ensures.err))

pub returns-then-is_some-clause-err : goal.returns-then-is_some-clause-err
returns-then-is_some-clause-err c version =
    let at = goal.at.returns-then-is_some-clause-err c in
    read_row (price_fault version c.ranges-2.ensures c.args.words.now c.requires)
    (early version at.Else-is_past_prices) (numbers_of at.In_ok-instrument) refl
    (price_low version c.args.books.now (instrument_within at.In_ok-instrument).0 c.in_ok-instrument.ensures.found.1
    c.price_after.ensures.first ∙ sym c.is_some.ensures ∙ c.if-is_some.true) refl refl refl

pub returns-then-is_full-clause-err : goal.returns-then-is_full-clause-err
returns-then-is_full-clause-err c version =
    let at = goal.at.returns-then-is_full-clause-err c in
    read_row (price_fault version c.ranges-2.ensures c.args.words.now c.requires)
    (early version at.Else-is_past_prices) (numbers_of at.In_ok-instrument) refl
    (price_low version c.args.books.now (instrument_within at.In_ok-instrument).0 c.in_ok-instrument.ensures.found.1
    c.price_after.ensures.first ∙ sym c.is_some.ensures ∙ c.if-is_some.false) refl refl (sym c.is_full.ensures ∙ c.if-is_full.true)

pub returns-clause-row : goal.returns-clause-row
returns-clause-row c version =
    let at = goal.at.returns-clause-row c in
    let found = c.in_ok-instrument.ensures.found in
    let fine = read_row (price_fault version c.ranges-2.ensures c.args.words.now c.requires)
    (early version at.Else-is_past_prices) (numbers_of at.In_ok-instrument) refl
    (price_low version c.args.books.now (instrument_within at.In_ok-instrument).0 found.1 c.price_after.ensures.first
    ∙ sym c.is_some.ensures ∙ c.if-is_some.false) refl refl (sym c.is_full.ensures ∙ c.if-is_full.false) in
    subst (IsRow version c.args.books.now c.args.words.now) (sym (λ i. row.Price (found.1 i) (found.2 i)))
    (gives_price version c.ranges-2.ensures c.requires fine)
