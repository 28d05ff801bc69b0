use Rattle.txn_books.proofs.Common.{◌≡◌, None, sym, ap, subst, ◌∙◌, inl, inr, arith, begins_trans}
use Rattle.std.proofs.lemmas.Bool.{cases_lt}
use Rattle.books_model.proofs.Maps.Comparing.{none_of}
use Rattle.books_model.proofs.Sums.{holds_nothing, holds_one}
use Rattle.txn_books.proofs.OnBooks.Looking.{saw_told, told_saw, saw_then, saw_stands}
use Rattle.std.specs.FinMap as map
use Rattle.txn_books.proofs.quantity.holds_any.Goals as goal

pub quantity-requires-clause-stands : goal.quantity-requires-clause-stands
quantity-requires-clause-stands g c =
    let i = c.loop-instrument.invariant in
    saw_stands i.shape i.begins c.requires.stands i.none

pub returns-then-is_some-clause-told : goal.returns-then-is_some-clause-told
returns-then-is_some-clause-told g c =
    let shape = c.args.shape.now in
    let i = c.loop-instrument.invariant in
    let here = saw_told c.in_ok-quantity.ensures.told in
    told_saw (λ books sized k. k)
    (saw_then i.shape c.in_ok-quantity.ensures.goes_on.begins
    (λ books sized none found. holds_one books c.args.account c.loop-instrument.instrument c.in_ok-quantity.field-0
    found (sym c.is_some.ensures ∙ c.if-is_some.true)) i.none here)

pub loop-instrument-preserved : goal.loop-instrument-preserved
loop-instrument-preserved g c =
    let shape = c.args.shape.now in
    let i = c.loop-instrument.invariant in
    let goes = c.in_ok-quantity.ensures.goes_on in
    let here = saw_told c.in_ok-quantity.ensures.told in
    record {
      shape = goes.shape ∙ i.shape;
      origin = goes.origin ∙ i.origin;
      begins = begins_trans _ _ _ i.begins goes.begins;
      stop = goes.stops;
      sound = goes.sound;
      from = omega arith;
      none = saw_then i.shape goes.begins
          (λ books sized none found j from below. elim (cases_lt j c.loop-instrument.instrument) [
            | inl before ↦ none j from before
            | inr past ↦
                let same : c.loop-instrument.instrument ≡ j = omega (arith, past, below) in
                let absent : map.get books.positions (c.args.account, c.loop-instrument.instrument) ≡ None = sym found
                ∙ none_of c.in_ok-quantity.field-0 (sym c.is_some.ensures ∙ c.if-is_some.false) in
                subst (λ k. map.get books.positions (c.args.account, k) ≡ None) same absent
          ]) i.none here;
    }

pub returns-clause-told : goal.returns-clause-told
returns-clause-told g c =
    let i = c.loop-instrument.invariant in
    told_saw
    (λ books sized none. sym (holds_nothing books c.args.account sized.1
    (λ j from below. none j from (omega (
      arith,
      below,
      ap (λ z. z.instruments) sized.0,
      c.loop-instrument-test.false,
      c.loop-instrument.auto.instrument-end,
    ))))) i.none

pub returns-clause-stands : goal.returns-clause-stands
returns-clause-stands g c =
    let i = c.loop-instrument.invariant in
    saw_stands i.shape i.begins c.requires.stands i.none
