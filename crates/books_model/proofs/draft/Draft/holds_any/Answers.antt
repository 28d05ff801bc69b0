use Rattle.books_model.proofs.Common.{◌≡◌, None, sym, ap, subst, ◌∙◌, inl, inr, arith, cases_lt, AreInRange}
use Rattle.books_model.proofs.Maps.Comparing.{none_of}
use Rattle.books_model.proofs.Sums.{holds_nothing, holds_one}
use Rattle.std.specs.FinMap as map
use Rattle.books_model.proofs.draft.Draft.holds_any.Goals as goal

pub returns-then-is_some : goal.returns-then-is_some
returns-then-is_some c = holds_one c.args.self.now.after c.args.account c.loop-instrument.instrument c.quantity.result
    c.quantity.ensures.value (sym c.is_some.ensures ∙ c.if-is_some.true)

pub loop-instrument-preserved : goal.loop-instrument-preserved
loop-instrument-preserved c = λ j from below. elim (cases_lt j c.loop-instrument.instrument) [
  | inl before ↦ c.loop-instrument.invariant j from before
  | inr past ↦
      let here : c.loop-instrument.instrument ≡ j = omega arith in
      let none = sym c.quantity.ensures.value ∙ none_of c.quantity.result (sym c.is_some.ensures ∙ c.if-is_some.false) in
      subst (λ i. map.get c.args.self.now.after.positions (c.args.account, i) ≡ None) here none
]

pub returns : goal.returns
returns c =
    let in_range = subst (λ d. AreInRange d.after) c.self.view_is c.self.invariant.after in
    let instruments = ap (λ d. d.after.instruments) c.self.view_is in
    sym (holds_nothing c.args.self.now.after c.args.account in_range (λ j from below.
    c.loop-instrument.invariant j from (omega (arith, c.loop-instrument-test.false, c.instruments-instrument-end.ensures, instruments))))
