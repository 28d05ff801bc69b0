use Rattle.books_model.proofs.Common.{◌≡◌, ◌+◌, ◌*◌, ◌≤◌, ℕ, Option, unwrap_or, sym, ap, subst, ◌∙◌, arith, AreInRange}
use Rattle.books_model.proofs.Sums.{most_worth, worth_below, worth_first, worth_next, worth_last, price_of_most}
use Rattle.books_model.proofs.draft.Draft.worth.Goals as goal

pub loop-instrument-init : goal.loop-instrument-init
loop-instrument-init c = record {
  worth = sym (worth_first c.args.self.now.after c.args.account (subst (λ d. AreInRange d.after) c.self.view_is c.self.invariant.after));
  most = omega arith;
}

pub loop-instrument-preserved : goal.loop-instrument-preserved
loop-instrument-preserved c =
    let quantity = c.unwrap_or-quantity.ensures ∙ ap (λ (x : Option ℕ). unwrap_or x 0) c.quantity.ensures.value in
    let price = c.unwrap_or-price.ensures ∙ ap (λ (x : Option ℕ). unwrap_or x 0) c.price.ensures.value in
    let worth : c.unwrap_or-quantity.result * c.unwrap_or-price.result ≡ _ = λ i. quantity i * price i in
    let most : c.unwrap_or-quantity.result * c.unwrap_or-price.result ≤ most_worth =
    price_of_most c.quantity.result c.price.result _ _ c.quantity.ensures.range c.price.ensures.range
    c.unwrap_or-quantity.ensures c.unwrap_or-price.ensures in
    record {
      worth = omega (arith, worth, c.loop-instrument.invariant.worth, worth_next c.args.self.now.after c.args.account c.loop-instrument.instrument);
      most = omega (arith, most, c.loop-instrument.invariant.most);
    }

pub returns-clause-value : goal.returns-clause-value
returns-clause-value c =
    let in_range = subst (λ d. AreInRange d.after) c.self.view_is c.self.invariant.after in
    let instruments = ap (λ d. d.after.instruments) c.self.view_is in
    let last : c.loop-instrument.instrument ≡ c.args.self.now.after.instruments + 1 =
    omega (arith, c.loop-instrument-test.false, c.instruments-instrument-end.ensures, instruments, c.loop-instrument.auto.instrument-end) in
    c.loop-instrument.invariant.worth ∙ ap (worth_below c.args.self.now.after c.args.account) last ∙ worth_last c.args.self.now.after c.args.account in_range
