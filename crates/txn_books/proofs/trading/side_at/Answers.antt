use Rattle.txn_books.proofs.Common.{◌≡◌, ℕ, Option, Some, ap, ◌∙◌, unwrap_or, rules, goes_then, goes_as, position_of, Side, side_with}
use Rattle.txn_books.proofs.OnBooks.Accounts.{held_told}
use Rattle.txn_books.proofs.OnBooks.Turning.{looked, look_then, tells}
use Rattle.txn_books.proofs.trading.side_at.Goals as goal

abbrev side_found : ℕ → ℕ → ℕ → Option Side
side_found a cash held = Some (record { account = a; cash = cash; held = held })

pub returns : goal.returns
returns g c =
    let a = c.args.account in
    let i = c.args.instrument in
    record {
      told =
          tells (look_then c.in_ok-quantity.ensures.goes_on
          (looked c.in_ok-stored.ensures.goes_on (rw c.in-Some.is at c.in_ok-stored.ensures.told)) c.in_ok-quantity.ensures.told)
          (λ books sized k.
          let held : c.unwrap_or-held.result ≡ position_of books a i = c.unwrap_or-held.ensures ∙ ap (λ o. unwrap_or o 0) k.1 in
          ap (λ h. side_found a c.in-Some.stored.value h) held ∙ ap (side_with books a i) k.0);
      held =
          let goes = c.in_ok-quantity.ensures.goes_on in
          held_told goes c.args.shape.now a c.in-Some.stored.block
          (rw c.in-Some.is at c.in_ok-stored.ensures.held) c.in_ok-quantity.ensures.told;
      range = search rules;
      stands = c.in_ok-quantity.ensures.stands;
      goes_on = goes_as (goes_then c.in_ok-stored.ensures.goes_on c.in_ok-quantity.ensures.goes_on) (search rules);
    }

pub returns-in_err-quantity-clause-goes_on : goal.returns-in_err-quantity-clause-goes_on
returns-in_err-quantity-clause-goes_on g c = goes_as (goes_then c.in_ok-stored.ensures.goes_on c.in_err-quantity.ensures.goes_on) (search rules)
