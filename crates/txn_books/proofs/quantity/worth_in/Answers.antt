use Rattle.txn_books.proofs.Common.{rules, goes_then, goes_as}
use Rattle.txn_books.proofs.OnBooks.Holdings.{worth_here}
use Rattle.txn_books.proofs.OnBooks.Looking.{saw_told, told_saw, saw_then}
use Rattle.txn_books.proofs.quantity.worth_in.Goals as goal

pub returns : goal.returns
returns g c =
    let shape = c.args.shape.now in
    let a = c.args.account in
    let i = c.args.instrument in
    let quantity = saw_told (rw c.in-Some.is at c.in_ok-held.ensures.told) in
    let price = saw_told c.in_ok-price.ensures.told in
    record {
      told =
          told_saw (λ books range k. k)
          (saw_then c.in_ok-held.ensures.goes_on.shape c.in_ok-price.ensures.goes_on.begins
          (λ books range held priced. worth_here books a i c.in-Some.held c.unwrap_or-each.result c.in_ok-price.field-0
          c.unwrap_or-each.ensures held priced) quantity price);
      range = search rules;
      stands = c.in_ok-price.ensures.stands;
      goes_on = goes_as (goes_then c.in_ok-held.ensures.goes_on c.in_ok-price.ensures.goes_on) (search rules);
    }

pub returns-in_err-price-clause-goes_on : goal.returns-in_err-price-clause-goes_on
returns-in_err-price-clause-goes_on g c = goes_as (goes_then c.in_ok-held.ensures.goes_on c.in_err-price.ensures.goes_on) (search rules)
