use Rattle.txn_books.proofs.Common.{sym, ap, ◌∙◌, rules, arith, goes_then, goes_as, put_call, Gives, nat_tests}
use Rattle.txn_books.proofs.OnBooks.Turning.{looked, look_then, answers, look_turn, of_room, comes}
use Rattle.txn_books.proofs.OnBooks.Operating.{margin_none, margin_queue, margin_done, left_with}
use Rattle.books_model.specs.declared.reply.Value.TheVariants as value
use Rattle.txn_books.proofs.operations.margin.Goals as goal

pub returns-in_default-clause-step : goal.returns-in_default-clause-step
returns-in_default-clause-step g c =
    answers (looked c.in_ok-held.ensures.goes_on (rw c.in_default.is at c.in_ok-held.ensures.told))
    (λ books sized none. grind (arith, nat_tests, none))

pub returns-then-shortfall-eq0 : goal.returns-then-shortfall-eq0
returns-then-shortfall-eq0 g c = record {
  step =
      answers (look_then c.in_ok-worth.ensures.goes_on
      (looked c.in_ok-held.ensures.goes_on (rw c.in-Some.is at c.in_ok-held.ensures.told)) c.in_ok-worth.ensures.told)
      (λ books sized k. margin_none books c.args.account c.args.rate c.in-Some.held c.in_ok-worth.field-0
      c.saturating_sub-shortfall.result k.0 k.1 c.saturating_sub-shortfall.ensures c.if-shortfall-eq0.true);
  stands = c.in_ok-worth.ensures.stands;
  goes_on = goes_as (goes_then c.in_ok-held.ensures.goes_on c.in_ok-worth.ensures.goes_on) (search rules);
}

pub returns-then-not-branch : goal.returns-then-not-branch
returns-then-not-branch g c = record {
  step =
      comes (look_turn c.in_ok-queue_call.ensures.goes_on
      (look_then c.in_ok-worth.ensures.goes_on
      (looked c.in_ok-held.ensures.goes_on (rw c.in-Some.is at c.in_ok-held.ensures.told))
      c.in_ok-worth.ensures.told) (of_room c.in_ok-queue_call.ensures.queued))
      (λ books after sized k. margin_queue books c.args.account c.args.rate c.in-Some.held c.in_ok-worth.field-0
      c.saturating_sub-shortfall.result k.0.0 k.0.1 c.saturating_sub-shortfall.ensures c.if-shortfall-eq0.false _ k.1.0 c.if-not-branch.true);
  stands = c.in_ok-queue_call.ensures.stands;
  goes_on = goes_as (goes_then (goes_then c.in_ok-held.ensures.goes_on c.in_ok-worth.ensures.goes_on) c.in_ok-queue_call.ensures.goes_on) (search rules);
}

pub returns : goal.returns
returns g c = record {
  step =
      comes (look_turn c.in_ok-queue_call.ensures.goes_on
      (look_then c.in_ok-worth.ensures.goes_on
      (looked c.in_ok-held.ensures.goes_on (rw c.in-Some.is at c.in_ok-held.ensures.told))
      c.in_ok-worth.ensures.told) (of_room c.in_ok-queue_call.ensures.queued))
      (λ books after sized k. margin_done books c.args.account c.args.rate c.in-Some.held c.in_ok-worth.field-0
      c.saturating_sub-shortfall.result k.0.0 k.0.1 c.saturating_sub-shortfall.ensures c.if-shortfall-eq0.false _ k.1.0 c.if-not-branch.false
      ∙ ap (Gives (value.Number c.saturating_sub-shortfall.result))
      (left_with _ (λ books. put_call books c.args.account c.saturating_sub-shortfall.result) books after
      c.if-not-branch.false k.1.1)
      ∙ ap (λ n. Gives (value.Number n) after) (sym c.from.ensures));
  stands = c.in_ok-queue_call.ensures.stands;
  goes_on = goes_as (goes_then (goes_then c.in_ok-held.ensures.goes_on c.in_ok-worth.ensures.goes_on) c.in_ok-queue_call.ensures.goes_on) (search rules);
}

pub returns-in_err-worth-clause-goes_on : goal.returns-in_err-worth-clause-goes_on
returns-in_err-worth-clause-goes_on g c = goes_as (goes_then c.in_ok-held.ensures.goes_on c.in_err-worth.ensures.goes_on) (search rules)

pub returns-in_err-queue_call-clause-goes_on : goal.returns-in_err-queue_call-clause-goes_on
returns-in_err-queue_call-clause-goes_on g c =
    goes_as (goes_then (goes_then c.in_ok-held.ensures.goes_on c.in_ok-worth.ensures.goes_on) c.in_err-queue_call.ensures.goes_on) (search rules)
