use Rattle.twoplsf.proofs.Common.{not, nat_lt, refl, sym, ap, ◌∙◌, arith, sum_by, nat_cmp_total, entries, entries_sorted, up_to_all}
use Rattle.books_report.proofs.Common.{is_lt-nat_cmp}
use Rattle.books_report.proofs.Walking.Walked.{accounts_from}
use Rattle.twoplsf.proofs.Summing.{summed_next, some_cash}
use Rattle.twoplsf.proofs.sums.summed_cash.Goals as goal

pub loop-account-init : goal.loop-account-init
loop-account-init c = rw (accounts_from c.args.books.now c.requires) refl

pub overflow_add-sum : goal.overflow_add-sum
overflow_add-sum c =
    let m = c.args.books.now.accounts in
    let next = summed_next nat_cmp_total nat_lt is_lt-nat_cmp c.loop-account.last (entries m) (
      c.in-Some.account,
      c.in-Some.cash,
    ) (entries_sorted m) (sym c.in-Some.ensures.first) in
    let few = some_cash c.args.books.now (λ e. not (nat_lt c.in-Some.account e.0)) c.requires in
    omega arith

pub loop-account-preserved : goal.loop-account-preserved
loop-account-preserved c =
    let m = c.args.books.now.accounts in
    let next = summed_next nat_cmp_total nat_lt is_lt-nat_cmp c.loop-account.last (entries m) (
      c.in-Some.account,
      c.in-Some.cash,
    ) (entries_sorted m) (sym c.in-Some.ensures.first) in
    omega (arith, c.loop-account.invariant, c.from-sum.ensures, next)

pub returns : goal.returns
returns c =
    let m = c.args.books.now.accounts in
    let all = up_to_all nat_cmp_total nat_lt is_lt-nat_cmp c.loop-account.last (entries m) (sym c.in_default.ensures.first) in
    c.loop-account.invariant ∙ ap (λ es. sum_by (λ e. e.1) es) all
