use Rattle.books_report.proofs.Common.{◌++◌, nat_lt, refl, sym, ap, ◌∙◌, append-nil, nat_cmp_total, string_bytes, flat_map, entries, entries_sorted}
use Rattle.books_report.proofs.Common.{is_lt-nat_cmp, account_line}
use Rattle.books_report.proofs.Walking.Walks.{up_to, up_to-next, up_to_all, written_next}
use Rattle.books_report.proofs.Walking.Walked.{accounts_from}
use Rattle.books_report.proofs.books.write_accounts.Goals as goal

pub loop-account-init : goal.loop-account-init
loop-account-init c = rw (accounts_from c.args.books.now c.requires, append-nil) refl

pub loop-account-preserved : goal.loop-account-preserved
loop-account-preserved c =
    let m = c.args.books.now.accounts in
    let more = up_to-next nat_cmp_total nat_lt is_lt-nat_cmp c.loop-account.last (entries m) (
      c.in-Some.account,
      c.in-Some.cash,
    ) (entries_sorted m) (sym c.in-Some.ensures.first) in
    written_next (string_bytes c.args.text.now) (string_bytes c.loop-account.text) (string_bytes c.write_account.new.text) account_line
    (up_to nat_lt c.loop-account.last (entries m)) (up_to nat_lt c.in-Some.account (entries m)) (
      c.in-Some.account,
      c.in-Some.cash,
    ) c.loop-account.invariant c.in_ok-write_account.ensures more

pub returns : goal.returns
returns c =
    let m = c.args.books.now.accounts in
    let all = up_to_all nat_cmp_total nat_lt is_lt-nat_cmp c.loop-account.last (entries m) (sym c.in_default.ensures.first) in
    c.loop-account.invariant ∙ ap (λ es. string_bytes c.args.text.now ++ flat_map account_line es) all
