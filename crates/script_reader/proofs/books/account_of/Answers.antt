use Rattle.script_reader.proofs.Common.{lit<, ◌≡◌, ◌∷◌, [], false, codes, Some, refl, sym, subst, ◌∙◌, arith, GREATEST_ACCOUNT, IsWithin, accounts, IsRow}
use Rattle.script_reader.proofs.Common.{HasNumbers, numbers_fault}
use Rattle.script_reader.proofs.HandedOn.{handed_on}
use Rattle.script_reader.proofs.books.RowRanges.{account_ranges}
use Rattle.script_reader.proofs.books.Printing.Printed.{is_late_in}
use Rattle.script_reader.proofs.books.WithoutFault.BooksFaultless.{printed}
use Rattle.script_reader.proofs.LineFaults.Refusing.{accounts_late, late_row, numbers_row, read_row, account_fault, gives_account}
use Rattle.script_reader.proofs.text.Tokens.Ranging.{first_read}
use Rattle.script_reader.proofs.Finding.{account_low}
use Rattle.script_reader.proofs.books.account_of.Goals.{Else-is_past_accounts, In_ok-account}
use Rattle.script_reader.specs.declared.books.Row.TheVariants as row
use Rattle.script_reader.proofs.books.account_of.Goals as goal

early : (c : Else-is_past_accounts) → is_late_in 0 (printed c.args.version c.args.books.now) ≡ false
early c = accounts_late c.args.version c.args.books.now ∙ sym c.is_past_accounts.ensures ∙ c.if-is_past_accounts.false

-- the numbers of the line
numbers_of : (c : In_ok-account) → HasNumbers c.args.words.now (account_ranges c.args.version)
numbers_of c = subst (λ r. HasNumbers c.args.words.now (accounts ∷ r ∷ [])) c.cash.ensures.range c.in_ok-account.ensures.found.0

account_within : (c : In_ok-account) → IsWithin 1 GREATEST_ACCOUNT c.in_ok-account.account
account_within c = first_read (codes "account") (lit< tt) c.requires (numbers_of c)
    c.in_ok-account.ensures.found.1

pub overflow_cast-account : goal.overflow_cast-account
overflow_cast-account c = omega (arith, (account_within c).1)

pub returns-then-is_past_accounts-clause-err : goal.returns-then-is_past_accounts-clause-err
returns-then-is_past_accounts-clause-err c =
    late_row (account_fault c.args.version c.ranges-2.ensures c.args.words.now c.requires)
    (accounts_late c.args.version c.args.books.now ∙ sym c.is_past_accounts.ensures ∙ c.if-is_past_accounts.true)

pub returns-in_err-account-clause-err : goal.returns-in_err-account-clause-err
returns-in_err-account-clause-err c =
    rw (handed_on c.from_residual.ensures.1) (numbers_row (account_fault c.args.version c.ranges-2.ensures c.args.words.now c.requires)
    (early (goal.at.returns-in_err-account-clause-err c).Else-is_past_accounts)
    (subst (λ r. numbers_fault c.args.words.now (accounts ∷ r ∷ []) ≡ Some c.in_err-account.field-0.0) c.cash.ensures.range c.in_err-account.ensures.err))

pub returns-then-is_some-clause-err : goal.returns-then-is_some-clause-err
returns-then-is_some-clause-err c =
    let at = goal.at.returns-then-is_some-clause-err c in
    read_row (account_fault c.args.version c.ranges-2.ensures c.args.words.now c.requires)
    (early at.Else-is_past_accounts) (numbers_of at.In_ok-account) refl
    (account_low c.args.version c.args.books.now (account_within at.In_ok-account).0 c.in_ok-account.ensures.found.1 c.account_after.ensures.first
    ∙ sym c.is_some.ensures ∙ c.if-is_some.true) refl refl refl

pub returns-then-is_full-clause-err : goal.returns-then-is_full-clause-err
returns-then-is_full-clause-err c =
    let at = goal.at.returns-then-is_full-clause-err c in
    read_row (account_fault c.args.version c.ranges-2.ensures c.args.words.now c.requires)
    (early at.Else-is_past_accounts) (numbers_of at.In_ok-account) refl
    (account_low c.args.version c.args.books.now (account_within at.In_ok-account).0 c.in_ok-account.ensures.found.1 c.account_after.ensures.first
    ∙ sym c.is_some.ensures ∙ c.if-is_some.false) refl refl (sym c.is_full.ensures ∙ c.if-is_full.true)

pub returns-clause-row : goal.returns-clause-row
returns-clause-row c =
    let at = goal.at.returns-clause-row c in
    let found = c.in_ok-account.ensures.found in
    let fine = read_row (account_fault c.args.version c.ranges-2.ensures c.args.words.now c.requires)
    (early at.Else-is_past_accounts) (numbers_of at.In_ok-account) refl
    (account_low c.args.version c.args.books.now (account_within at.In_ok-account).0 c.in_ok-account.ensures.found.1 c.account_after.ensures.first
    ∙ sym c.is_some.ensures ∙ c.if-is_some.false) refl refl (sym c.is_full.ensures ∙ c.if-is_full.false) in
    subst (IsRow c.args.version c.args.books.now c.args.words.now) (sym (λ i. row.Account (found.1 i) (found.2 i)))
    (gives_account c.args.version c.ranges-2.ensures c.requires fine)
