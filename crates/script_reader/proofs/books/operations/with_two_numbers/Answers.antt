use Rattle.script_reader.proofs.Common.{lit<, ◌≡◌, ◌∷◌, [], codes, Some, refl, sym, subst, ◌∙◌, arith, GREATEST_ACCOUNT, GREATEST_RATE, IsWithin, number}
use Rattle.script_reader.proofs.Common.{greatest_amount, operation_forms, accounts, amounts, HasNumbers, numbers_fault}
use Rattle.script_reader.proofs.HandedOn.{handed_on}
use Rattle.script_reader.proofs.books.Versions.{amount_small}
use Rattle.script_reader.proofs.LineFaults.Operating.{row_two}
use Rattle.script_reader.proofs.LineFaults.RowFaults.{unknown_word, two_wrong}
use Rattle.script_reader.proofs.books.OperationRows.{free, bound}
use Rattle.script_reader.proofs.books.operations.with_two_numbers.Goals.{In_ok-account, In_ok-account-2}
use Rattle.script_reader.proofs.books.operations.with_two_numbers.Goals as goal

pub returns-in_err-account-clause-err : goal.returns-in_err-account-clause-err
returns-in_err-account-clause-err c =
    rw (handed_on c.from_residual.ensures.1) (two_wrong (operation_forms c.args.version c.args.books.now.instruments) c.args.words.now
    (codes "deposit") accounts
    (amounts c.args.version) _ (λ a b. refl)
    (sym c.is_row.ensures ∙ c.if-is_row.true)
    (subst (λ r. numbers_fault c.args.words.now (accounts ∷ r ∷ []) ≡ Some c.in_err-account.field-0.0) c.amounts.ensures.range c.in_err-account.ensures.err))

-- the numbers of the line, and the line by them
deposit_read : (c : In_ok-account) → (IsWithin 1 GREATEST_ACCOUNT c.in_ok-account.account × IsWithin 1 (greatest_amount c.args.version) c.in_ok-account.amount)
    × (c.args.words.now ≡ codes "deposit" ∷ number c.in_ok-account.account ∷ number c.in_ok-account.amount ∷ [])
deposit_read c =
    let found = c.in_ok-account.ensures.found in
    row_two (codes "deposit") c.args.words.now accounts (amounts c.args.version) (sym c.is_row.ensures
    ∙ c.if-is_row.true) (lit< tt) (amount_small c.args.version)
    (subst (λ r. HasNumbers c.args.words.now (accounts ∷ r ∷ [])) c.amounts.ensures.range found.0, found.1, found.2)

pub overflow_cast-result : goal.overflow_cast-result
overflow_cast-result c = omega (arith, (deposit_read (goal.at.overflow_cast-result c).In_ok-account).0.0.1)

pub returns-then-is_row-clause-found : goal.returns-then-is_row-clause-found
returns-then-is_row-clause-found c = bound c.args.version (deposit_read (goal.at.returns-then-is_row-clause-found c).In_ok-account)

pub returns-in_err-account-2-clause-err : goal.returns-in_err-account-2-clause-err
returns-in_err-account-2-clause-err c =
    rw (handed_on c.from_residual-in_err-account-2.ensures.1) (two_wrong (operation_forms c.args.version c.args.books.now.instruments) c.args.words.now
    (codes "withdraw") accounts
    (amounts c.args.version) _ (λ a b. refl)
    (sym c.is_row-2.ensures ∙ c.if-is_row-2.true)
    (subst (λ r. numbers_fault c.args.words.now (accounts ∷ r ∷ []) ≡ Some c.in_err-account-2.field-0.0) c.amounts-then-is_row-2.ensures.range
    c.in_err-account-2.ensures.err))

-- the numbers of the line, and the line by them
withdraw_read : (c : In_ok-account-2) → (IsWithin 1 GREATEST_ACCOUNT c.in_ok-account-2.account
    × IsWithin 1 (greatest_amount c.args.version) c.in_ok-account-2.amount)
    × (c.args.words.now ≡ codes "withdraw" ∷ number c.in_ok-account-2.account ∷ number c.in_ok-account-2.amount ∷ [])
withdraw_read c =
    let found = c.in_ok-account-2.ensures.found in
    row_two (codes "withdraw") c.args.words.now accounts (amounts c.args.version) (sym c.is_row-2.ensures ∙ c.if-is_row-2.true) (lit< tt)
    (amount_small c.args.version)
    (subst (λ r. HasNumbers c.args.words.now (accounts ∷ r ∷ [])) c.amounts-then-is_row-2.ensures.range found.0, found.1, found.2)

pub overflow_cast-result-then-is_row-2 : goal.overflow_cast-result-then-is_row-2
overflow_cast-result-then-is_row-2 c = omega (arith, (withdraw_read (goal.at.overflow_cast-result-then-is_row-2 c).In_ok-account-2).0.0.1)

pub returns-then-is_row-2-clause-found : goal.returns-then-is_row-2-clause-found
returns-then-is_row-2-clause-found c = bound c.args.version (withdraw_read (goal.at.returns-then-is_row-2-clause-found c).In_ok-account-2)

pub returns-in_err-account-3-clause-err : goal.returns-in_err-account-3-clause-err
returns-in_err-account-3-clause-err c =
    rw (handed_on c.from_residual-in_err-account-3.ensures.1) (two_wrong (operation_forms c.args.version c.args.books.now.instruments) c.args.words.now
    (codes "margin") accounts (1, GREATEST_RATE) _
    (λ a b. refl)
    (sym c.is_row-4.ensures ∙ c.if-is_row-4.true) c.in_err-account-3.ensures.err)

pub overflow_cast-result-then-is_row-4 : goal.overflow_cast-result-then-is_row-4
overflow_cast-result-then-is_row-4 c = omega (
  arith,
  (row_two (codes "margin") c.args.words.now accounts (1, GREATEST_RATE) (sym c.is_row-4.ensures ∙ c.if-is_row-4.true) (lit< tt) (lit< tt)
      c.in_ok-account-3.ensures.found).0.0.1,
)

pub returns-then-is_row-4-clause-found : goal.returns-then-is_row-4-clause-found
returns-then-is_row-4-clause-found c =
    free (row_two (codes "margin") c.args.words.now accounts (1, GREATEST_RATE) (sym c.is_row-4.ensures ∙ c.if-is_row-4.true) (lit< tt) (lit< tt)
    c.in_ok-account-3.ensures.found)

pub returns-in_err-first-clause-err : goal.returns-in_err-first-clause-err
returns-in_err-first-clause-err c =
    rw (handed_on c.from_residual-in_err-first.ensures.1) (two_wrong (operation_forms c.args.version c.args.books.now.instruments) c.args.words.now
    (codes "sum") accounts accounts _ (λ a b. refl)
    (sym c.is_row-5.ensures ∙ c.if-is_row-5.true) c.in_err-first.ensures.err)

pub overflow_cast-result-then-is_row-5 : goal.overflow_cast-result-then-is_row-5
overflow_cast-result-then-is_row-5 c = omega (
  arith,
  (row_two (codes "sum") c.args.words.now accounts accounts (sym c.is_row-5.ensures ∙ c.if-is_row-5.true) (lit< tt) (lit< tt)
      c.in_ok-first.ensures.found).0.0.1,
)

pub overflow_cast-result-then-is_row-5-2 : goal.overflow_cast-result-then-is_row-5-2
overflow_cast-result-then-is_row-5-2 c = omega (
  arith,
  (row_two (codes "sum") c.args.words.now accounts accounts (sym c.is_row-5.ensures ∙ c.if-is_row-5.true) (lit< tt) (lit< tt)
      c.in_ok-first.ensures.found).0.1.1,
)

pub returns-then-is_row-5-clause-found : goal.returns-then-is_row-5-clause-found
returns-then-is_row-5-clause-found c =
    free (row_two (codes "sum") c.args.words.now accounts accounts (sym c.is_row-5.ensures ∙ c.if-is_row-5.true)
    (lit< tt) (lit< tt) c.in_ok-first.ensures.found)

pub price_of-requires : goal.price_of-requires
price_of-requires c = sym c.is_row-3.ensures ∙ c.if-is_row-3.true

pub returns-clause-err : goal.returns-clause-err
returns-clause-err c = unknown_word (operation_forms c.args.version c.args.books.now.instruments) c.args.words.now c.requires (
  sym c.is_row.ensures ∙ c.if-is_row.false,
  (
    sym c.is_row-2.ensures ∙ c.if-is_row-2.false,
    (
      sym c.is_row-3.ensures ∙ c.if-is_row-3.false,
      (sym c.is_row-4.ensures ∙ c.if-is_row-4.false, (sym c.is_row-5.ensures ∙ c.if-is_row-5.false, tt)),
    ),
  ),
)
