use Rattle.script_reader.proofs.Common.{lit<, codes, refl, sym, ◌∙◌, arith, operation_forms, accounts}
use Rattle.script_reader.proofs.HandedOn.{handed_on}
use Rattle.script_reader.proofs.LineFaults.Operating.{row_one}
use Rattle.script_reader.proofs.LineFaults.RowFaults.{unknown_word, one_wrong}
use Rattle.script_reader.proofs.books.OperationRows.{free}
use Rattle.script_reader.proofs.books.operations.with_one_number.Goals as goal

pub returns-in_err-account-clause-err : goal.returns-in_err-account-clause-err
returns-in_err-account-clause-err c =
    rw (handed_on c.from_residual.ensures.1) (λ version n. one_wrong (operation_forms version n) c.args.words.now (codes "open") accounts _ (λ a. refl)
    (sym c.is_row.ensures ∙ c.if-is_row.true) c.in_err-account.ensures.err)

pub overflow_cast-result : goal.overflow_cast-result
overflow_cast-result c = omega
    (arith, (row_one (codes "open") c.args.words.now accounts (sym c.is_row.ensures ∙ c.if-is_row.true) (lit< tt) c.in_ok-account.ensures.found).0.1)

pub returns-then-is_row-clause-found : goal.returns-then-is_row-clause-found
returns-then-is_row-clause-found c version books =
    free (row_one (codes "open") c.args.words.now accounts (sym c.is_row.ensures ∙ c.if-is_row.true) (lit< tt)
    c.in_ok-account.ensures.found)

pub returns-in_err-account-2-clause-err : goal.returns-in_err-account-2-clause-err
returns-in_err-account-2-clause-err c =
    rw (handed_on c.from_residual-in_err-account-2.ensures.1) (λ version n. one_wrong (operation_forms version n) c.args.words.now
    (codes "close") accounts _ (λ a. refl)
    (sym c.is_row-2.ensures ∙ c.if-is_row-2.true) c.in_err-account-2.ensures.err)

pub overflow_cast-result-then-is_row-2 : goal.overflow_cast-result-then-is_row-2
overflow_cast-result-then-is_row-2 c = omega
    (arith, (row_one (codes "close") c.args.words.now accounts (sym c.is_row-2.ensures ∙ c.if-is_row-2.true) (lit< tt) c.in_ok-account-2.ensures.found).0.1)

pub returns-then-is_row-2-clause-found : goal.returns-then-is_row-2-clause-found
returns-then-is_row-2-clause-found c version books =
    free (row_one (codes "close") c.args.words.now accounts (sym c.is_row-2.ensures ∙ c.if-is_row-2.true) (lit< tt)
    c.in_ok-account-2.ensures.found)

pub returns-in_err-account-3-clause-err : goal.returns-in_err-account-3-clause-err
returns-in_err-account-3-clause-err c =
    rw (handed_on c.from_residual-in_err-account-3.ensures.1) (λ version n. one_wrong (operation_forms version n) c.args.words.now (codes "show") accounts _
    (λ a. refl)
    (sym c.is_row-3.ensures ∙ c.if-is_row-3.true) c.in_err-account-3.ensures.err)

pub overflow_cast-result-then-is_row-3 : goal.overflow_cast-result-then-is_row-3
overflow_cast-result-then-is_row-3 c = omega
    (arith, (row_one (codes "show") c.args.words.now accounts (sym c.is_row-3.ensures ∙ c.if-is_row-3.true) (lit< tt) c.in_ok-account-3.ensures.found).0.1)

pub returns-then-is_row-3-clause-found : goal.returns-then-is_row-3-clause-found
returns-then-is_row-3-clause-found c version books =
    free (row_one (codes "show") c.args.words.now accounts (sym c.is_row-3.ensures ∙ c.if-is_row-3.true) (lit< tt)
    c.in_ok-account-3.ensures.found)

pub returns-clause-err : goal.returns-clause-err
returns-clause-err c version n = unknown_word (operation_forms version n) c.args.words.now c.requires
    (sym c.is_row.ensures ∙ c.if-is_row.false, (sym c.is_row-2.ensures ∙ c.if-is_row-2.false, (sym c.is_row-3.ensures ∙ c.if-is_row-3.false, tt)))
