use Rattle.script_reader.proofs.Common.{length, refl, sym, subst, arith, le-leb, lt-leb, IsRow}
use Rattle.script_reader.proofs.HandedOn.{handed_on}
use Rattle.script_reader.proofs.LineFaults.Refusing.{numbers_row, read_row, call_fault, gives_call}
use Rattle.script_reader.specs.declared.books.Row.TheVariants as row
use Rattle.script_reader.proofs.books.call_of.Goals as goal

pub returns-in_err-account-clause-err : goal.returns-in_err-account-clause-err
returns-in_err-account-clause-err c =
    rw (handed_on c.from_residual.ensures.1) (λ version. numbers_row (call_fault version c.ranges-2.ensures c.args.words.now c.requires) refl
    c.in_err-account.ensures.err)

pub returns-then-calls-ring-clause-err : goal.returns-then-calls-ring-clause-err
returns-then-calls-ring-clause-err c version =
    let b = c.args.books.now in
    read_row (call_fault version c.ranges-2.ensures c.args.words.now c.requires) refl c.in_ok-account.ensures.found.0
    (le-leb b.ring (length b.calls) (omega (arith, c.if-calls-ring.true, c.calls.ensures, c.ring.ensures))) refl refl refl refl

pub returns-clause-row : goal.returns-clause-row
returns-clause-row c version =
    let b = c.args.books.now in
    let found = c.in_ok-account.ensures.found in
    let fine = read_row (call_fault version c.ranges-2.ensures c.args.words.now c.requires) refl found.0
    (lt-leb b.ring (length b.calls) (omega (arith, c.if-calls-ring.false, c.calls.ensures, c.ring.ensures))) refl refl refl refl in
    subst (IsRow version b c.args.words.now) (sym (λ i. row.Call (found.1 i) (found.2 i)))
    (gives_call version c.ranges-2.ensures c.requires fine)
