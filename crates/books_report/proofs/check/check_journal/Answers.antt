use Rattle.books_report.proofs.Common.{◌≡◌, refl, sym, ◌∙◌, arith}
use Rattle.books_report.proofs.Checks.Found.{read_none, read_more, no_script, all_right, stops_there}
use Rattle.books_report.proofs.check.check_journal.Goals as goal

pub loop-run-init : goal.loop-run-init
loop-run-init c =
    read_none
    refl c.requires.opening c.requires.nothing_done

pub returns-in-None : goal.returns-in-None
returns-in-None c =
    let r = c.loop-run.invariant in
    let wrong = rw c.in-None.is at c.in_ok-after.ensures.wrong in
    no_script
    r c.requires.valid (omega (arith, c.loop-run-test.true, c.scripts-run-end.ensures))
    (wrong r.scripts (omega (arith, r.count_is)) r.has_run)

pub loop-run-preserved : goal.loop-run-preserved
loop-run-preserved c =
    let r = c.loop-run.invariant in
    let right = rw c.in-Some.is at c.in_ok-after.ensures.right in
    read_more
    r c.in_ok-after.ensures.fits
    (right r.scripts (omega (arith, r.count_is)) r.has_run)

pub returns-in-None-2 : goal.returns-in-None-2
returns-in-None-2 c =
    let same = rw c.in-None-2.is at c.in_ok-check_closing.ensures.same in
    all_right
    c.loop-run.invariant c.requires.valid
    (omega (arith, c.loop-run-test.false, c.loop-run.auto.run-end, c.scripts-run-end.ensures)) same

pub returns-in-Some-2 : goal.returns-in-Some-2
returns-in-Some-2 c =
    let stops = rw c.in-Some-2.is at c.in_ok-check_closing.ensures.stops in
    let all : c.loop-run.run ≡ c.scripts.result = omega (arith, c.loop-run-test.false, c.loop-run.auto.run-end, c.scripts-run-end.ensures, c.scripts.ensures) in
    rw (sym all) (stops_there
    c.loop-run.invariant c.requires.valid (all ∙ c.scripts.ensures) stops)
