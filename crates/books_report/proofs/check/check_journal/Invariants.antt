use Rattle.books_report.proofs.Common.{◌++◌, codes}
use Rattle.books_report.proofs.Checks.Found.{IsRead}
use Rattle.books_report.proofs.check.check_journal.Given as goal

-- the lines of the scripts so far are right
abbrev pub invariant-loop-run : goal.invariant-loop-run
invariant-loop-run l = IsRead l.input (codes "journal\n" ++ l.journal) l.left l.books l.done l.run
