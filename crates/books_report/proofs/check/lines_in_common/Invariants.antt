use Rattle.books_report.proofs.Common.{◌≡◌, ◌+◌, ◌≤◌, length, zip_first, zip_second, iter_rest, in_common}
use Rattle.books_report.proofs.Checks.InCommon.{feeds}
use Rattle.books_report.proofs.check.lines_in_common.Given as goal

-- the lines so far and those in common behind them are all
abbrev pub invariant-loop-wanted : goal.invariant-loop-wanted
invariant-loop-wanted l = record {
  few : l.lines + length (iter_rest (zip_first l.wanted-iterator)) ≤ length l.fn.expected;
  all : l.lines + feeds (in_common (iter_rest (zip_first l.wanted-iterator)) (iter_rest (zip_second l.wanted-iterator)))
      ≡ feeds (in_common l.fn.expected l.fn.text);
}
