use Rattle.lock_or_yield.proofs.Common.{◌≡◌, Running, HasWriteGrant, ScansClear}
use Rattle.word_table.proofs.Common.{HasClaim}
use Rattle.lock_or_yield.proofs.Scanning.{left_below}
use Rattle.lock_or_yield.proofs.turn.scan_rest.Given as goal

-- all seats that were scanned so far are clear
abbrev pub invariant-loop-other : goal.invariant-loop-other
invariant-loop-other g l =
    (l.pass.table ≡ l.initial.pass.table) × (l.pass.view.phase ≡ Running) × HasClaim l.pass.view l.k
    × ScansClear l.k l.initial.pass.view l.pass.view
    × (HasWriteGrant l.initial.pass.view l.k → l.pass.view ≡ l.initial.pass.view)

-- how many are left to scan
abbrev pub decreases-loop-other : goal.decreases-loop-other
decreases-loop-other g l = left_below l.pass.view.seats l.k l.pass.view.who l.pass.view.scans
