use Rattle.txn_stores.proofs.Common.{◌≡◌, map, take, line_of_done}
use Rattle.txn_stores.proofs.run.lines_of.Given as goal

-- the items so far have their lines
abbrev pub invariant-loop-item : goal.invariant-loop-item
invariant-loop-item g l = l.lines.items ≡ map line_of_done (take l.item-index l.done)
