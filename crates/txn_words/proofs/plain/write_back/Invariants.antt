use Rattle.txn_words.proofs.Common.{◌≡◌, length, written_back}
use Rattle.txn_words.proofs.plain.write_back.Given as goal

abbrev pub invariant-loop-a : goal.invariant-loop-a
invariant-loop-a l = written_back l.undo.list l.words.items ≡ written_back l.fn.undo.list l.fn.words.items

abbrev pub decreases-loop-a : goal.decreases-loop-a
decreases-loop-a l = length l.undo.list
