use Rattle.history_model.proofs.Traces.TraceLaws.{begins_trans}
use Rattle.txn_words.proofs.GoingBack.{marked_stays}
use Rattle.memory_tests.proofs.transactions.try_many.Goals as goal

pub back_to-requires-clause-mark : goal.back_to-requires-clause-mark
back_to-requires-clause-mark g c =
    marked_stays _ _ _ _ c.mark-mark.ensures.writes c.mark-mark.ensures.trace
    (begins_trans _ _ _ c.in_ok-write-2.ensures.begins c.in_ok-write_below.ensures.begins)
