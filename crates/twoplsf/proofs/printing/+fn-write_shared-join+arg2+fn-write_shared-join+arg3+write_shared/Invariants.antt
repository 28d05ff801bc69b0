use Rattle.twoplsf.proofs.printing.+fn-write_shared-join+arg2+fn-write_shared-join+arg3+write_shared.Given as goal

abbrev pub decreases-join+arg2 : goal.decreases-join+arg2
decreases-join+arg2 g l = l.others

abbrev pub decreases-join+arg3 : goal.decreases-join+arg3
decreases-join+arg3 g l = l.half

abbrev pub decreases-write_shared : goal.decreases-write_shared
decreases-write_shared g l = l.threads
