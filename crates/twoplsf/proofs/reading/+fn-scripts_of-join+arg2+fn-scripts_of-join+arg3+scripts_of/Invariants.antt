use Rattle.twoplsf.proofs.reading.+fn-scripts_of-join+arg2+fn-scripts_of-join+arg3+scripts_of.Given as goal

abbrev pub decreases-join+arg2 : goal.decreases-join+arg2
decreases-join+arg2 g l = l.half

abbrev pub decreases-join+arg3 : goal.decreases-join+arg3
decreases-join+arg3 g l = l.others

abbrev pub decreases-scripts_of : goal.decreases-scripts_of
decreases-scripts_of g l = l.threads
