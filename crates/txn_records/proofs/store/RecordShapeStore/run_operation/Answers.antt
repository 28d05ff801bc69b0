use Rattle.txn_records.proofs.store.RecordShapeStore.run_operation.Goals as goal

pub returns-in-Put-clause-step : goal.returns-in-Put-clause-step
returns-in-Put-clause-step g c = rw c.in-Put.is c.put.ensures.step

pub returns-in-Remove-clause-step : goal.returns-in-Remove-clause-step
returns-in-Remove-clause-step g c = rw c.in-Remove.is c.remove.ensures.step

pub returns-in-Find-clause-step : goal.returns-in-Find-clause-step
returns-in-Find-clause-step g c = rw c.in-Find.is c.find.ensures.step

pub returns-in-Ranked-clause-step : goal.returns-in-Ranked-clause-step
returns-in-Ranked-clause-step g c = rw c.in-Ranked.is c.list.ensures.step
