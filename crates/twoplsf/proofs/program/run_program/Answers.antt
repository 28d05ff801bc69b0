use Rattle.twoplsf.proofs.Common.{inl, BeginWithInput, IsValidInput, IsOrdersText, IsRecordsText}
use Rattle.twoplsf.proofs.Endings.{one_status, one_of_two, ends_in_two, ends_in_three, some_with, where_ok}
use Rattle.twoplsf.specs.declared.status.Status.TheVariants as status
use Rattle.twoplsf.proofs.program.run_program.Goals as goal

pub returns-in-Ok-clause-headline : goal.returns-in-Ok-clause-headline
returns-in-Ok-clause-headline g c =
    let headline = rw c.deref.ensures.value at c.serve.ensures.headline in
    where_ok _ c.in-Ok.is (λ run done. headline run (one_status c.last_code.result c.serve.result.status status.Done c.last_code.ensures done))

pub returns-in-Ok-clause-headline_records : goal.returns-in-Ok-clause-headline_records
returns-in-Ok-clause-headline_records g c =
    let headline = rw c.deref.ensures.value at c.serve.ensures.headline_records in
    where_ok _ c.in-Ok.is (λ records done. headline records (one_status c.last_code.result c.serve.result.status status.Done c.last_code.ensures done))

pub returns-in-Ok-clause-complete_records : goal.returns-in-Ok-clause-complete_records
returns-in-Ok-clause-complete_records g c =
    let complete = rw c.deref.ensures.value at c.serve.ensures.complete_records in
    where_ok _ c.in-Ok.is (λ records. ends_in_two IsRecordsText _ _ c.last_code.result c.serve.result.status status.Done
    status.OutOfMemory _ c.last_code.ensures (complete records))

pub returns-in-Ok-clause-headline_orders : goal.returns-in-Ok-clause-headline_orders
returns-in-Ok-clause-headline_orders g c =
    let headline = rw c.deref.ensures.value at c.serve.ensures.headline_orders in
    where_ok _ c.in-Ok.is (λ orders done. headline orders (one_status c.last_code.result c.serve.result.status status.Done c.last_code.ensures done))

pub returns-in-Ok-clause-complete_orders : goal.returns-in-Ok-clause-complete_orders
returns-in-Ok-clause-complete_orders g c =
    let complete = rw c.deref.ensures.value at c.serve.ensures.complete_orders in
    where_ok _ c.in-Ok.is (λ orders. ends_in_two IsOrdersText _ _ c.last_code.result c.serve.result.status status.Done
    status.OutOfMemory _ c.last_code.ensures (complete orders))

pub returns-in-Ok-clause-day : goal.returns-in-Ok-clause-day
returns-in-Ok-clause-day g c =
    let served = rw c.deref.ensures.value at c.serve.ensures.served in
    where_ok _ c.in-Ok.is (λ run done.
    let is = one_status c.last_code.result c.serve.result.status status.Done c.last_code.ensures done in
    some_with c.serve.result.day _ (served.has_day.1 (inl run, is)) (served.day run))

pub returns-in-Ok-clause-served : goal.returns-in-Ok-clause-served
returns-in-Ok-clause-served g c = where_ok _ c.in-Ok.is (record {
  result = c.serve.result;
  number_is = c.last_code.ensures;
  served = rw c.deref.ensures.value at c.serve.ensures.served;
})

pub returns-in-Ok-clause-complete : goal.returns-in-Ok-clause-complete
returns-in-Ok-clause-complete g c =
    let complete = rw c.deref.ensures.value at c.serve.ensures.complete in
    where_ok _ c.in-Ok.is (λ run. ends_in_two IsValidInput _ _ c.last_code.result c.serve.result.status status.Done
    status.OutOfMemory _ c.last_code.ensures (complete run))

pub returns-in-Ok-clause-complete_check : goal.returns-in-Ok-clause-complete_check
returns-in-Ok-clause-complete_check g c =
    let complete = rw c.deref.ensures.value at c.serve.ensures.complete_check in
    where_ok _ c.in-Ok.is (λ check. ends_in_three BeginWithInput _ _ c.last_code.result c.serve.result.status status.Done
    status.Differs status.OutOfMemory _ c.last_code.ensures (complete check))

pub returns-in-Ok-clause-complete_making : goal.returns-in-Ok-clause-complete_making
returns-in-Ok-clause-complete_making g c =
    let complete = rw c.deref.ensures.value at c.serve.ensures.complete_making in
    where_ok _ c.in-Ok.is (λ making write. one_of_two c.last_code.result c.serve.result.status status.Done status.OutOfMemory c.last_code.ensures
    (complete making write))
