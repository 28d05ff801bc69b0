use Rattle.txn_records.proofs.Common.{IfOk-weaker, looked}
use Rattle.txn_stores.proofs.Turning.{after_look}
use Rattle.txn_records.proofs.records.put_record.Goals as goal

pub returns-in_default-clause-put : goal.returns-in_default-clause-put
returns-in_default-clause-put g c =
    let first = c.in_ok-was.ensures.goes_on in
    let second = c.put_new.ensures.goes_on in
    IfOk-weaker c.put_new.result _ _ (λ put did. after_look second.shape second.begins _ (looked first.shape first.begins c.in_ok-was.ensures.told) did)
    c.put_new.ensures.put

pub returns-in_ok-set_data-clause-put : goal.returns-in_ok-set_data-clause-put
returns-in_ok-set_data-clause-put g c =
    let first = c.in_ok-was.ensures.goes_on in
    let second = c.in_ok-set_data.ensures.goes_on in
    rw (c.if-was-from.true, c.from.ensures)
    (after_look second.shape second.begins _ (looked first.shape first.begins c.in_ok-was.ensures.told) c.in_ok-set_data.ensures.put)

pub returns-in_ok-change_rank-clause-put : goal.returns-in_ok-change_rank-clause-put
returns-in_ok-change_rank-clause-put g c =
    let first = c.in_ok-was.ensures.goes_on in
    let second = c.in_ok-change_rank.ensures.goes_on in
    after_look second.shape second.begins _ (looked first.shape first.begins c.in_ok-was.ensures.told) c.in_ok-change_rank.ensures.put
